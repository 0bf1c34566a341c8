use mathlib.Core.Path.{◌≡◌, sym, ap, ◌∙◌}
use Prim.Native.Nat.{ℕ}
use native.Mathlib.Omega.{arith}
use lib.ListN.{length}
use Rattle.arrays.specs.Packed.{in_arrays}
use Rattle.lines.specs.Parts.{lamination_lines}
use Rattle.lines.proofs.Levels.{no_line, next-length, laminations-within, line-fits}
use Rattle.lines.proofs.laminations_len.Goals as goal

-- no line yet
pub loop-i-init : goal.loop-i-init
loop-i-init c = ap length (sym (no_line (in_arrays c.args.from.now c.args.to.now c.args.cents.now c.args.count)))

pub overflow_add-len : goal.overflow_add-len
overflow_add-len c =
    let told = in_arrays c.args.from.now c.args.to.now c.args.cents.now c.args.count in
    omega (arith, line-fits told c.loop-i.i c.args.count (omega arith), laminations-within told c.args.count)

pub loop-i-preserved : goal.loop-i-preserved
loop-i-preserved c =
    let told = in_arrays c.args.from.now c.args.to.now c.args.cents.now c.args.count in
    omega (arith, next-length told c.loop-i.i)

pub returns : goal.returns
returns c =
    let told = in_arrays c.args.from.now c.args.to.now c.args.cents.now c.args.count in
    let z : c.loop-i.i ≡ c.args.count = omega arith in
    c.loop-i.invariant ∙ ap (λ (n : ℕ). length (lamination_lines told n)) z
