use mathlib.Core.Path.{◌≡◌, refl, sym, ap, subst}
use Prim.Native.Nat.{ℕ}
use native.Mathlib.Omega.{arith}
use borrow.Author.Rules.{rules}
use lib.ListN.{length}
use Rattle.text.proofs.Over.{Wrote}
use Rattle.arrays.specs.Packed.{in_arrays}
use Rattle.lines.specs.Parts.{lamination_lines}
use Rattle.lines.proofs.Levels.{no_line, line-fits, turn}
use Rattle.lines.proofs.put_laminations.Goals as goal

-- no line yet
pub loop-i-init : goal.loop-i-init
loop-i-init c =
    let z = no_line (in_arrays c.args.from.now c.args.to.now c.args.cents.now c.args.count) in
    (refl, (ap length (sym z), rw z))

-- the lines before place i and the line there fit
pub put_energy_line-at-requires : goal.put_energy_line-at-requires
put_energy_line-at-requires c =
    let told = in_arrays c.args.from.now c.args.to.now c.args.cents.now c.args.count in
    omega (arith, line-fits told c.loop-i.i c.args.count (omega arith))

pub loop-i-preserved : goal.loop-i-preserved
loop-i-preserved c =
    let told = in_arrays c.args.from.now c.args.to.now c.args.cents.now c.args.count in
    (search rules, turn told c.loop-i.i c.args.buf.now c.loop-i.invariant.1 c.put_energy_line-at.ensures)

pub returns : goal.returns
returns c =
    let told = in_arrays c.args.from.now c.args.to.now c.args.cents.now c.args.count in
    let l = c.loop-i in
    let z : l.i ≡ c.args.count = omega arith in
    subst (λ (n : ℕ). Wrote (lamination_lines told n) c.args.buf.now l.at l.buf) z l.invariant.1
