use mathlib.Core.Path.{◌≡◌, sym}
use Prim.Native.Nat.{◌+◌, ◌/◌}
use native.Mathlib.Nat.{mod-lt, pos_of_ne-zero}
use native.Mathlib.Omega.{arith}
use Rattle.formulas.specs.Exact.{quotient}
use Rattle.formulas.proofs.Rounding.{quotient-none, quotient-self, remainder-up, remainder-down}
use Rattle.arithmetic.proofs.share.Goals as goal

pub returns-then-by-eq0 : goal.returns-then-by-eq0
returns-then-by-eq0 c = (rw c.if-by-eq0.true (sym (quotient-none _)), omega arith)

pub overflow_sub-by : goal.overflow_sub-by
overflow_sub-by c = omega (arith, mod-lt c.args.n (pos_of_ne-zero c.if-by-eq0.false))

up : (c : goal.Then-by-left) → c.args.n / c.args.by + 1 ≡ quotient c.args.n c.args.by
up c = remainder-up c.args.n c.args.by (pos_of_ne-zero c.if-by-eq0.false) (omega arith)

pub overflow_add-result : goal.overflow_add-result
overflow_add-result c = omega (arith, up c, quotient-self c.args.n c.args.by)

pub returns-then-by-left : goal.returns-then-by-left
returns-then-by-left c = (up c, omega (arith, up c, quotient-self c.args.n c.args.by))

pub returns-else-by-left : goal.returns-else-by-left
returns-else-by-left c =
    let e = remainder-down c.args.n c.args.by (pos_of_ne-zero c.if-by-eq0.false) (omega arith) in
    (e, omega (arith, e, quotient-self c.args.n c.args.by))
