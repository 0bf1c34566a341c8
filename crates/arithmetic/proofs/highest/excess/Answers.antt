use Rattle.std.proofs.Common.{rules, ◌≡◌, ◌-◌, ◌∙◌, sum_by}
use native.Mathlib.Omega.{arith}
use Rattle.arithmetic.specs.Highest.{excess}
use Rattle.arithmetic.proofs.Selection.{sum_by-sum_of, excess-high}
use Rattle.arithmetic.proofs.highest.excess.Goals as goal

pub returns : goal.returns
returns c =
    let e : c.sum.result ≡ sum_by (λ x. x - c.args.v) c.args.s.now = search rules in
    let f : c.sum.result ≡ excess c.args.v c.args.s.now = e ∙ sum_by-sum_of _ _ in
    (f, omega (arith, f, excess-high c.args.v c.args.s.now c.type_inv.s))
