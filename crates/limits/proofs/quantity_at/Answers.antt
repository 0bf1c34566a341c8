use mathlib.Core.Path.{ap, ◌∙◌}
use Prim.Native.Nat.{ℕ, ◌+◌, ◌*◌}
use native.Mathlib.Omega.{arith}
use Rattle.fields.specs.Numbers.{number}
use Rattle.verdicts.specs.Test.{quantity}
use Rattle.limits.proofs.Turns.{number-part}
use Rattle.limits.proofs.quantity_at.Goals as goal

pub returns-then-offer-end : goal.returns-then-offer-end
unfolding quantity
returns-then-offer-end c = c.u16_at.ensures

pub returns : goal.returns
unfolding quantity
returns c =
    let a = c.args in
    c.u16_at-2.ensures ∙ number-part (6 * a.k) (6 * a.k + 6) 0 2 a.offer.now (omega arith) ∙ ap (λ (o : ℕ). number o 2 a.offer.now) (omega arith)
