use mathlib.Core.Path.{ap₂}
use Prim.Native.Nat.{ℕ, ◌+◌, ◌≤◌}
use native.Mathlib.Nat.{mul-le-mul}
use native.Mathlib.Omega.{arith}
use Rattle.formulas.proofs.Rounding.{quotient_le}
use Rattle.arithmetic.proofs.heat_cost.Goals as goal

-- both terms together
within : (c : goal.After-share-2) → c.share.result + c.share-2.result ≤ 24000000000000
within c =
    let h = c.requires in
    omega (
      arith,
      c.share.ensures.0,
      c.share-2.ensures.0,
      quotient_le _ 1000000 16000000000000 (mul-le-mul (mul-le-mul h.0 h.1) h.3),
      quotient_le _ 1000 8000000000000 (mul-le-mul h.0 h.2),
    )

pub returns : goal.returns
returns c = (ap₂ (λ (x y : ℕ). x + y) c.share.ensures.0 c.share-2.ensures.0, within c)
