use Rattle.std.proofs.Common.{◌≡◌, ap₂, ◌∙◌, ℕ, ◌/◌, ◌<◌, Option, Some, None}
use native.Mathlib.Nat.{div-zero}
use native.Mathlib.Omega.{arith}
use Rattle.std.specs.Option.{SomeIff, unwrap_or}
use Rattle.rules.specs.Curve.{full_hours}
use Rattle.parameters.proofs.full_hours.Goals as goal

-- 0 where nothing divides
quotient_or : (o : Option ℕ) (a b : ℕ) → SomeIff o (0 < b) (a / b) → unwrap_or o 0 ≡ a / b
quotient_or (Some x) a b h = h.1
quotient_or None a b h =
    let z : b ≡ 0 = omega arith in
    rw (z, div-zero)

pub returns : goal.returns
unfolding full_hours
returns c =
    c.unwrap_or.ensures ∙ quotient_or _ _ _ c.checked_div.ensures
    ∙ ap₂ (λ (x y : ℕ). x / y) c.charge.ensures.0 c.capacity.ensures.0
