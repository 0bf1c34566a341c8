use mathlib.Core.Path.{ap₂, ◌∙◌}
use Prim.Native.Nat.{ℕ, ◌-◌}
use native.Mathlib.Omega.{arith}
use Rattle.rules.specs.Curve.{rise}
use Rattle.costs.proofs.thermal.output_rise.Goals as goal

pub returns : goal.returns
unfolding rise
returns c =
    (c.saturating_sub.ensures ∙ ap₂ (λ (x y : ℕ). x - y) c.output.ensures.0 c.output-2.ensures.0, omega (arith, c.saturating_sub.ensures))
