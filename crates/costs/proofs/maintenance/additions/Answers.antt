use mathlib.Core.Path.{ap₂}
use Prim.Native.Nat.{ℕ, ◌+◌}
use native.Mathlib.Omega.{arith}
use Rattle.formulas.specs.Exact.{micro_dollars}
use Rattle.formulas.specs.Levels.{additions}
use Rattle.costs.proofs.maintenance.additions.Goals as goal

pub returns : goal.returns
unfolding micro_dollars additions
returns c = (
  ap₂ (λ (x y : ℕ). x + y) c.adders.ensures.0 c.maintenance.ensures.0,
  omega (arith, c.adders.ensures.1, c.maintenance.ensures.1),
)
