use mathlib.Core.Path.{ap, ◌∙◌}
use Rattle.formulas.specs.Exact.{cents}
use Rattle.costs.proofs.Costs.{thermal-costs}
use Rattle.costs.proofs.thermal.lamination.Goals as goal

pub returns : goal.returns
returns c =
    c.from_sum-level.ensures
    ∙ ap cents
    (thermal-costs _ _ _ c.fuel-fuel.ensures.0 c.emission-emission.ensures.0 c.factor-factor.ensures.0 _
    c.heat_rise-heat.ensures.0 c.output_rise-output.ensures.0 c.rise_cost.ensures.0 c.requires.5)
