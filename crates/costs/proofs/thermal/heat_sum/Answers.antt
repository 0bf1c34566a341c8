use Rattle.costs.proofs.Costs.{heat-costs}
use Rattle.costs.proofs.thermal.heat_sum.Goals as goal

pub returns : goal.returns
returns c = (
  heat-costs _ _ _ c.fuel-fuel.ensures.0 c.emission-emission.ensures.0 c.factor.ensures.0 _
      c.heat_cost.ensures.0,
  c.heat_cost.ensures.1,
)
