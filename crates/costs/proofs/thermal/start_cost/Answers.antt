use Rattle.costs.proofs.Costs.{start-costs}
use Rattle.costs.proofs.thermal.start_cost.Goals as goal

pub returns : goal.returns
returns c =
    start-costs _ _ _ c.start_heat.ensures.0 c.heat_sum.ensures.0 c.adders.ensures.0
    c.start_maintenance.ensures.0
