use Rattle.costs.proofs.Costs.{no_load-costs}
use Rattle.costs.proofs.thermal.no_load_cost.Goals as goal

pub returns : goal.returns
returns c = no_load-costs _ _ _ c.no_load_heat.ensures.0 c.heat_sum.ensures.0 c.adders.ensures.0
