use Rattle.costs.proofs.Costs.{nuclear-costs}
use Rattle.costs.proofs.nuclear.nuclear_energy.Goals as goal

pub returns : goal.returns
returns c =
    nuclear-costs _ _ _ c.incremental_fuel-uranium.ensures.0 c.fuel-fuel.ensures.0 c.factor-factor.ensures.0 c.share.ensures.0
    c.additions.ensures.0
