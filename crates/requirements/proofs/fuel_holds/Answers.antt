use Rattle.requirements.proofs.Fuel.{fuel-whole}
use Rattle.requirements.proofs.fuel_holds.Goals as goal

pub returns : goal.returns
returns c = fuel-whole _ c.fuel_there.ensures c.requests_fuelled.ensures
