use native.Mathlib.Omega.{arith}
use Rattle.lookup.proofs.Held.{whole-indexed}
use Rattle.requirements.proofs.Fuel.{request-named}
use Rattle.requirements.proofs.request_fuelled.Goals as goal

pub requested-p-requires : goal.requested-p-requires
requested-p-requires c = (whole-indexed c.requires.0, omega arith, omega arith)

pub returns : goal.returns
returns c = request-named _ _ c.requested-p.ensures.0 c.if-p-eq0.false c.fuel_there.ensures
