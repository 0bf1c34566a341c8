use native.Mathlib.Omega.{arith}
use Rattle.requirements.proofs.Fuel.{fuel-fits, fuel-told}
use Rattle.requirements.proofs.fuel_there.Goals as goal

pub offset_bounds-index-slot_fu : goal.offset_bounds-index-slot_fu
offset_bounds-index-slot_fu c = let p = c.requires in omega (arith, fuel-fits _ _ p.0 _ p.1 p.2 c.slot_fu.ensures)

pub bounds-index-slot_fu : goal.bounds-index-slot_fu
bounds-index-slot_fu c = let p = c.requires in fuel-fits _ _ p.0 _ p.1 p.2 c.slot_fu.ensures

pub returns : goal.returns
returns c = let p = c.requires in fuel-told _ _ p.0 _ p.1 p.2 c.slot_fu.ensures
