use native.Mathlib.Omega.{arith}
use Rattle.index.proofs.Slots.{slot_lt}
use Rattle.lookup.proofs.Keys.{fuel-key}
use Rattle.query.proofs.Drawn.{fuel-slot, without, with-fuel}
use Rattle.query.proofs.fuel_at.Goals as goal

pub offset_bounds-index-slot_fu : goal.offset_bounds-index-slot_fu
offset_bounds-index-slot_fu c = let p = c.profile-profile.ensures in omega (arith, c.slot_fu.ensures, slot_lt _ _ (fuel-key _ p.1 p.2))

pub returns-then-index-slot_fu-eq0 : goal.returns-then-index-slot_fu-eq0
returns-then-index-slot_fu-eq0 c =
    let p = c.profile-profile.ensures in
    without c.args.hour c.requires p.0 p.1 p.2 c.slot_fu.ensures c.if-index-slot_fu-eq0.true

pub returns : goal.returns
returns c =
    let p = c.profile-profile.ensures in
    with-fuel c.args.hour c.requires p.0 p.1 p.2 c.slot_fu.ensures c.if-index-slot_fu-eq0.false

pub bounds-index-slot_fu : goal.bounds-index-slot_fu
bounds-index-slot_fu c =
    let p = c.profile-profile.ensures in
    rw c.slot_fu.ensures (fuel-slot c.args.hour c.requires p.0 p.1 p.2)
