use mathlib.Core.Path.{ap}
use native.Mathlib.Omega.{arith}
use Rattle.records.specs.Marks.{row}
use Rattle.hours.proofs.Marks.{fields-at-most, slot-fu, slot-ad, slot-mm, slot-other}
use Rattle.hours.proofs.slot_of_dated.Goals as goal

pub overflow_add-at : goal.overflow_add-at
overflow_add-at c = omega (arith, fields-at-most _ _ c.fields_at-at.ensures)

pub overflow_add-at-in-AD : goal.overflow_add-at-in-AD
overflow_add-at-in-AD c = omega (arith, fields-at-most _ _ c.fields_at-at.ensures)

pub overflow_add-at-in-MM : goal.overflow_add-at-in-MM
overflow_add-at-in-MM c = omega (arith, fields-at-most _ _ c.fields_at-at.ensures)

pub returns-in-FU : goal.returns-in-FU
returns-in-FU c = slot-fu _ _ c.kind_of.ensures c.fields_at-at.ensures (ap row c.in-FU.is) c.u8_at.ensures c.slot_fu.ensures

pub returns-in-AD : goal.returns-in-AD
returns-in-AD c =
    slot-ad _ _ c.kind_of.ensures c.fields_at-at.ensures (ap row c.in-AD.is) c.u8_at-in-AD.ensures c.u8_at-in-AD-2.ensures
    c.u8_at-in-AD-3.ensures c.slot_ad.ensures

pub returns-in-MM : goal.returns-in-MM
returns-in-MM c =
    slot-mm _ _ c.kind_of.ensures c.fields_at-at.ensures (ap row c.in-MM.is) c.u8_at-in-MM.ensures c.u8_at-in-MM-2.ensures
    c.slot_mm.ensures

pub returns-in_default : goal.returns-in_default
returns-in_default c =
    let d = c.in_default in
    slot-other _ _ c.kind_of.ensures c.requires d.not-FU d.not-AD d.not-MM
