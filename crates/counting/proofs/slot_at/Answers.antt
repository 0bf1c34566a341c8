use Rattle.counting.proofs.Marks.{slot-fuel, slot-item}
use Rattle.counting.proofs.slot_at.Goals as goal

pub returns-in-FU : goal.returns-in-FU
returns-in-FU c =
    slot-fuel c.args.mark c.args.s.now _ c.kind_of.ensures c.fields_at-at.ensures c.in-FU.is c.u8_at-first.ensures c.slot_fu.ensures

pub returns-in_default : goal.returns-in_default
returns-in_default c =
    slot-item c.args.mark c.args.s.now _ c.kind_of.ensures c.fields_at-at.ensures c.requires c.in_default.not-FU c.u8_at-first.ensures
    c.u8_at.ensures c.slot_mm.ensures
