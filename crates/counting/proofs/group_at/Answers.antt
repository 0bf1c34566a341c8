use Rattle.counting.proofs.Marks.{group-adder, group-own, group-keyless, group-byte, group-two}
use Rattle.counting.proofs.group_at.Goals.{After-fields_at-from}
use Rattle.counting.proofs.group_at.Goals as goal

pub returns-in-AD : goal.returns-in-AD
returns-in-AD c =
    group-adder c.args.mark c.args.s.now _ c.kind_of-kind.ensures c.fields_at-from.ensures c.in-AD.is c.u8_at.ensures c.u16_at.ensures
    c.u16_at.type_inv

pub returns-in-AO : goal.returns-in-AO
returns-in-AO c =
    group-own c.args.mark c.args.s.now _ c.kind_of-kind.ensures c.fields_at-from.ensures c.in-AO.is c.u8_at-in-AO.ensures c.u8_at-in-AO-2.ensures
    c.u8_at-in-AO-3.ensures c.u8_at-in-AO-4.ensures c.u8_at-in-AO-2.type_inv c.u8_at-in-AO-3.type_inv c.u8_at-in-AO-4.type_inv

pub returns-in-Unknown : goal.returns-in-Unknown
returns-in-Unknown c =
    group-keyless c.args.mark c.args.s.now _ c.kind_of-kind.ensures c.fields_at-from.ensures c.in-Unknown.is

pub returns-in-HP : goal.returns-in-HP
returns-in-HP c =
    group-byte c.args.mark c.args.s.now _ c.kind_of-kind.ensures c.fields_at-from.ensures c.in-HP.is c.u8_at-in-HP.type_inv c.u8_at-in-HP.ensures

pub returns-in_default : goal.returns-in_default
returns-in_default c =
    let o = c.in_default in
    group-two c.args.mark c.args.s.now _ c.kind_of-kind.ensures c.fields_at-from.ensures o.not-Unknown o.not-RS o.not-HP o.not-FU o.not-AD o.not-RQ
    o.not-HR o.not-LC o.not-AO c.u16_at-in_default.type_inv c.u16_at-in_default.ensures
