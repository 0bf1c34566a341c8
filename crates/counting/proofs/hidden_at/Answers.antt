use Rattle.records.specs.Marks.{row}
use Rattle.counting.proofs.Held.{unasked, looked}
use Rattle.counting.proofs.hidden_at.Goals as goal

pub returns-then-is_valued-s : goal.returns-then-is_valued-s
returns-then-is_valued-s c =
    let a = c.args in
    unasked a.d.now a.index.now (row a.mark) a.s.now c.is_valued.ensures c.if-is_valued-s.true

pub returns : goal.returns
returns c =
    let a = c.args in
    looked a.d.now a.index.now (row a.mark) a.s.now c.is_valued.ensures c.if-is_valued-s.false
    c.slot_at.ensures c.hides.ensures
