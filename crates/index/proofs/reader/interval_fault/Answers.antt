use mathlib.Core.Path.{refl, sym, ◌∙◌}
use Rattle.records.specs.Table.{CH, table, row_of}
use Rattle.records.specs.Record.{mark_in, widths, size, fields_at}
use Rattle.index.proofs.Entries.{as_short, reading-as}
use Rattle.index.proofs.Intervals.{unfair}
use Rattle.index.proofs.reader.interval_fault.Goals as goal

pub returns-then-rest : goal.returns-then-rest
unfolding mark_in size widths row_of table fields_at
returns-then-rest c =
    let p = c.requires in
    sym (reading-as 67 72 CH _ refl refl p.0 p.1) ∙ sym (as_short CH _ c.if-rest.true)

pub returns : goal.returns
unfolding mark_in size widths row_of table fields_at
returns c =
    let p = c.requires in
    sym (reading-as 67 72 CH _ refl refl p.0 p.1) ∙ unfair _ p.1 p.2 c.if-rest.false
