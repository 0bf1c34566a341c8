use mathlib.Core.Path.{sym, ◌∙◌}
use Rattle.lists.proofs.Tests.{and-true}
use Rattle.records.specs.Table.{table, row_of, field_of}
use Rattle.records.specs.Record.{ranges_hold, agrees, value, offset, fields_at}
use Rattle.records.specs.MarkShapes.{fields_hold}
use Rattle.records.proofs.rows.MvRow.ranges_hold.Goals as goal

pub returns : goal.returns
unfolding ranges_hold agrees value offset fields_at field_of row_of table fields_hold
returns c = c.maintenance_ranges.ensures ∙ sym (and-true _)
