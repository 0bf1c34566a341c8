use Rattle.lists.specs.Tests.{all_below}
use Rattle.lists.proofs.Tests.{and-true}
use Rattle.records.specs.Table.{table, row_of, field_of}
use Rattle.records.specs.Record.{fields_at, offset_in, offset, read, value, in_range, agrees, ranges_hold}
use Rattle.records.specs.MarkShapes.{key_field}
use Rattle.records.proofs.Ranges.{}
use Rattle.records.proofs.rows.HrRow.ranges_hold.Goals as goal

pub returns : goal.returns
unfolding ranges_hold all_below in_range agrees value read offset fields_at offset_in field_of row_of table key_field
returns c = simp (c.in_field.ensures, c.u8_at.ensures, c.price.ensures, and-true)
