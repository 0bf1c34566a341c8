use Rattle.lists.specs.Tests.{all_below}
use Rattle.lists.proofs.Tests.{and-true}
use Rattle.records.specs.Table.{table, row_of, field_of}
use Rattle.records.specs.Record.{fields_at, offset_in, offset, read, value, in_range, agrees, ranges_hold}
use Rattle.records.proofs.Ranges.{up-to}
use Rattle.records.proofs.rows.LcRow.ranges_hold.Goals as goal

pub returns : goal.returns
unfolding ranges_hold all_below in_range agrees value read offset fields_at offset_in field_of row_of table
returns c = simp (c.u32_at.ensures, up-to, and-true)
