use Rattle.lists.specs.Tests.{all_below}
use Rattle.records.specs.Table.{table, row_of, field_of}
use Rattle.records.specs.Record.{fields_at, offset_in, offset, read, value, in_range, agrees, ranges_hold}
use Rattle.records.proofs.Ranges.{up-to, inside}
use Rattle.records.proofs.rows.RsRow.ranges_hold.Goals as goal

pub returns : goal.returns
unfolding ranges_hold all_below in_range agrees value read offset fields_at offset_in field_of row_of table
returns c =
    simp (
      inside 1 4 c.u8_at-technology.result c.new.ensures.start c.new.ensures.end c.new.ensures.exhausted c.contains.ensures.value,
      inside 1 20000 c.u16_at.result c.new-2.ensures.start c.new-2.ensures.end c.new-2.ensures.exhausted c.contains-2.ensures.value,
      inside 500 2000 c.u16_at-performance.result c.new-3.ensures.start c.new-3.ensures.end c.new-3.ensures.exhausted c.contains-3.ensures.value,
      inside 500 1000 c.u16_at-efficiency.result c.new-4.ensures.start c.new-4.ensures.end c.new-4.ensures.exhausted c.contains-4.ensures.value,
      c.u8_at-technology.ensures,
      c.u16_at.ensures,
      c.u16_at-performance.ensures,
      c.u32_at.ensures,
      c.u32_at-2.ensures,
      c.u32_at-3.ensures,
      c.u32_at-4.ensures,
      c.u16_at-efficiency.ensures,
      c.u16_at-window.ensures,
      up-to,
    )
