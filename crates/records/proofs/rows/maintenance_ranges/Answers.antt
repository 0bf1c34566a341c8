use native.Mathlib.Nat.{add_assoc}
use Rattle.lists.specs.Tests.{all_below}
use Rattle.records.specs.Table.{table, row_of, field_of}
use Rattle.records.specs.Record.{offset_in, read, in_range}
use Rattle.records.specs.MarkShapes.{key_field, fields_hold}
use Rattle.records.proofs.Ranges.{up-to, inside}
use Rattle.records.proofs.rows.maintenance_ranges.Goals as goal

pub returns : goal.returns
unfolding fields_hold all_below in_range read offset_in field_of row_of table key_field
returns g c =
    simp (
      inside 1 20000 c.u16_at.result c.new.ensures.start c.new.ensures.end c.new.ensures.exhausted c.contains.ensures.value,
      inside 1 1000000 c.u32_at.result c.new-2.ensures.start c.new-2.ensures.end c.new-2.ensures.exhausted c.contains-2.ensures.value,
      c.in_field.ensures,
      c.u8_at.ensures,
      c.in_field-2.ensures,
      c.u8_at-2.ensures,
      c.u64_at.ensures,
      c.u16_at.ensures,
      c.u32_at.ensures,
      c.u16_at-2.ensures,
      up-to,
      add_assoc,
    )
