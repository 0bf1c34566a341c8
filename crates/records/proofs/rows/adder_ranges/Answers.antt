use native.Mathlib.Nat.{add_assoc}
use Rattle.lists.specs.Tests.{all_below}
use Rattle.records.specs.Table.{table, row_of, field_of}
use Rattle.records.specs.Record.{offset_in, read, in_range}
use Rattle.records.specs.MarkShapes.{key_field, fields_hold}
use Rattle.records.proofs.Ranges.{up-to}
use Rattle.records.proofs.rows.adder_ranges.Goals as goal

pub returns : goal.returns
unfolding fields_hold all_below in_range read offset_in field_of row_of table key_field
returns g c =
    simp (
      c.in_field.ensures,
      c.u8_at.ensures,
      c.in_field-2.ensures,
      c.u8_at-2.ensures,
      c.in_field-3.ensures,
      c.u8_at-3.ensures,
      c.u64_at.ensures,
      up-to,
      add_assoc,
    )
