use mathlib.Core.Path.{ap, ◌∙◌}
use Rattle.records.specs.Table.{table, row_of, AO}
use Rattle.records.specs.Record.{key_in, key_width, fields_at, kind_of, is_dated}
use Rattle.index.specs.Slots.{slot, slot_at}
use Rattle.index.proofs.Entries.{four-fields}
use Rattle.index.proofs.slotted.AoSlotted.slot_at.Goals as goal

pub returns : goal.returns
unfolding slot_at key_width key_in row_of table fields_at kind_of is_dated
returns c = c.slot_ao.ensures ∙ ap (slot AO) (rw (c.u8_at.ensures, c.u8_at-2.ensures, c.u8_at-3.ensures, c.u8_at-4.ensures) (four-fields 6 _))
