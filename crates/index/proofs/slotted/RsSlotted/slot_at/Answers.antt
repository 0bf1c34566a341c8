use mathlib.Core.Path.{refl}
use Rattle.records.specs.Table.{table, row_of}
use Rattle.records.specs.Record.{key_in, key_width, fields_at, kind_of, is_dated}
use Rattle.index.specs.Slots.{slot, slot_at}
use Rattle.index.proofs.slotted.RsSlotted.slot_at.Goals as goal

pub returns : goal.returns
unfolding slot slot_at key_width key_in row_of table fields_at kind_of is_dated
returns c = refl
