use mathlib.Core.Path.{refl, sym, ◌∙◌}
use Rattle.lists.specs.Tests.{among}
use Rattle.records.specs.Record.{datable}
use Rattle.records.specs.Table.{table, HR}
use Rattle.records.proofs.Record.{hr-size}
use Rattle.lookup.proofs.Keys.{hour-key}
use Rattle.lookup.proofs.Held.{part-found, asks-found}
use Rattle.lookup.proofs.hr.Goals as goal

pub held_at-requires : goal.held_at-requires
unfolding datable among table
held_at-requires c = let p = c.requires in asks-found p.0 HR _ refl (hour-key _ p.1 p.2) refl c.slot_hr.ensures (sym hr-size)

pub returns : goal.returns
unfolding datable among table
returns c = let p = c.requires in c.held_at.ensures.record refl ∙ part-found p.0 HR _ refl (hour-key _ p.1 p.2) refl c.slot_hr.ensures (sym hr-size)
