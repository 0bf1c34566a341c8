use mathlib.Core.Path.{refl, sym, ◌∙◌}
use Rattle.lists.specs.Tests.{among}
use Rattle.records.specs.Record.{datable}
use Rattle.records.specs.Table.{table, HP}
use Rattle.records.proofs.Record.{hp-size}
use Rattle.lookup.proofs.Keys.{point-key}
use Rattle.lookup.proofs.Held.{part-found, asks-found}
use Rattle.lookup.proofs.hp.Goals as goal

pub held_at-requires : goal.held_at-requires
unfolding datable among table
held_at-requires c = let p = c.requires in asks-found p.0 HP _ refl (point-key _ p.1 p.2) refl c.slot_hp.ensures (sym hp-size)

pub returns : goal.returns
unfolding datable among table
returns c = let p = c.requires in c.held_at.ensures.record refl ∙ part-found p.0 HP _ refl (point-key _ p.1 p.2) refl c.slot_hp.ensures (sym hp-size)
