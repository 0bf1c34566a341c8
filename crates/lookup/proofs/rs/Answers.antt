use mathlib.Core.Path.{refl, sym, ◌∙◌}
use Rattle.lists.specs.Tests.{among}
use Rattle.records.specs.Record.{datable}
use Rattle.records.specs.Table.{table, RS}
use Rattle.records.proofs.Record.{rs-size}
use Rattle.index.specs.Slots.{slot}
use Rattle.lookup.proofs.Keys.{station-key}
use Rattle.lookup.proofs.Held.{part-found, asks-found}
use Rattle.lookup.proofs.rs.Goals as goal

pub held_at-requires : goal.held_at-requires
unfolding slot datable among table
held_at-requires c = asks-found c.requires RS _ refl station-key refl refl (sym rs-size)

pub returns : goal.returns
unfolding slot datable among table
returns c = c.held_at.ensures.record refl ∙ part-found c.requires RS _ refl station-key refl refl (sym rs-size)
