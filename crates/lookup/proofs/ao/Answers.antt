use mathlib.Core.Path.{refl, sym, ◌∙◌}
use Rattle.lists.specs.Tests.{among}
use Rattle.records.specs.Record.{datable}
use Rattle.records.specs.Table.{table, AO}
use Rattle.records.proofs.Record.{ao-size}
use Rattle.lookup.proofs.Keys.{owner-key}
use Rattle.lookup.proofs.Held.{slot-fits, part_held, asks-found}
use Rattle.lookup.proofs.ao.Goals as goal

pub held_at-requires : goal.held_at-requires
unfolding datable among table
held_at-requires c =
    let p = c.requires in
    asks-found p.0 AO _ refl (owner-key _ _ _ _ p.1 p.2 p.3 p.4 p.5 p.6 p.7 p.8) refl c.slot_ao.ensures (sym ao-size)

pub returns : goal.returns
unfolding datable among table
returns c =
    let p = c.requires in
    let key = owner-key _ _ _ _ p.1 p.2 p.3 p.4 p.5 p.6 p.7 p.8 in
    c.held_at.ensures.record refl ∙ part_held p.0 AO _ key (slot-fits p.0 AO _ refl key refl) refl c.slot_ao.ensures (sym ao-size)
