use mathlib.Core.Path.{refl, sym, ◌∙◌}
use Rattle.lists.specs.Tests.{among}
use Rattle.records.specs.Record.{datable}
use Rattle.records.specs.Table.{table, TH}
use Rattle.records.proofs.Record.{th-size}
use Rattle.lookup.proofs.Keys.{threshold-key}
use Rattle.lookup.proofs.Held.{part-found, asks-found}
use Rattle.lookup.proofs.th.Goals as goal

pub held_at-requires : goal.held_at-requires
unfolding datable among table
held_at-requires c =
    let p = c.requires in
    asks-found p.0 TH _ refl (threshold-key _ _ p.1 p.2 p.3 p.4) refl c.slot_th.ensures (sym th-size)

pub returns : goal.returns
unfolding datable among table
returns c =
    let p = c.requires in
    c.held_at.ensures.record refl ∙ part-found p.0 TH _ refl (threshold-key _ _ p.1 p.2 p.3 p.4) refl c.slot_th.ensures (sym th-size)
