use mathlib.Core.Path.{refl, sym, ◌∙◌}
use Rattle.lists.specs.Tests.{among}
use Rattle.records.specs.Record.{datable}
use Rattle.records.specs.Table.{table, RQ}
use Rattle.records.proofs.Record.{rq-size}
use Rattle.lookup.proofs.Keys.{request-key}
use Rattle.lookup.proofs.Held.{part-found, asks-found}
use Rattle.lookup.proofs.rq.Goals as goal

pub held_at-requires : goal.held_at-requires
unfolding datable among table
held_at-requires c = let p = c.requires in asks-found p.0 RQ _ refl (request-key _ p.1 p.2) refl c.slot_rq.ensures (sym rq-size)

pub returns : goal.returns
unfolding datable among table
returns c = let p = c.requires in c.held_at.ensures.record refl ∙ part-found p.0 RQ _ refl (request-key _ p.1 p.2) refl c.slot_rq.ensures (sym rq-size)
