use mathlib.Core.Path.{refl, sym, ◌∙◌}
use Rattle.lists.specs.Tests.{among}
use Rattle.records.specs.Record.{datable}
use Rattle.records.specs.Table.{table, LC}
use Rattle.records.proofs.Record.{lc-size}
use Rattle.lookup.proofs.Keys.{last-cost-key}
use Rattle.lookup.proofs.Parts.{narrow-fits}
use Rattle.lookup.proofs.Held.{part-is, asks-record}
use Rattle.lookup.proofs.lc.Goals as goal

pub held_at-requires : goal.held_at-requires
unfolding datable among table
held_at-requires c =
    let p = c.requires in
    let fits = narrow-fits c.args.index.now p.0.index.roomy p.1 LC _ last-cost-key refl in
    asks-record p.0 LC _ last-cost-key fits refl c.slot_lc.ensures (sym lc-size)

pub returns : goal.returns
unfolding datable among table
returns c =
    let p = c.requires in
    let fits = narrow-fits c.args.index.now p.0.index.roomy p.1 LC _ last-cost-key refl in
    c.held_at.ensures.record refl ∙ part-is p.0 LC _ last-cost-key fits refl c.slot_lc.ensures (sym lc-size)
