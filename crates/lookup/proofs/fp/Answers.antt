use mathlib.Core.Path.{refl, sym, ◌∙◌}
use native.Mathlib.Omega.{arith}
use Rattle.lists.specs.Tests.{among}
use Rattle.records.specs.Record.{datable}
use Rattle.records.specs.Table.{table, FP}
use Rattle.records.proofs.Record.{fp-size}
use Rattle.lookup.proofs.Keys.{place-key}
use Rattle.lookup.proofs.Parts.{beyond-index}
use Rattle.lookup.proofs.Held.{part-is, asks-record}
use Rattle.lookup.proofs.fp.Goals as goal

pub returns-then-index-j : goal.returns-then-index-j
returns-then-index-j c =
    sym (beyond-index c.args.d.now c.args.index.now c.requires.1 FP c.args.n (omega (
      arith,
      c.if-index-j.true,
      c.slot_fp-j.ensures,
    )))

pub held_at-requires : goal.held_at-requires
unfolding datable among table
held_at-requires c =
    let p = c.requires in
    let e = c.slot_fp-j.ensures in
    asks-record p.0 FP _ (place-key _ p.2 p.3) (omega (arith, c.if-index-j.false, e)) refl e (sym fp-size)

pub returns : goal.returns
unfolding datable among table
returns c =
    let p = c.requires in
    let e = c.slot_fp-j.ensures in
    c.held_at.ensures.record refl ∙ part-is p.0 FP _ (place-key _ p.2 p.3) (omega (arith, c.if-index-j.false, e)) refl e (sym fp-size)
