use mathlib.Core.Path.{refl, ◌∙◌}
use Prim.Native.Nat.{◌+◌}
use native.Mathlib.Omega.{arith}
use Rattle.lists.specs.Tests.{among}
use Rattle.records.specs.Table.{RS, HP, table}
use Rattle.records.specs.Record.{datable}
use Rattle.records.specs.Dossier.{records}
use Rattle.lookup.proofs.Held.{says-always}
use Rattle.requirements.proofs.Curve.{along-first, along-next, along-last}
use Rattle.requirements.proofs.curve_holds.Goals as goal

pub loop-i-init : goal.loop-i-init
unfolding datable among table
loop-i-init c = (
  omega arith,
  omega arith,
  along-first (records c.args.d.now) c.hp.ensures (c.output-w.ensures.0 ∙ says-always c.requires.0 HP 1 refl 1)
      (c.heat-h.ensures.0 ∙ says-always c.requires.0 HP 1 refl 2),
)

pub loop-i-preserved : goal.loop-i-preserved
unfolding datable among table
loop-i-preserved c =
    let i = c.loop-i.i in (
      omega (arith, c.output-w1.ensures.1),
      omega (arith, c.heat-h1.ensures.1),
      along-next (records c.args.d.now) i c.loop-i.auto.i c.loop-i.invariant.2 c.hp-in-loop-i.ensures
          (c.output-w1.ensures.0 ∙ says-always c.requires.0 HP (i + 1) refl 1)
          (c.heat-h1.ensures.0 ∙ says-always c.requires.0 HP (i + 1) refl 2)
          c.saturating_sub-a.ensures c.saturating_sub-b.ensures refl refl,
    )

pub returns : goal.returns
unfolding datable among table
returns c =
    along-last (records c.args.d.now) c.args.n c.loop-i.i c.requires.1 c.loop-i-test.false (omega arith) c.loop-i.invariant.2
    (c.capacity.ensures.0 ∙ says-always c.requires.0 RS 0 refl 1)
