use Rattle.counting.proofs.Loops.{sweep-first, sweep-one, sweep-next, sweep-last}
use Rattle.counting.proofs.sweep.Goals as goal

pub loop-x-init : goal.loop-x-init
loop-x-init c = sweep-first c.args.t c.args.d.now c.args.ids.now (cc)

pub step-s-requires : goal.step-s-requires
step-s-requires c =
    (sweep-one c.args.t c.args.d.now c.args.ids.now _ _ c.in-Some.ensures.steps c.loop-x.invariant c.requires.0, c.requires.1)

pub loop-x-preserved : goal.loop-x-preserved
loop-x-preserved c =
    sweep-next c.args.t c.args.d.now c.args.ids.now _ _ c.in-Some.ensures.steps c.loop-x.invariant c.step-s.ensures.0 c.step-s.ensures.1

pub returns : goal.returns
returns c =
    sweep-last c.args.t c.args.d.now c.args.ids.now _ c.in-None.ensures.steps.0 c.loop-x.invariant
