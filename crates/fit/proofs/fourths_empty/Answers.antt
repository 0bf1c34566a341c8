use mathlib.Core.Path.{refl}
use Rattle.lists.specs.Tests.{all_below}
use Rattle.fit.specs.BySlots.{fourths_empty}
use Rattle.fit.proofs.Unfit.{fourths-next}
use Rattle.fit.proofs.fourths_empty.Goals as goal

pub loop-i-init : goal.loop-i-init
unfolding fourths_empty all_below
loop-i-init c = refl

pub loop-i-preserved : goal.loop-i-preserved
loop-i-preserved c = fourths-next c.args.index.now c.args.j c.loop-i.i c.loop-i.any c.loop-i.invariant
