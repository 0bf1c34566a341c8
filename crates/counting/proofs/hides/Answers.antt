use mathlib.Core.Path.{refl}
use Rattle.counting.specs.Sweep.{hides_at}
use Rattle.counting.proofs.Held.{hides-at}
use Rattle.counting.proofs.hides.Goals as goal

pub returns-then-q-d : goal.returns-then-q-d
unfolding hides_at
returns-then-q-d c = rw c.if-q-d.true refl

pub returns : goal.returns
returns c =
    let a = c.args in
    hides-at a.d.now a.s.now a.v c.if-q-d.false c.u32_at.ensures
    c.u32_at-2.ensures c.since_at.ensures c.since_at-2.ensures
