use native.Mathlib.Omega.{arith}
use Rattle.counting.specs.Sweep.{kept_by}
use Rattle.counting.proofs.Loops.{each_at}
use Rattle.counting.proofs.Fewer.{thin-first, thin-next, same_here}
use Rattle.counting.proofs.thin.Goals as goal

pub loop-i-init : goal.loop-i-init
loop-i-init c = let a = c.args in thin-first (kept_by a.d.now a.b a.h) a.ids.now

pub is_kept-requires : goal.is_kept-requires
is_kept-requires c =
    let w = c.loop-i in
    rw (same_here (kept_by c.args.d.now c.args.b c.args.h) c.args.ids.now w.ids w.i w.count (omega arith) w.invariant)
    (each_at c.requires w.i (omega (arith, c.loop-i-test.true, w.invariant)))

pub loop-i-preserved : goal.loop-i-preserved
loop-i-preserved c =
    let w = c.loop-i in
    let a = c.args in
    thin-next (kept_by a.d.now a.b a.h) a.ids.now w.ids w.i w.count (omega arith) w.invariant c.is_kept.ensures
