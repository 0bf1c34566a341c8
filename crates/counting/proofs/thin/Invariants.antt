use Rattle.counting.specs.Sweep.{kept_by}
use Rattle.counting.proofs.Fewer.{Thinning}
use Rattle.counting.proofs.thin.Given as goal

-- The invariant: those that are kept of the numbers before `i` stand in front, and the numbers from `i` on are as they were.

abbrev pub invariant-loop-i : goal.invariant-loop-i
invariant-loop-i l = Thinning (kept_by l.d l.b l.h) l.initial.ids l.ids l.i l.count
