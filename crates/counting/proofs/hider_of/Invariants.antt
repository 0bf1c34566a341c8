use Rattle.counting.proofs.Fewer.{Some}
use Rattle.counting.proofs.hider_of.Given as goal

-- The invariant: the two that are known are among the numbers, or 0.

abbrev pub invariant-loop-id : goal.invariant-loop-id
invariant-loop-id l = Some l.ids l.first × Some l.ids l.second
