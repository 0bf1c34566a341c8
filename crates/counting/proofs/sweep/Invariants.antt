use Rattle.counting.proofs.Loops.{Sweeping}
use Rattle.counting.proofs.sweep.Given as goal

-- The invariant: the state is that of the numbers behind those that are left.

abbrev pub invariant-loop-x : goal.invariant-loop-x
invariant-loop-x l = Sweeping l.t l.d l.ids l.x-iterator.iter.rest.now l.s
