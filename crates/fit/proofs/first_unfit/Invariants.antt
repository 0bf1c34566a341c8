use Prim.Native.Nat.{◌≤◌, ◌-◌}
use lib.ListN.{length}
use Rattle.fit.proofs.Search.{Left}
use Rattle.fit.proofs.first_unfit.Given as goal

-- The invariant: from `at` on the answer is that of the whole. The measure: what is left of the dossier.

abbrev pub invariant-loop-at : goal.invariant-loop-at
invariant-loop-at l = (l.at ≤ length l.d) × Left l.t l.d l.index l.at

abbrev pub decreases-loop-at : goal.decreases-loop-at
decreases-loop-at l = length l.d - l.at
