use Prim.Native.Nat.{◌≤◌, ◌-◌}
use lib.ListN.{length}
use Rattle.fit.proofs.Values.{Asking}
use Rattle.fit.proofs.values_fit.Given as goal

-- The invariant: what FU and MM say fits from `at` on exactly if it does in all. The measure: what is left of the dossier.

abbrev pub invariant-loop-at : goal.invariant-loop-at
invariant-loop-at l = (l.at ≤ length l.d) × Asking l.t l.d l.at

abbrev pub decreases-loop-at : goal.decreases-loop-at
decreases-loop-at l = length l.d - l.at
