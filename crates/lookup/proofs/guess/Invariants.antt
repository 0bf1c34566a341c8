use Prim.Native.Nat.{◌-◌, ◌≤◌}
use Rattle.lookup.proofs.guess.Given as goal

-- `lookup::guess` meets its contract: whatever the records tell, an index is named.

abbrev pub invariant-loop-at : goal.invariant-loop-at
invariant-loop-at l = l.at ≤ 631

abbrev pub decreases-loop-at : goal.decreases-loop-at
decreases-loop-at l = l.end - l.at
