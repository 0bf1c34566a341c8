use Prim.Native.Nat.{◌-◌, ◌≤◌}
use Rattle.formulas.specs.Sums.{above, at_least}
use Rattle.arithmetic.proofs.highest.threshold.Given as goal

abbrev pub invariant-loop-lo : goal.invariant-loop-lo
invariant-loop-lo l = (l.lo ≤ l.hi) × (l.low ≤ l.lo) × (l.hi ≤ l.high) × (l.n ≤ at_least l.lo l.s) × (above l.hi l.s ≤ l.most)

abbrev pub decreases-loop-lo : goal.decreases-loop-lo
decreases-loop-lo l = l.hi - l.lo
