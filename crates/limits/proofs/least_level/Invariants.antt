use mathlib.Core.Path.{◌≡◌}
use Rattle.limits.specs.Thresholds.{least_of}
use Rattle.limits.proofs.least_level.Given as goal

abbrev pub invariant-loop-i : goal.invariant-loop-i
invariant-loop-i l = l.least ≡ least_of l.cents l.i
