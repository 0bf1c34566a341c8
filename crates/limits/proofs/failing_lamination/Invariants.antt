use mathlib.Core.Path.{◌≡◌}
use Prim.Native.Nat.{◌-◌}
use Rattle.limits.specs.Thresholds.{first_failing}
use Rattle.limits.proofs.failing_lamination.Given as goal

abbrev pub invariant-loop-i : goal.invariant-loop-i
invariant-loop-i l = first_failing l.t l.pair l.from l.to l.cents l.i (l.count - l.i) ≡ first_failing l.t l.pair l.from l.to l.cents 0 l.count
