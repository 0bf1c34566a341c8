use mathlib.Core.Path.{◌≡◌}
use Prim.Native.Nat.{◌-◌, ◌≤◌}
use Rattle.arrays.specs.Packed.{laminations_from, in_arrays}
use Rattle.verdicts.specs.Test.{before}
use Rattle.limits.specs.Thresholds.{offer_shown}
use Rattle.limits.proofs.offer_test.Given as goal

abbrev pub invariant-loop-k : goal.invariant-loop-k
invariant-loop-k l =
    let m = laminations_from (in_arrays l.from l.to l.cents l.count) 0 l.count in
    (l.pairs ≤ 20) × (l.low ≡ before l.offer l.k) × (offer_shown l.t m l.offer l.k (l.pairs - l.k) ≡ offer_shown l.t m l.offer 0 l.pairs)
