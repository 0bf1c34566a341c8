use mathlib.Core.Path.{◌≡◌}
use Prim.Native.Nat.{◌-◌, ◌≤◌}
use Rattle.lookup.specs.Parts.{parameters_held}
use Rattle.verdicts.specs.Refusals.{above_capacity}
use Rattle.conduct.proofs.refusals.above_capacity.Given as goal

abbrev pub invariant-loop-k : goal.invariant-loop-k
invariant-loop-k l =
    let s = parameters_held l.d l.index in
    (l.pairs ≤ 20) × (above_capacity s l.offer l.k (l.pairs - l.k) ≡ above_capacity s l.offer 0 l.pairs)
