use mathlib.Core.Path.{◌≡◌}
use Prim.Native.Nat.{◌-◌, ◌≤◌}
use Rattle.verdicts.specs.Test.{before}
use Rattle.verdicts.specs.Refusals.{price_before, malformed}
use Rattle.conduct.proofs.refusals.malformed.Given as goal

abbrev pub invariant-loop-k : goal.invariant-loop-k
invariant-loop-k l =
    (l.pairs ≤ 20)
    × (l.low ≡ before l.offer l.k)
    × (l.last ≡ price_before l.offer l.k)
    × (malformed l.offer l.k (l.pairs - l.k) ≡ malformed l.offer 0 l.pairs)
