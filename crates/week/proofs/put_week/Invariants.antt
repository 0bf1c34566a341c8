use mathlib.Core.Path.{◌≡◌}
use mathlib.Core.List.{List}
use Prim.Native.Nat.{ℕ, ◌-◌}
use lib.IntN.{ℤ}
use lib.ListN.{length}
use Rattle.week.specs.Filled.{Filled}
use Rattle.week.proofs.put_week.Given as goal

abbrev pub invariant-loop-at : goal.invariant-loop-at
invariant-loop-at l =
    (length l.prices ≡ length l.initial.prices) × (length l.energies ≡ length l.initial.energies)
    × ((p : List ℤ) (e : List ℕ) → Filled l.d l.index p e 0 l.initial.prices l.initial.energies → Filled l.d l.index p e l.at l.prices l.energies)

abbrev pub decreases-loop-at : goal.decreases-loop-at
decreases-loop-at l = length l.d - l.at
