use mathlib.Core.Path.{◌≡◌}
use Prim.Native.Nat.{◌≤◌, ◌-◌}
use lib.ListN.{length}
use Rattle.hours.proofs.Loop.{Left}
use Rattle.hours.proofs.fill_dated.Given as goal

-- The invariant: with the records from `at` on the index becomes what it becomes with all. The measure: what is left of the dossier.

abbrev pub invariant-loop-at : goal.invariant-loop-at
invariant-loop-at l = (l.at ≤ length l.d) × (length l.index ≡ length l.initial.index) × Left l.hour l.d l.initial.index l.at l.index

abbrev pub decreases-loop-at : goal.decreases-loop-at
decreases-loop-at l = length l.d - l.at
