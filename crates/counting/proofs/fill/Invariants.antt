use mathlib.Core.Path.{◌≡◌}
use Prim.Native.Nat.{◌≤◌, ◌-◌, ◌*◌}
use lib.ListN.{length, take}
use Rattle.records.specs.MarkShapes.{shortest}
use Rattle.counting.proofs.Filling.{Filling}
use Rattle.counting.proofs.fill.Given as goal

-- The invariant: at most a number for each `shortest` bytes, and those of the records before `at` that are shown. The measure: what is left of the dossier.

abbrev pub invariant-loop-at : goal.invariant-loop-at
invariant-loop-at l =
    (l.at ≤ length l.d) × (shortest * l.count ≤ l.at) × (length l.ids ≡ length l.initial.ids) × Filling l.all l.d l.index (take l.count l.ids) l.at

abbrev pub decreases-loop-at : goal.decreases-loop-at
decreases-loop-at l = length l.d - l.at
