use mathlib.Core.Path.{◌≡◌}
use Prim.Native.Nat.{◌≤◌, ◌-◌, ◌*◌}
use lib.ListN.{length}
use Rattle.records.specs.MarkShapes.{shortest}
use Rattle.twins.proofs.Loop.{Known}
use Rattle.twins.proofs.search.Given as goal

-- The invariant: at most a record for each `shortest` bytes, and what is known at `at`. The measure: what is left of the dossier.

abbrev pub invariant-loop-at : goal.invariant-loop-at
invariant-loop-at l = (l.at ≤ length l.d) × (shortest * l.count ≤ l.at) × (length l.links ≡ length l.initial.links)
    × (length l.ids ≡ length l.initial.ids) × Known l.roots l.d l.links l.ids l.at l.count

abbrev pub decreases-loop-at : goal.decreases-loop-at
decreases-loop-at l = length l.d - l.at
