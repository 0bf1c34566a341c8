use mathlib.Core.Bool.{Bool}
use mathlib.Core.Path.{◌≡◌}
use Prim.Native.Nat.{◌-◌, ◌≤◌}
use lib.ListN.{length}
use Rattle.records.specs.Walk.{Rest}
use Rattle.index.specs.Slots.{Kept, kept, keep_step}
use Rattle.index.specs.Intervals.{interval_at, HeldSums}
use Rattle.index.proofs.charging.intervals_from.Given as goal

abbrev pub invariant-loop-i : goal.invariant-loop-i
invariant-loop-i l =
    (l.end ≤ length l.d) × (l.initial.end ≤ l.end) × (length l.index ≡ length l.initial.index) × (l.i ≡ interval_at l.d l.end)
    × HeldSums l.d l.index l.sums.cost l.sums.energy
    × ((a : Kept) (f : Bool) → Rest (keep_step l.d) a l.d l.initial.end (kept l.initial.index l.initial.rising l.initial.top f)
    → Rest (keep_step l.d) a l.d l.end (kept l.index l.rising l.top f))

abbrev pub decreases-loop-i : goal.decreases-loop-i
decreases-loop-i l = length l.d - l.end
