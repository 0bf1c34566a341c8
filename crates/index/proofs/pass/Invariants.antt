use mathlib.Core.Path.{◌≡◌}
use mathlib.Core.Bool.{true, false}
use Prim.Native.Nat.{◌≤◌, ◌-◌}
use lib.ListN.{length}
use Rattle.records.specs.Walk.{Rest}
use Rattle.index.specs.Slots.{kept, keep_step}
use Rattle.index.specs.Intervals.{HeldIn}
use Rattle.index.proofs.pass.Given as goal

abbrev pub invariant-loop-run : goal.invariant-loop-run
invariant-loop-run l =
    (l.run.end ≤ length l.d) × (length l.index ≡ length l.initial.index) × (length l.sums ≡ 2) × HeldIn l.d l.index l.sums
    × Rest (keep_step l.d) (kept l.initial.index true 0 false) l.d l.run.end (kept l.index l.run.rising l.run.top l.dated)

abbrev pub decreases-loop-run : goal.decreases-loop-run
decreases-loop-run l = length l.d - l.run.end
