use Prim.Native.Nat.{◌≤◌}
use native.Mathlib.Omega.{arith}
use Rattle.records.proofs.EveryMark.{mark-lt}
use Rattle.records.proofs.Record.{size-ge}
use Rattle.records.specs.Marks.{row}
use Rattle.lookup.proofs.Rooms.{size-le}
use Rattle.lookup.proofs.guess.Goals as goal

-- the record there is no longer than any
ends : (c : goal.After-length_of-at) → c.length_of-at.result ≤ 31
ends c =
    let k = c.mark_at-mark in
    omega (arith, c.length_of-at.ensures, size-le (row k.result) (rw k.ensures (mark-lt _)))

pub overflow_add-at : goal.overflow_add-at
overflow_add-at c = omega (arith, ends c)

pub loop-at-smaller : goal.loop-at-smaller
loop-at-smaller c = omega (arith, c.length_of-at.ensures, size-ge (row c.mark_at-mark.result))

pub loop-at-preserved : goal.loop-at-preserved
loop-at-preserved c = omega (arith, ends c)
