use native.Mathlib.Omega.{arith}
use Rattle.records.proofs.EveryMark.{mark-lt}
use Rattle.records.proofs.Record.{size-ge}
use Rattle.records.specs.Marks.{row}
use Rattle.lookup.proofs.Rooms.{size-le, all_left, none_left, at-late, at_next, late_is, late_not}
use borrow.Author.Rules.{rules}
use Rattle.lookup.proofs.fits_short.Goals as goal
use Rattle.lookup.proofs.fits_short.Goals.{in-CH, in_default}

pub loop-at-init : goal.loop-at-init
loop-at-init c = all_left _

pub overflow_add-at : goal.overflow_add-at
overflow_add-at c =
    omega (arith, c.length_of-at.ensures, size-le (row c.mark_at-k.result) (rw c.mark_at-k.ensures (mark-lt _)))

pub loop-at-smaller : goal.loop-at-smaller
loop-at-smaller c = omega (arith, c.length_of-at.ensures, size-ge (row c.mark_at-k.result))

pub returns : goal.returns
returns c = let l = c.loop-at in none_left _ l.at (omega arith) l.invariant

pub returns-then-matches : goal.returns-then-matches
returns-then-matches c =
    let l = c.loop-at in
    at-late _ l.at c.loop-at-test.true l.invariant c.mark_at-k.ensures
    (elim c.match-matches.branch [ in-CH w ↦ late_is c.mark_at-k.result w.in-CH.is | in_default w ↦ absurd (cc (w.matches-is, c.if-matches.true)) ])

pub loop-at-preserved : goal.loop-at-preserved
loop-at-preserved c =
    let l = c.loop-at in
    at_next _ l.at c.loop-at-test.true l.invariant c.mark_at-k.ensures
    (elim c.match-matches.branch [
      | in-CH w ↦ absurd (cc (w.matches-is, c.if-matches.false))
      | in_default w ↦ late_not c.mark_at-k.result (search rules) (search rules) (search rules)
    ]) c.length_of-at.ensures
