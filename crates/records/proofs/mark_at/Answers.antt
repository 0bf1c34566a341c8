use mathlib.Core.Path.{refl, sym, ◌∙◌}
use Rattle.records.specs.Table.{table, row_of}
use Rattle.records.specs.Record.{mark_in}
use Rattle.records.proofs.Read.{begun}
use Rattle.records.proofs.EveryMark.{mark-lt, not-mark, dated-or-none}
use Rattle.records.proofs.mark_at.Goals as goal

pub returns-then-is_mark : goal.returns-then-is_mark
unfolding mark_in table
returns-then-is_mark c = sym (begun 67 72 _ (sym c.is_mark.ensures ∙ c.if-is_mark.true))

pub returns-then-is_mark-2 : goal.returns-then-is_mark-2
unfolding mark_in table
returns-then-is_mark-2 c = sym (begun 72 80 _ (sym c.is_mark-2.ensures ∙ c.if-is_mark-2.true))

pub returns-then-is_mark-3 : goal.returns-then-is_mark-3
unfolding mark_in table
returns-then-is_mark-3 c = sym (begun 84 72 _ (sym c.is_mark-3.ensures ∙ c.if-is_mark-3.true))

pub returns-then-is_mark-4 : goal.returns-then-is_mark-4
unfolding mark_in table
returns-then-is_mark-4 c = sym (begun 72 82 _ (sym c.is_mark-4.ensures ∙ c.if-is_mark-4.true))

pub returns-then-is_mark-5 : goal.returns-then-is_mark-5
unfolding mark_in table
returns-then-is_mark-5 c = sym (begun 70 80 _ (sym c.is_mark-5.ensures ∙ c.if-is_mark-5.true))

pub returns-then-is_mark-6 : goal.returns-then-is_mark-6
unfolding mark_in table
returns-then-is_mark-6 c = sym (begun 70 85 _ (sym c.is_mark-6.ensures ∙ c.if-is_mark-6.true))

pub returns-then-is_mark-7 : goal.returns-then-is_mark-7
unfolding mark_in table
returns-then-is_mark-7 c = sym (begun 65 68 _ (sym c.is_mark-7.ensures ∙ c.if-is_mark-7.true))

pub returns-then-is_mark-8 : goal.returns-then-is_mark-8
unfolding mark_in table
returns-then-is_mark-8 c = sym (begun 77 77 _ (sym c.is_mark-8.ensures ∙ c.if-is_mark-8.true))

pub returns-then-is_mark-9 : goal.returns-then-is_mark-9
unfolding mark_in table
returns-then-is_mark-9 c = sym (begun 82 81 _ (sym c.is_mark-9.ensures ∙ c.if-is_mark-9.true))

pub returns-then-is_mark-10 : goal.returns-then-is_mark-10
unfolding mark_in table
returns-then-is_mark-10 c = sym (begun 82 83 _ (sym c.is_mark-10.ensures ∙ c.if-is_mark-10.true))

pub returns-then-is_mark-11 : goal.returns-then-is_mark-11
unfolding mark_in table
returns-then-is_mark-11 c = sym (begun 76 67 _ (sym c.is_mark-11.ensures ∙ c.if-is_mark-11.true))

pub returns-then-is_mark-12 : goal.returns-then-is_mark-12
unfolding mark_in table
returns-then-is_mark-12 c = sym (begun 65 79 _ (sym c.is_mark-12.ensures ∙ c.if-is_mark-12.true))

pub returns : goal.returns
unfolding row_of table
returns c =
    c.dated_mark_at.ensures
    ∙ dated-or-none _ (mark-lt _)
    (not-mark 1 _ refl (sym c.is_mark-10.ensures ∙ c.if-is_mark-10.false))
    (not-mark 2 _ refl (sym c.is_mark-2.ensures ∙ c.if-is_mark-2.false))
    (not-mark 3 _ refl (sym c.is_mark-6.ensures ∙ c.if-is_mark-6.false))
    (not-mark 4 _ refl (sym c.is_mark-7.ensures ∙ c.if-is_mark-7.false))
    (not-mark 5 _ refl (sym c.is_mark-8.ensures ∙ c.if-is_mark-8.false))
    (not-mark 6 _ refl (sym c.is_mark-9.ensures ∙ c.if-is_mark-9.false))
    (not-mark 7 _ refl (sym c.is_mark-4.ensures ∙ c.if-is_mark-4.false))
    (not-mark 8 _ refl (sym c.is_mark.ensures ∙ c.if-is_mark.false))
    (not-mark 9 _ refl (sym c.is_mark-3.ensures ∙ c.if-is_mark-3.false))
    (not-mark 10 _ refl (sym c.is_mark-5.ensures ∙ c.if-is_mark-5.false))
    (not-mark 11 _ refl (sym c.is_mark-11.ensures ∙ c.if-is_mark-11.false))
    (not-mark 12 _ refl (sym c.is_mark-12.ensures ∙ c.if-is_mark-12.false))
