use mathlib.Core.Path.{refl, ap, sym, ◌∙◌}
use mathlib.Core.Bool.{cond}
use Prim.Native.Nat.{ℕ}
use Rattle.records.specs.Table.{table, row_of}
use Rattle.records.specs.Record.{mark_in, is_dated}
use Rattle.records.proofs.Read.{begun}
use Rattle.records.proofs.EveryMark.{mark-lt, not-mark, undated-none}
use Rattle.records.proofs.dated_mark_at.Goals as goal

pub returns-then-is_mark : goal.returns-then-is_mark
unfolding mark_in is_dated row_of table
returns-then-is_mark c = sym (ap (λ (k : ℕ). cond (is_dated k) k 0) (begun 70 86 _ (sym c.is_mark.ensures ∙ c.if-is_mark.true)))

pub returns-then-is_mark-2 : goal.returns-then-is_mark-2
unfolding mark_in is_dated row_of table
returns-then-is_mark-2 c = sym (ap (λ (k : ℕ). cond (is_dated k) k 0) (begun 65 86 _ (sym c.is_mark-2.ensures ∙ c.if-is_mark-2.true)))

pub returns-then-is_mark-3 : goal.returns-then-is_mark-3
unfolding mark_in is_dated row_of table
returns-then-is_mark-3 c = sym (ap (λ (k : ℕ). cond (is_dated k) k 0) (begun 77 86 _ (sym c.is_mark-3.ensures ∙ c.if-is_mark-3.true)))

pub returns : goal.returns
unfolding row_of table
returns c =
    sym (undated-none _ (mark-lt _) (not-mark 13 _ refl (sym c.is_mark.ensures ∙ c.if-is_mark.false))
    (not-mark 14 _ refl (sym c.is_mark-2.ensures ∙ c.if-is_mark-2.false)) (not-mark 15 _ refl (sym c.is_mark-3.ensures ∙ c.if-is_mark-3.false)))
