use mathlib.Core.Path.{sym, ◌∙◌}
use Rattle.records.specs.Table.{table}
use Rattle.records.specs.Record.{mark_in}
use Rattle.records.proofs.EveryMark.{letters-rare}
use Rattle.records.proofs.Read.{begun}
use Rattle.index.proofs.Entries.{entry-as}
use Rattle.index.proofs.reader.entry_at.Goals as goal

pub returns-then-is_mark : goal.returns-then-is_mark
unfolding mark_in table
returns-then-is_mark c = c.entry_as.ensures ∙ entry-as _ (begun 67 72 _ (sym c.is_mark.ensures ∙ c.if-is_mark.true))

pub returns-then-is_mark-2 : goal.returns-then-is_mark-2
unfolding mark_in table
returns-then-is_mark-2 c = c.entry_as-then-is_mark-2.ensures ∙ entry-as _ (begun 72 80 _ (sym c.is_mark-2.ensures ∙ c.if-is_mark-2.true))

pub returns-then-is_mark-3 : goal.returns-then-is_mark-3
unfolding mark_in table
returns-then-is_mark-3 c = c.entry_as-then-is_mark-3.ensures ∙ entry-as _ (begun 84 72 _ (sym c.is_mark-3.ensures ∙ c.if-is_mark-3.true))

pub returns-then-is_mark-4 : goal.returns-then-is_mark-4
unfolding mark_in table
returns-then-is_mark-4 c = c.entry_as-then-is_mark-4.ensures ∙ entry-as _ (begun 72 82 _ (sym c.is_mark-4.ensures ∙ c.if-is_mark-4.true))

pub returns-then-is_mark-5 : goal.returns-then-is_mark-5
unfolding mark_in table
returns-then-is_mark-5 c = c.entry_as-then-is_mark-5.ensures ∙ entry-as _ (begun 70 80 _ (sym c.is_mark-5.ensures ∙ c.if-is_mark-5.true))

pub returns-then-is_mark-6 : goal.returns-then-is_mark-6
unfolding mark_in table
returns-then-is_mark-6 c = c.entry_as-then-is_mark-6.ensures ∙ entry-as _ (begun 70 85 _ (sym c.is_mark-6.ensures ∙ c.if-is_mark-6.true))

pub returns-then-is_mark-7 : goal.returns-then-is_mark-7
unfolding mark_in table
returns-then-is_mark-7 c = c.entry_as-then-is_mark-7.ensures ∙ entry-as _ (begun 65 68 _ (sym c.is_mark-7.ensures ∙ c.if-is_mark-7.true))

pub returns-then-is_mark-8 : goal.returns-then-is_mark-8
unfolding mark_in table
returns-then-is_mark-8 c = c.entry_as-then-is_mark-8.ensures ∙ entry-as _ (begun 77 77 _ (sym c.is_mark-8.ensures ∙ c.if-is_mark-8.true))

pub returns-then-is_mark-9 : goal.returns-then-is_mark-9
unfolding mark_in table
returns-then-is_mark-9 c = c.entry_as-then-is_mark-9.ensures ∙ entry-as _ (begun 82 81 _ (sym c.is_mark-9.ensures ∙ c.if-is_mark-9.true))

pub entry_rare-requires : goal.entry_rare-requires
entry_rare-requires c =
    letters-rare _ (sym c.is_mark-2.ensures ∙ c.if-is_mark-2.false) (sym c.is_mark-6.ensures ∙ c.if-is_mark-6.false)
    (sym c.is_mark-7.ensures ∙ c.if-is_mark-7.false) (sym c.is_mark-8.ensures ∙ c.if-is_mark-8.false)
    (sym c.is_mark-9.ensures ∙ c.if-is_mark-9.false) (sym c.is_mark-4.ensures ∙ c.if-is_mark-4.false)
    (sym c.is_mark.ensures ∙ c.if-is_mark.false) (sym c.is_mark-3.ensures ∙ c.if-is_mark-3.false)
    (sym c.is_mark-5.ensures ∙ c.if-is_mark-5.false)

pub returns : goal.returns
returns c = c.entry_rare.ensures
