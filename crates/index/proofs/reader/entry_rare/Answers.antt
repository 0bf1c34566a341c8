use mathlib.Core.Path.{sym, ◌∙◌}
use Rattle.records.specs.Table.{table, row_of}
use Rattle.records.specs.Record.{mark_in, widths, size, key_in, key_width, fields_at, kind_of, is_dated}
use Rattle.records.proofs.EveryMark.{letters-none}
use Rattle.records.proofs.Read.{begun}
use Rattle.index.specs.Slots.{slot, slot_at}
use Rattle.index.proofs.Entries.{entry-as}
use Rattle.index.proofs.reader.entry_rare.Goals as goal

pub returns-then-is_mark : goal.returns-then-is_mark
unfolding mark_in table
returns-then-is_mark c = c.entry_as.ensures ∙ entry-as _ (begun 82 83 _ (sym c.is_mark.ensures ∙ c.if-is_mark.true))

pub returns-then-is_mark-2 : goal.returns-then-is_mark-2
unfolding mark_in table
returns-then-is_mark-2 c = c.entry_as-then-is_mark-2.ensures ∙ entry-as _ (begun 76 67 _ (sym c.is_mark-2.ensures ∙ c.if-is_mark-2.true))

pub returns-then-is_mark-3 : goal.returns-then-is_mark-3
unfolding mark_in table
returns-then-is_mark-3 c = c.entry_as-then-is_mark-3.ensures ∙ entry-as _ (begun 65 79 _ (sym c.is_mark-3.ensures ∙ c.if-is_mark-3.true))

pub returns-then-is_mark-4 : goal.returns-then-is_mark-4
unfolding mark_in table
returns-then-is_mark-4 c = c.entry_as-then-is_mark-4.ensures ∙ entry-as _ (begun 70 86 _ (sym c.is_mark-4.ensures ∙ c.if-is_mark-4.true))

pub returns-then-is_mark-5 : goal.returns-then-is_mark-5
unfolding mark_in table
returns-then-is_mark-5 c = c.entry_as-then-is_mark-5.ensures ∙ entry-as _ (begun 65 86 _ (sym c.is_mark-5.ensures ∙ c.if-is_mark-5.true))

pub returns-then-is_mark-6 : goal.returns-then-is_mark-6
unfolding mark_in table
returns-then-is_mark-6 c = c.entry_as-then-is_mark-6.ensures ∙ entry-as _ (begun 77 86 _ (sym c.is_mark-6.ensures ∙ c.if-is_mark-6.true))

pub returns : goal.returns
unfolding slot slot_at kind_of is_dated size fields_at widths key_width key_in row_of table
returns c =
    entry-as {k = 0} _ (letters-none _ c.requires (sym c.is_mark.ensures ∙ c.if-is_mark.false)
    (sym c.is_mark-2.ensures ∙ c.if-is_mark-2.false) (sym c.is_mark-3.ensures ∙ c.if-is_mark-3.false)
    (sym c.is_mark-4.ensures ∙ c.if-is_mark-4.false) (sym c.is_mark-5.ensures ∙ c.if-is_mark-5.false)
    (sym c.is_mark-6.ensures ∙ c.if-is_mark-6.false))
