use mathlib.Core.Path.{refl, sym, ◌∙◌}
use Rattle.records.specs.Table.{table, LC, AO, FV, AV, MV}
use Rattle.records.specs.Record.{mark_in}
use Rattle.records.proofs.EveryMark.{letters-none}
use Rattle.index.proofs.Entries.{reading-as, reading-unknown}
use Rattle.index.proofs.reader.read_rare.Goals as goal

pub returns-then-is_mark : goal.returns-then-is_mark
unfolding mark_in table
returns-then-is_mark c =
    c.read_as.ensures ∙ reading-as 76 67 LC _ refl refl c.requires.0
    (sym c.is_mark.ensures ∙ c.if-is_mark.true)

pub returns-then-is_mark-2 : goal.returns-then-is_mark-2
unfolding mark_in table
returns-then-is_mark-2 c =
    c.read_as-then-is_mark-2.ensures ∙ reading-as 65 79 AO _ refl refl c.requires.0
    (sym c.is_mark-2.ensures ∙ c.if-is_mark-2.true)

pub returns-then-is_mark-3 : goal.returns-then-is_mark-3
unfolding mark_in table
returns-then-is_mark-3 c =
    c.read_as-then-is_mark-3.ensures ∙ reading-as 70 86 FV _ refl refl c.requires.0
    (sym c.is_mark-3.ensures ∙ c.if-is_mark-3.true)

pub returns-then-is_mark-4 : goal.returns-then-is_mark-4
unfolding mark_in table
returns-then-is_mark-4 c =
    c.read_as-then-is_mark-4.ensures ∙ reading-as 65 86 AV _ refl refl c.requires.0
    (sym c.is_mark-4.ensures ∙ c.if-is_mark-4.true)

pub returns-then-is_mark-5 : goal.returns-then-is_mark-5
unfolding mark_in table
returns-then-is_mark-5 c =
    c.read_as-then-is_mark-5.ensures ∙ reading-as 77 86 MV _ refl refl c.requires.0
    (sym c.is_mark-5.ensures ∙ c.if-is_mark-5.true)

pub returns : goal.returns
returns c =
    let p = c.requires in
    reading-unknown _ p.0 (letters-none _ p.1 p.2 (sym c.is_mark.ensures ∙ c.if-is_mark.false)
    (sym c.is_mark-2.ensures ∙ c.if-is_mark-2.false) (sym c.is_mark-3.ensures ∙ c.if-is_mark-3.false)
    (sym c.is_mark-4.ensures ∙ c.if-is_mark-4.false) (sym c.is_mark-5.ensures ∙ c.if-is_mark-5.false))
