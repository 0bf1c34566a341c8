use mathlib.Core.Path.{refl, sym, ◌∙◌}
use Rattle.records.specs.Table.{RS, HP, FU, AD, MM, RQ, HR, CH, TH, FP, table}
use Rattle.records.specs.Record.{mark_in}
use Rattle.records.proofs.EveryMark.{letters-rare}
use Rattle.index.proofs.Entries.{reading-short, reading-as}
use Rattle.index.proofs.reader.read.Goals as goal

pub returns-then-rest-lt2 : goal.returns-then-rest-lt2
returns-then-rest-lt2 c = reading-short _ c.if-rest-lt2.true

pub returns-then-begins_with : goal.returns-then-begins_with
unfolding mark_in table
returns-then-begins_with c =
    c.read_as.ensures ∙ reading-as 67 72 CH _ refl refl c.if-rest-lt2.false
    (sym c.begins_with.ensures ∙ c.if-begins_with.true)

pub returns-then-is_mark : goal.returns-then-is_mark
unfolding mark_in table
returns-then-is_mark c =
    c.read_as-then-is_mark.ensures ∙ reading-as 72 80 HP _ refl refl c.if-rest-lt2.false
    (sym c.is_mark.ensures ∙ c.if-is_mark.true)

pub returns-then-is_mark-2 : goal.returns-then-is_mark-2
unfolding mark_in table
returns-then-is_mark-2 c =
    c.read_as-then-is_mark-2.ensures ∙ reading-as 84 72 TH _ refl refl c.if-rest-lt2.false
    (sym c.is_mark-2.ensures ∙ c.if-is_mark-2.true)

pub returns-then-is_mark-3 : goal.returns-then-is_mark-3
unfolding mark_in table
returns-then-is_mark-3 c =
    c.read_as-then-is_mark-3.ensures ∙ reading-as 72 82 HR _ refl refl
    c.if-rest-lt2.false
    (sym c.is_mark-3.ensures ∙ c.if-is_mark-3.true)

pub returns-then-is_mark-4 : goal.returns-then-is_mark-4
unfolding mark_in table
returns-then-is_mark-4 c =
    c.read_as-then-is_mark-4.ensures ∙ reading-as 70 80 FP _ refl refl
    c.if-rest-lt2.false
    (sym c.is_mark-4.ensures ∙ c.if-is_mark-4.true)

pub returns-then-is_mark-5 : goal.returns-then-is_mark-5
unfolding mark_in table
returns-then-is_mark-5 c =
    c.read_as-then-is_mark-5.ensures ∙ reading-as 70 85 FU _ refl refl
    c.if-rest-lt2.false (sym c.is_mark-5.ensures ∙ c.if-is_mark-5.true)

pub returns-then-is_mark-6 : goal.returns-then-is_mark-6
unfolding mark_in table
returns-then-is_mark-6 c =
    c.read_as-then-is_mark-6.ensures ∙ reading-as 65 68 AD _ refl refl
    c.if-rest-lt2.false (sym c.is_mark-6.ensures ∙ c.if-is_mark-6.true)

pub returns-then-is_mark-7 : goal.returns-then-is_mark-7
unfolding mark_in table
returns-then-is_mark-7 c =
    c.read_as-then-is_mark-7.ensures ∙ reading-as 77 77 MM _ refl refl
    c.if-rest-lt2.false (sym c.is_mark-7.ensures ∙ c.if-is_mark-7.true)

pub returns-then-is_mark-8 : goal.returns-then-is_mark-8
unfolding mark_in table
returns-then-is_mark-8 c =
    c.read_as-then-is_mark-8.ensures ∙ reading-as 82 81 RQ _ refl refl
    c.if-rest-lt2.false (sym c.is_mark-8.ensures ∙ c.if-is_mark-8.true)

pub returns-then-is_mark-9 : goal.returns-then-is_mark-9
unfolding mark_in table
returns-then-is_mark-9 c =
    c.read_as-then-is_mark-9.ensures ∙ reading-as 82 83 RS _ refl refl
    c.if-rest-lt2.false
    (sym c.is_mark-9.ensures ∙ c.if-is_mark-9.true)

pub read_rare-requires : goal.read_rare-requires
read_rare-requires c = (
  c.if-rest-lt2.false,
  letters-rare _ (sym c.is_mark.ensures ∙ c.if-is_mark.false)
      (sym c.is_mark-5.ensures ∙ c.if-is_mark-5.false) (sym c.is_mark-6.ensures ∙ c.if-is_mark-6.false)
      (sym c.is_mark-7.ensures ∙ c.if-is_mark-7.false) (sym c.is_mark-8.ensures ∙ c.if-is_mark-8.false)
      (sym c.is_mark-3.ensures ∙ c.if-is_mark-3.false) (sym c.begins_with.ensures ∙ c.if-begins_with.false)
      (sym c.is_mark-2.ensures ∙ c.if-is_mark-2.false) (sym c.is_mark-4.ensures ∙ c.if-is_mark-4.false),
  sym c.is_mark-9.ensures ∙ c.if-is_mark-9.false,
)

pub returns : goal.returns
returns c = c.read_rare.ensures
