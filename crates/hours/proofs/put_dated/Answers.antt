use mathlib.Core.Path.{◌≡◌, refl, ap, sym, ◌∙◌}
use mathlib.Core.Bool.{true}
use mathlib.Core.List.{List}
use Prim.Native.Nat.{ℕ}
use lib.Dec.{lit≤}
use Rattle.lists.specs.Tests.{among}
use Rattle.records.specs.MarkShapes.{begins}
use Rattle.records.specs.Table.{table, row_of, AV, MV}
use Rattle.records.specs.Record.{mark, mark_in, is_dated, kind_of, datable, size}
use Rattle.records.proofs.Record.{fv-size, av-size, mv-size}
use Rattle.records.proofs.Read.{begun}
use Rattle.hours.proofs.Turn.{is-fv, in-index, dated-is}
use Rattle.hours.proofs.put_dated.Goals as goal

-- ---- the mark of each arm, by its letters; the third's is FV

av : (s : List ℕ) → begins s 65 86 ≡ true → mark s ≡ AV
unfolding mark_in table
av s e = begun 65 86 s e

mv : (s : List ℕ) → begins s 77 86 ≡ true → mark s ≡ MV
unfolding mark_in table
mv s e = begun 77 86 s e

-- ---- AV

pub put_if_come-requires : goal.put_if_come-requires
put_if_come-requires c =
    let m = av c.args.s.now (sym c.is_mark.ensures ∙ c.if-is_mark.true) in
    (lit≤ tt, in-index c.args.s.now c.args.index.now m c.requires.1, c.requires.2, c.requires.3)

pub returns-then-is_mark : goal.returns-then-is_mark
unfolding is_dated kind_of datable among row_of table
returns-then-is_mark c =
    let a = c.args in
    let m = av a.s.now (sym c.is_mark.ensures ∙ c.if-is_mark.true) in
    (sym (ap size m ∙ av-size), dated-is a.d.now a.index.now a.at a.s.now m a.hour refl refl c.put_if_come.ensures)

-- ---- MV

pub put_if_come-requires-then-is_mark-2 : goal.put_if_come-requires-then-is_mark-2
put_if_come-requires-then-is_mark-2 c =
    let m = mv c.args.s.now (sym c.is_mark-2.ensures ∙ c.if-is_mark-2.true) in
    (lit≤ tt, in-index c.args.s.now c.args.index.now m c.requires.1, c.requires.2, c.requires.3)

pub returns-then-is_mark-2 : goal.returns-then-is_mark-2
unfolding is_dated kind_of datable among row_of table
returns-then-is_mark-2 c =
    let a = c.args in
    let m = mv a.s.now (sym c.is_mark-2.ensures ∙ c.if-is_mark-2.true) in
    (sym (ap size m ∙ mv-size), dated-is a.d.now a.index.now a.at a.s.now m a.hour refl refl c.put_if_come-then-is_mark-2.ensures)

-- ---- FV

pub put_if_come-requires-2 : goal.put_if_come-requires-2
put_if_come-requires-2 c =
    let m = is-fv c.args.s.now c.requires.0 (sym c.is_mark.ensures ∙ c.if-is_mark.false) (sym c.is_mark-2.ensures ∙ c.if-is_mark-2.false) in
    (lit≤ tt, in-index c.args.s.now c.args.index.now m c.requires.1, c.requires.2, c.requires.3)

pub returns : goal.returns
unfolding is_dated kind_of datable among row_of table
returns c =
    let a = c.args in
    let m = is-fv a.s.now c.requires.0 (sym c.is_mark.ensures ∙ c.if-is_mark.false) (sym c.is_mark-2.ensures ∙ c.if-is_mark-2.false) in
    (sym (ap size m ∙ fv-size), dated-is a.d.now a.index.now a.at a.s.now m a.hour refl refl c.put_if_come-2.ensures)
