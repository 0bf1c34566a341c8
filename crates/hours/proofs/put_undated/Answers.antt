use mathlib.Core.Path.{refl, ap, sym, ◌∙◌}
use Rattle.lists.specs.Tests.{among}
use Rattle.records.specs.Table.{table, row_of}
use Rattle.records.specs.Record.{is_dated, kind_of, datable, size}
use Rattle.records.proofs.Record.{fu-size, ad-size, mm-size}
use Rattle.hours.proofs.Turn.{undated-is, other-is, other-kind}
use Rattle.hours.proofs.put_undated.Goals as goal

-- in each arm, m is its mark

-- ---- AD

pub returns-in-AD : goal.returns-in-AD
unfolding is_dated kind_of datable among row_of table
returns-in-AD c =
    let a = c.args in
    let m = sym c.in-AD.ensures in
    (sym (ap size m ∙ ad-size), undated-is a.d.now a.index.now a.at a.s.now m refl refl c.put.ensures)

-- ---- MM

pub returns-in-MM : goal.returns-in-MM
unfolding is_dated kind_of datable among row_of table
returns-in-MM c =
    let a = c.args in
    let m = sym c.in-MM.ensures in
    (sym (ap size m ∙ mm-size), undated-is a.d.now a.index.now a.at a.s.now m refl refl c.put-in-MM.ensures)

-- ---- FU

pub returns-in-FU : goal.returns-in-FU
unfolding is_dated kind_of datable among row_of table
returns-in-FU c =
    let a = c.args in
    let m = sym c.in-FU.ensures in
    (sym (ap size m ∙ fu-size), undated-is a.d.now a.index.now a.at a.s.now m refl refl c.put-in-FU.ensures)

-- ---- any other

pub returns-in_default : goal.returns-in_default
returns-in_default c =
    let k = c.mark_at.ensures in
    let a = c.args in
    let d = c.in_default in (
      c.length_of.ensures ∙ ap size k,
      other-is a.d.now a.index.now a.at a.s.now refl (other-kind a.s.now k c.requires.0 c.requires.1 d.not-FU d.not-AD d.not-MM),
    )
