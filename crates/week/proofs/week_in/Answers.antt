use mathlib.Core.Path.{sym}
use native.Mathlib.Omega.{arith}
use Rattle.std.proofs.lemmas.Result.{err_from_is_err_and}
use Rattle.records.specs.Answers.{refusal_of}
use Rattle.week.proofs.Told.{told-refusal, told-short, prices-room, energies-room, told-week}
use Rattle.week.proofs.week_in.Goals as goal

-- What `judge` found is the dossier's answer: each of the four goes by that.

pub returns-in_err-judge : goal.returns-in_err-judge
unfolding refusal_of
returns-in_err-judge g c =
    let a = c.args in
    let p = err_from_is_err_and c.from_residual.result c.from_residual.ensures.1 in
    rw (p.1, p.2) (told-refusal a.d.now a.prices.now a.energies.now _ (sym c.in_err-judge.ensures.answer))

pub returns-then-prices-energies : goal.returns-then-prices-energies
unfolding refusal_of
returns-then-prices-energies g c =
    let a = c.args in
    told-short a.d.now a.prices.now a.energies.now (sym c.in_ok-judge.ensures.answer) c.if-prices-energies.true

pub put_week-requires : goal.put_week-requires
unfolding refusal_of
put_week-requires g c =
    let h = sym c.in_ok-judge.ensures.answer in
    let a = c.args in
    let f = c.if-prices-energies.false in (
      record { clean = h },
      c.in_ok-judge.ensures.read.0,
      omega (arith, c.requires.0, c.judge.auto),
      prices-room a.d.now a.prices.now a.energies.now h f,
      energies-room a.d.now a.prices.now a.energies.now h f,
    )

pub returns : goal.returns
unfolding refusal_of
returns g c =
    let a = c.args in
    let w = c.put_week.ensures in
    told-week a.d.now a.prices.now a.energies.now (sym c.in_ok-judge.ensures.answer) c.if-prices-energies.false w.0 w.1
