use mathlib.Core.Path.{refl, sym}
use native.Mathlib.Omega.{arith}
use Rattle.std.proofs.lemmas.Result.{err_from_is_err_and}
use Rattle.records.proofs.Answers.{not-refused}
use Rattle.lookup.proofs.Opening.{up-to-complete}
use Rattle.lookup.proofs.Week.{week-sums}
use Rattle.rules.proofs.Draws.{unreadable}
use Rattle.acceptance.proofs.answer_in.Goals as goal

pub returns-in_err-open : goal.returns-in_err-open
returns-in_err-open g c =
    let p = err_from_is_err_and c.from_residual.result c.from_residual.ensures.1 in
    rw (p.1, p.2) (unreadable _ _ _ c.in_err-open.ensures.0, λ e. absurd (not-refused _ _ e))

pub rules_after_reading-requires : goal.rules_after_reading-requires
rules_after_reading-requires g c =
    let o = c.in_ok-open.ensures in
    let i = (o.1 refl).0 in
    let p = c.requires in
    (i, up-to-complete i p.3 (omega (arith, p.4, c.open.auto.index)), p.3, sym o.0, p.5)

pub returns : goal.returns
returns g c =
    let i = c.in_ok-open.ensures.1 refl in
    let p = c.requires in
    (c.rules_after_reading.ensures, λ e. week-sums i.0 (up-to-complete i.0 p.3 (omega (arith, p.4, c.open.auto.index))) i.1)
