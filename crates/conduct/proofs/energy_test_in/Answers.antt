use mathlib.Core.Path.{refl}
use borrow.Author.Rules.{rules}
use Rattle.std.proofs.lemmas.Result.{err_from_is_err_and}
use Rattle.query.proofs.Asking.{ready, asked-refused}
use Rattle.verdicts.specs.Verdict.{verdict_of}
use Rattle.verdicts.proofs.Settled.{on-offer-drawn}
use Rattle.conduct.proofs.Outer.{offer-at}
use Rattle.conduct.proofs.energy_test_in.Goals as goal

pub offer_verdict-requires : goal.offer_verdict-requires
offer_verdict-requires g c =
    let j = c.in_ok-profile.ensures in
    let r = ready _ _ j.0 j.1 refl in
    (r.accepted, r.indexed, r.low, r.high, search rules, (j.1 r.drawn).1)

pub returns-in_err-profile : goal.returns-in_err-profile
unfolding verdict_of
returns-in_err-profile g c =
    let p = err_from_is_err_and c.from_residual.result c.from_residual.ensures.1 in
    rw (p.1, p.2) (on-offer-drawn _ _ _ _ (asked-refused _ _ c.in_err-profile.ensures.0 refl))

pub returns : goal.returns
returns g c =
    let j = c.in_ok-profile.ensures in
    offer-at (ready _ _ j.0 j.1 refl) _ _ c.offer_verdict.ensures
