use mathlib.Core.Path.{refl, ap, ◌∙◌}
use mir.Facts.{to_z-of_z}
use Rattle.std.proofs.lemmas.Result.{err_from_is_err_and}
use Rattle.fields.specs.Numbers.{biased_of}
use Rattle.query.proofs.Asking.{ready, asked-refused}
use Rattle.verdicts.specs.Verdict.{price_verdict, verdict_of}
use Rattle.verdicts.proofs.Settled.{on-price-drawn}
use Rattle.conduct.proofs.Outer.{price-at}
use Rattle.conduct.proofs.price_test_in.Goals as goal

pub price_verdict-requires : goal.price_verdict-requires
price_verdict-requires g c =
    let j = c.in_ok-profile.ensures in
    let r = ready _ _ j.0 j.1 refl in
    (r.indexed, r.low, r.high, c.biased.ensures.1)

pub returns-in_err-profile : goal.returns-in_err-profile
unfolding verdict_of
returns-in_err-profile g c =
    let p = err_from_is_err_and c.from_residual.result c.from_residual.ensures.1 in
    rw (p.1, p.2) (on-price-drawn _ _ _ _ _ (asked-refused _ _ c.in_err-profile.ensures.0 refl))

pub returns : goal.returns
returns g c =
    let j = c.in_ok-profile.ensures in
    price-at (ready _ _ j.0 j.1 refl) _ _ _
    (c.price_verdict.ensures ∙ ap (price_verdict _ _ _ _) (c.biased.ensures.0 ∙ ap biased_of (to_z-of_z c.ranges.price)))
