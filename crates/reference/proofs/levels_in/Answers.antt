use mathlib.Core.Path.{refl}
use borrow.Author.Rules.{rules}
use Rattle.std.proofs.lemmas.Result.{err_from_is_err_and}
use Rattle.query.proofs.Asking.{ready, asked-refused}
use Rattle.reference.proofs.AtQuery.{packed-held, levels-accepted, levels-refused}
use Rattle.reference.proofs.levels_in.Goals as goal

pub returns-in_err-profile : goal.returns-in_err-profile
returns-in_err-profile g c =
    let p = err_from_is_err_and c.from_residual.result c.from_residual.ensures.1 in
    rw (p.1, p.2) (levels-refused _ _ (asked-refused _ _ c.in_err-profile.ensures.0 refl))

pub whole_levels-requires : goal.whole_levels-requires
whole_levels-requires g c =
    let j = c.in_ok-profile.ensures in
    let r = ready _ _ j.0 j.1 refl in
    (r.accepted, r.indexed, r.low, r.high, search rules, (j.1 r.drawn).1)

pub returns : goal.returns
returns g c =
    let j = c.in_ok-profile.ensures in
    let r = ready _ _ j.0 j.1 refl in
    levels-accepted _ _ r.drawn (packed-held r c.whole_levels.ensures)
