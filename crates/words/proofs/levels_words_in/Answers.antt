use mathlib.Core.Path.{refl}
use borrow.Author.Rules.{rules}
use Rattle.std.proofs.lemmas.Result.{err_from_is_err_and}
use Rattle.station.specs.InForce.{query}
use Rattle.query.proofs.Asking.{ready, asked-refused}
use Rattle.reference.proofs.AtQuery.{packed-held}
use Rattle.words.proofs.Answers.{handed-blank, told-words, told-few, told-refusal}
use Rattle.words.proofs.levels_words_in.Goals as goal

-- `words::levels_words_in` meets its contract.

pub returns-in_err-profile : goal.returns-in_err-profile
returns-in_err-profile g c =
    let args = c.args in
    let p = err_from_is_err_and c.from_residual.result c.from_residual.ensures.1 in
    rw (p.1, p.2) (told-refusal args.d.now (query args.hour args.owner) args.words.now _ (asked-refused _ _ c.in_err-profile.ensures.0 refl))

pub returns-then-words-lt66 : goal.returns-then-words-lt66
returns-then-words-lt66 g c =
    let args = c.args in
    let j = c.in_ok-profile.ensures in
    let r = ready _ _ j.0 j.1 refl in
    told-few args.d.now (query args.hour args.owner) args.words.now r.drawn c.if-words-lt66.true

pub profile_levels-lv-requires : goal.profile_levels-lv-requires
profile_levels-lv-requires g c =
    let j = c.in_ok-profile.ensures in
    let r = ready _ _ j.0 j.1 refl in
    (r.accepted, r.indexed, r.low, r.high, search rules, (j.1 r.drawn).1, refl, refl, refl)

pub put_words-requires : goal.put_words-requires
put_words-requires g c = (search rules, handed-blank _ _ _ c.profile_levels-lv.ensures)

pub returns : goal.returns
returns g c =
    let args = c.args in
    let j = c.in_ok-profile.ensures in
    let r = ready _ _ j.0 j.1 refl in
    told-words args.d.now (query args.hour args.owner) args.words.now _ r.drawn c.if-words-lt66.false (packed-held r c.profile_levels-lv.ensures)
    c.put_words.ensures
