use mathlib.Core.Path.{refl, sym}
use Rattle.std.proofs.lemmas.Result.{err_from_is_err_and}
use Rattle.records.specs.Answers.{or_else}
use Rattle.verdicts.specs.Refusals.{offer_refusal}
use Rattle.verdicts.proofs.Settled.{length-accepted}
use Rattle.conduct.proofs.refusals.offer_refusal.Goals as goal

pub malformed-requires : goal.malformed-requires
malformed-requires c = length-accepted _ (sym c.in_ok-length_refusal.ensures)

pub capacity_refusal-requires : goal.capacity_refusal-requires
capacity_refusal-requires c = (c.requires, length-accepted _ (sym c.in_ok-length_refusal.ensures), sym c.in_ok-malformed.ensures)

pub returns-in_err-condition_refusal : goal.returns-in_err-condition_refusal
unfolding offer_refusal or_else
returns-in_err-condition_refusal c =
    let p = err_from_is_err_and c.from_residual.result c.from_residual.ensures.1 in
    rw (p.1, p.2, ← c.in_err-condition_refusal.ensures) refl

pub returns-in_err-length_refusal : goal.returns-in_err-length_refusal
unfolding offer_refusal or_else
returns-in_err-length_refusal c =
    let p = err_from_is_err_and c.from_residual-in_err-length_refusal.result c.from_residual-in_err-length_refusal.ensures.1 in
    rw (p.1, p.2, ← c.in_ok-condition_refusal.ensures, ← c.in_err-length_refusal.ensures) refl

pub returns-in_err-malformed : goal.returns-in_err-malformed
unfolding offer_refusal or_else
returns-in_err-malformed c =
    let p = err_from_is_err_and c.from_residual-in_err-malformed.result c.from_residual-in_err-malformed.ensures.1 in
    rw (p.1, p.2, ← c.in_ok-condition_refusal.ensures, ← c.in_ok-length_refusal.ensures, ← c.in_err-malformed.ensures) refl

pub returns : goal.returns
unfolding offer_refusal or_else
returns c =
    rw (← c.in_ok-condition_refusal.ensures, ← c.in_ok-length_refusal.ensures, ← c.in_ok-malformed.ensures) c.capacity_refusal.ensures
