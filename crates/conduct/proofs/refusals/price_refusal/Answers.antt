use mathlib.Core.Path.{refl, sym}
use native.Mathlib.Omega.{arith}
use Rattle.std.proofs.lemmas.Result.{err_from_is_err_and}
use Rattle.records.specs.Answers.{or_else}
use Rattle.verdicts.specs.Refusals.{price_refusal}
use Rattle.verdicts.proofs.Settled.{level-range}
use Rattle.conduct.proofs.refusals.price_refusal.Goals as goal

pub condition_refusal-requires : goal.condition_refusal-requires
condition_refusal-requires c =
    let h = level-range _ _ (sym c.in_ok-level_refusal.ensures) in
    (c.requires, omega (arith, h.1), h.2)

pub returns-in_err-level_refusal : goal.returns-in_err-level_refusal
unfolding price_refusal or_else
returns-in_err-level_refusal c =
    let p = err_from_is_err_and c.from_residual.result c.from_residual.ensures.1 in
    rw (p.1, p.2, ← c.in_err-level_refusal.ensures) refl

pub returns : goal.returns
unfolding price_refusal or_else
returns c = rw (← c.in_ok-level_refusal.ensures) c.condition_refusal.ensures
