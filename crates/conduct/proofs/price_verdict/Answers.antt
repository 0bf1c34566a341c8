use mathlib.Core.Path.{sym}
use native.Mathlib.Omega.{arith}
use Rattle.std.proofs.lemmas.Result.{err_from_is_err_and}
use Rattle.lookup.specs.Parts.{parameters_held, amounts_held}
use Rattle.reference.specs.Held.{lines_held}
use Rattle.verdicts.specs.Verdict.{verdict_of}
use Rattle.verdicts.proofs.Settled.{price-accepted, price-refused}
use Rattle.conduct.proofs.Outer.{price-tested}
use Rattle.conduct.proofs.price_verdict.Goals as goal

pub single_level-amount-requires : goal.single_level-amount-requires
single_level-amount-requires c =
    let p = c.requires in
    let q = price-accepted _ _ _ (sym c.in_ok-price_refusal.ensures) in
    (p.0, p.1, p.2, q.0, q.1, q.2)

pub threshold_of-t-requires : goal.threshold_of-t-requires
threshold_of-t-requires c =
    let q = price-accepted _ _ _ (sym c.in_ok-price_refusal.ensures) in
    (c.requires.0, q.3, q.4, omega (arith, q.1), q.2)

pub returns-in_err-price_refusal : goal.returns-in_err-price_refusal
unfolding verdict_of
returns-in_err-price_refusal c =
    let a = c.args in
    let p = err_from_is_err_and c.from_residual.result c.from_residual.ensures.1 in
    rw (p.1, p.2)
    (price-refused (parameters_held a.d.now a.index.now) a.level a.condition (lines_held a.d.now a.index.now a.p) a.price
    (sym c.in_err-price_refusal.ensures))

pub returns : goal.returns
unfolding verdict_of
returns c =
    let a = c.args in
    price-tested (parameters_held a.d.now a.index.now) (amounts_held a.d.now a.index.now) a.p a.level a.condition a.price
    c.threshold_of-t.result (sym c.in_ok-price_refusal.ensures) c.single_level-amount.ensures
    c.threshold_of-t.ensures c.single_test.ensures
