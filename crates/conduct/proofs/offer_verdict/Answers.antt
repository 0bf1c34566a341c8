use mathlib.Core.Path.{sym}
use Prim.Native.Nat.{◌/◌}
use lib.ListN.{length}
use Rattle.std.proofs.lemmas.Result.{err_from_is_err_and}
use Rattle.lookup.specs.Parts.{parameters_held}
use Rattle.reference.specs.Held.{lines_held}
use Rattle.reference.proofs.Handed.{handed-shown, handed-count}
use Rattle.verdicts.specs.Verdict.{verdict_of}
use Rattle.verdicts.proofs.Settled.{offer-accepted, offer-refused}
use Rattle.conduct.proofs.Turns.{last-highest, offer-formed}
use Rattle.conduct.proofs.Outer.{offer-tested}
use borrow.Author.Rules.{rules}
use Rattle.conduct.proofs.offer_verdict.Goals as goal

pub threshold_of-t-requires : goal.threshold_of-t-requires
threshold_of-t-requires c =
    let q = offer-accepted _ _ _ (sym c.in_ok-offer_refusal.ensures) in (
      c.requires.1,
      q.0,
      q.1,
      search rules,
      search rules,
    )

pub rising_offer_test-requires : goal.rising_offer_test-requires
rising_offer_test-requires c =
    let a = c.args in
    let z = sym c.in_ok-offer_refusal.ensures in (
      handed-count a.d.now a.index.now a.p c.profile_levels-lv.ensures,
      (offer-accepted _ _ _ z).2,
      last-highest a.offer.now (length a.offer.now / 6) (offer-formed _ _ a.offer.now z),
    )

pub returns-in_err-offer_refusal : goal.returns-in_err-offer_refusal
unfolding verdict_of
returns-in_err-offer_refusal c =
    let a = c.args in
    let p = err_from_is_err_and c.from_residual.result c.from_residual.ensures.1 in
    rw (p.1, p.2)
    (offer-refused (parameters_held a.d.now a.index.now) a.condition (lines_held a.d.now a.index.now a.p) a.offer.now
    (sym c.in_err-offer_refusal.ensures))

pub returns : goal.returns
unfolding verdict_of
returns c =
    let a = c.args in
    offer-tested (parameters_held a.d.now a.index.now) a.condition (lines_held a.d.now a.index.now a.p) a.offer.now _
    c.threshold_of-t.result
    (sym c.in_ok-offer_refusal.ensures) (handed-shown a.d.now a.index.now a.p c.profile_levels-lv.ensures)
    c.threshold_of-t.ensures c.rising_offer_test.ensures
