-- From the tests over levels as code hands them over to the verdicts.
use mathlib.Core.Path.{◌≡◌, ap, ap₂, ◌∙◌}
use mathlib.Core.List.{List, map}
use Prim.Native.Nat.{ℕ, ◌/◌}
use lib.IntN.{ℤ}
use lib.ListN.{length}
use Rattle.std.specs.Prelude.{Result, Ok, Err}
use Rattle.std.specs.Result.{MatchResult}
use Rattle.fields.specs.Numbers.{biased_of}
use Rattle.records.specs.declared.Refusal.{Refusal}
use Rattle.records.specs.Answers.{Accepted}
use Rattle.station.specs.InForce.{Query}
use Rattle.station.specs.Parameters.{Parameters, Amounts}
use Rattle.lookup.specs.Parts.{parameters_held}
use Rattle.lookup.proofs.Held.{parameters-held}
use Rattle.rules.specs.Fit.{energy}
use Rattle.formulas.specs.Levels.{Line, shown, lines_of}
use Rattle.arrays.specs.declared.HourLevels.{HourLevels}
use Rattle.arrays.specs.Packed.{arrays_of, laminations_from, unpacked, amount_of}
use Rattle.verdicts.specs.declared.Verdict.{Verdict}
use Rattle.verdicts.specs.declared.Verdict.TheVariants.{Refused}
use Rattle.verdicts.specs.Refusals.{offer_refusal, price_refusal}
use Rattle.verdicts.specs.Verdict.{verdict_of, offer_verdict, price_verdict, on_offer, on_price}
use Rattle.verdicts.proofs.Settled.{settle-accepted, price-accepted, on-offer, on-price}
use Rattle.limits.specs.declared.Threshold.{Threshold}
use Rattle.limits.specs.Thresholds.{threshold_of, offer_shown, single_shown}
use Rattle.limits.proofs.Laminations.{laminations-alone, offer-shown}
use Rattle.limits.proofs.Single.{single-tested}
use Rattle.query.proofs.Asking.{Ready}
use Rattle.reference.specs.Held.{lines_held}
use Rattle.reference.proofs.AtQuery.{lines-held}

-- a refusal told as a verdict is the verdict of what was tested
pub unwrapped : (w : Result Verdict Refusal) {v : Verdict} → MatchResult w (λ x. v ≡ x) (λ r. v ≡ Refused r.number r.place) → v ≡ verdict_of w
unfolding verdict_of
unwrapped (Ok x) e = e
unwrapped (Err r) e = e

-- the levels r were handed over for l; their laminations alone are tested
pub offer-tested :
    (s : Parameters) (c : ℕ) (l : List Line) (o : List ℕ) (r : HourLevels) (t : Threshold) {w : Verdict}
    → offer_refusal s c o ≡ Accepted → unpacked r ≡ map shown l → t ≡ threshold_of s c energy
    → w ≡ offer_shown t (laminations_from (arrays_of r) 0 r.count) o 0 (length o / 6) → w ≡ offer_verdict s c l o
unfolding offer_verdict
offer-tested s c l o r t a u e f =
    settle-accepted a
    (f
    ∙ laminations-alone t r o 0 (length o / 6)
    ∙ ap (λ (z : Threshold). offer_shown z (unpacked r) o 0 (length o / 6)) e
    ∙ ap (λ m. offer_shown (threshold_of s c energy) m o 0 (length o / 6)) u
    ∙ offer-shown s c l o 0 (length o / 6))

pub price-tested :
    (s : Parameters) (m : Amounts) (p v c price : ℕ) (t : Threshold) {x : ℕ} {w : Verdict}
    → price_refusal s v c ≡ Accepted → x ≡ amount_of v (lines_of s m p) → t ≡ threshold_of s c v → w ≡ single_shown t price x
    → w ≡ price_verdict s v c (lines_of s m p) price
unfolding price_verdict
price-tested s m p v c price t a e f g =
    let q = price-accepted s v c a in
    settle-accepted a (rw (e, f) at g ∙ single-tested s m p c price v q.1 q.2 q.0)

-- ---- in the profile of a query that is answered, these are the dossier's for it

module _ {d : List ℕ} {q : Query} {p : ℕ} {ix : List ℕ} (g : Ready d q p ix) where
  pub offer-at : (c : ℕ) (o : List ℕ) {w : Verdict} → w ≡ offer_verdict (parameters_held d ix) c (lines_held d ix p) o → w ≡ on_offer d q c o
  offer-at c o e =
      on-offer d q c o g.drawn
      (e ∙ ap₂ (λ (s : Parameters) (l : List Line). offer_verdict s c l o) (parameters-held q g.index) (lines-held g))

  pub price-at : (v c : ℕ) (price : ℤ) {w : Verdict} → w ≡ price_verdict (parameters_held d ix) v c (lines_held d ix p) (biased_of price)
      → w ≡ on_price d q v c price
  price-at v c price e =
      on-price d q v c price g.drawn
      (e ∙ ap₂ (λ (s : Parameters) (l : List Line). price_verdict s v c l (biased_of price)) (parameters-held q g.index) (lines-held g))
