-- What no refusal says of an offer, and what a verdict is after a refusal and without one.
use mathlib.Core.Path.{◌≡◌, refl}
use mathlib.Core.Bool.{Bool, true, false, cond, ◌||◌, not, false≢true}
use mathlib.Core.List.{List, [], ◌∷◌}
use Prim.Native.Nat.{ℕ, ◌%◌, ◌≤◌}
use native.Mathlib.Omega.{arith}
use lib.Dec.{eqb}
use lib.IntN.{ℤ}
use lib.ListN.{length}
use borrow.Author.Tests.{eqb-true, eqb-false, not-false}
use Rattle.lists.specs.Tests.{every_of, between, among}
use Rattle.lists.proofs.Tests.{and_left, and_right, or-false-left, or-false-right, between-low, between-high}
use Rattle.fields.specs.Numbers.{biased_of}
use Rattle.records.specs.Answers.{Answer}
use Rattle.records.specs.Answers.{Accepted, Refused as Turned}
use Rattle.records.specs.Table.{TH}
use Rattle.records.proofs.Answers.{not-refuse_if, or_else-parts}
use Rattle.station.specs.InForce.{Query}
use Rattle.station.specs.Parameters.{Parameters, technology, threshold_key}
use Rattle.rules.specs.Fit.{energy, holds, levels_of}
use Rattle.formulas.specs.Levels.{parameters_at, query_answer, Line, levels}
use Rattle.verdicts.specs.declared.Verdict.{Verdict}
use Rattle.verdicts.specs.declared.Verdict.TheVariants.{Refused}
use Rattle.verdicts.specs.Refusals.{condition_refusal, length_refusal, level_refusal, offer_refusal, price_refusal}
use Rattle.verdicts.specs.Verdict.{settle, offer_verdict, price_verdict, on_offer, on_price}

-- ---- what one refusal that is not drawn says

pub length-accepted : (o : List ℕ) → length_refusal o ≡ Accepted → length o ≤ 120
unfolding length_refusal
length-accepted o e =
    between-high 6 120 (length o) (and_left (between 6 120 (length o)) (eqb (length o % 6) 0) (not-false _ (not-refuse_if _ 10 (length o) e)))

pub condition-accepted : (s : Parameters) (v c : ℕ) → condition_refusal s v c ≡ Accepted → (1 ≤ c) × (c ≤ 3)
unfolding condition_refusal
condition-accepted s v c e =
    let b : between 1 3 c ≡ true = and_left (between 1 3 c) (s.has TH (threshold_key c v)) (not-false _ (not-refuse_if _ 14 0 e)) in
    (between-low 1 3 c b, between-high 1 3 c b)

among-range : (v : ℕ) (l : List ℕ) → every_of (between 1 4) l ≡ true → among v l ≡ true → (1 ≤ v) × (v ≤ 4)
unfolding every_of among
among-range v [] e h = absurd (false≢true h)
among-range v (m ∷ l) e h = go (eqb v m) refl h (λ z. among-range v l (and_right (between 1 4 m) (every_of (between 1 4) l) e) z)
  where
    own : between 1 4 m ≡ true
    own = and_left (between 1 4 m) (every_of (between 1 4) l) e

    go : (b : Bool) → eqb v m ≡ b → b || among v l ≡ true → (among v l ≡ true → (1 ≤ v) × (v ≤ 4)) → (1 ≤ v) × (v ≤ 4)
    go true q z f = rw (eqb-true v m q) (between-low 1 4 m own, between-high 1 4 m own)
    go false q z f = f z

holds-range : (t v : ℕ) → holds t v ≡ true → (1 ≤ v) × (v ≤ 4)
unfolding holds levels_of every_of between
holds-range t v = go (eqb t 1) (eqb t 2) (eqb t 3 || eqb t 4)
  where
    go : (a b c : Bool) → among v (cond a (1 ∷ 2 ∷ 3 ∷ 4 ∷ []) (cond b (1 ∷ []) (cond c (1 ∷ 4 ∷ []) []))) ≡ true → (1 ≤ v) × (v ≤ 4)
    go true b c = among-range v (1 ∷ 2 ∷ 3 ∷ 4 ∷ []) refl
    go false true c = among-range v (1 ∷ []) refl
    go false false true = among-range v (1 ∷ 4 ∷ []) refl
    go false false false = among-range v [] refl

pub level-range : (s : Parameters) (v : ℕ) → level_refusal s v ≡ Accepted → (holds (technology s) v ≡ true) × (2 ≤ v) × (v ≤ 4)
unfolding level_refusal
level-range s v e =
    let b : eqb v 1 || not (holds (technology s) v) ≡ false = not-refuse_if _ 12 0 e in
    let h : holds (technology s) v ≡ true = not-false _ (or-false-right (eqb v 1) (not (holds (technology s) v)) b) in
    let n : v ≡ 1 → ⊥ = eqb-false v 1 (or-false-left (eqb v 1) (not (holds (technology s) v)) b) in
    let r : (1 ≤ v) × (v ≤ 4) = holds-range (technology s) v h in
    (h, omega arith, r.1)

-- ---- a verdict

pub settle-refused : {a : Answer} {n p : ℕ} (v : Verdict) → a ≡ Turned n p → Refused n p ≡ settle a v
unfolding settle
settle-refused v e = rw e refl

pub settle-accepted : {a : Answer} {v w : Verdict} → a ≡ Accepted → w ≡ v → w ≡ settle a v
unfolding settle
settle-accepted e f = rw e f

-- ---- an energy offer

pub offer-accepted : (s : Parameters) (c : ℕ) (o : List ℕ) → offer_refusal s c o ≡ Accepted → (1 ≤ c) × (c ≤ 3) × (length o ≤ 120)
unfolding offer_refusal
offer-accepted s c o e =
    let p = or_else-parts (condition_refusal s energy c) _ e in
    let q = condition-accepted s energy c p.0 in
    (q.0, q.1, length-accepted o (or_else-parts (length_refusal o) _ p.1).0)

pub offer-refused : (s : Parameters) (c : ℕ) (l : List Line) (o : List ℕ) {n p : ℕ} → offer_refusal s c o ≡ Turned n p → Refused n p ≡ offer_verdict s c l o
unfolding offer_verdict
offer-refused s c l o e = settle-refused _ e

-- ---- a single price

pub price-accepted : (s : Parameters) (v c : ℕ) → price_refusal s v c ≡ Accepted → (holds (technology s) v ≡ true) × (2 ≤ v) × (v ≤ 4) × (1 ≤ c) × (c ≤ 3)
unfolding price_refusal
price-accepted s v c e =
    let p = or_else-parts (level_refusal s v) (condition_refusal s v c) e in
    let h = level-range s v p.0 in
    let q = condition-accepted s v c p.1 in
    (h.0, h.1, h.2, q.0, q.1)

pub price-refused : (s : Parameters) (v c : ℕ) (l : List Line) (price : ℕ) {n p : ℕ} → price_refusal s v c ≡ Turned n p
    → Refused n p ≡ price_verdict s v c l price
unfolding price_verdict
price-refused s v c l price e = settle-refused _ e

-- ---- the verdict of a dossier for a query: what is drawn there, or what is said of the levels

module _ (d : List ℕ) (q : Query) where
  pub on-offer-drawn : (c : ℕ) (o : List ℕ) {n p : ℕ} → query_answer d q ≡ Turned n p → Refused n p ≡ on_offer d q c o
  unfolding on_offer
  on-offer-drawn c o e = settle-refused _ e

  pub on-offer : (c : ℕ) (o : List ℕ) {w : Verdict} → query_answer d q ≡ Accepted → w ≡ offer_verdict (parameters_at d q) c (levels d q) o → w ≡ on_offer d q c o
  unfolding on_offer
  on-offer c o e f = settle-accepted e f

  pub on-price-drawn : (v c : ℕ) (price : ℤ) {n p : ℕ} → query_answer d q ≡ Turned n p → Refused n p ≡ on_price d q v c price
  unfolding on_price
  on-price-drawn v c price e = settle-refused _ e

  pub on-price : (v c : ℕ) (price : ℤ) {w : Verdict} → query_answer d q ≡ Accepted → w ≡ price_verdict (parameters_at d q) v c (levels d q) (biased_of price)
      → w ≡ on_price d q v c price
  unfolding on_price
  on-price v c price e f = settle-accepted e f
