-- The refusals as code tries them: tests over numbers that were read, and one pair after the other.
use mathlib.Core.Path.{◌≡◌, refl, ap, sym, ◌∙◌}
use mathlib.Core.Bool.{Bool, true, false, ◌&&◌, ◌||◌, not}
use mathlib.Core.List.{List}
use Prim.Native.Nat.{ℕ, zero, suc, ◌+◌, ◌-◌, ◌*◌, ◌/◌, ◌%◌, ◌≤◌, ◌<◌}
use native.Mathlib.Nat.{le_refl}
use native.Mathlib.Decide.{ℕ_discrete}
use native.Mathlib.Numerals.{add-one}
use native.Mathlib.Omega.{arith}
use lib.Arith.{lt_of_le-ne}
use lib.Dec.{leb, ltb, eqb}
use lib.ListN.{length}
use borrow.Author.Tests.{lt-ltb, le-ltb, leb-true, ltb-true, not-false}
use Rattle.lists.specs.Tests.{every, between}
use Rattle.lists.proofs.Tests.{and_left, and_right}
use Rattle.records.specs.Table.{TH}
use Rattle.records.specs.Record.{in_range}
use Rattle.records.specs.Answers.{Accepted, or_else, refuse_if, Refused}
use Rattle.records.proofs.Answers.{not-refuse_if, or_else-parts}
use Rattle.station.specs.Current.{current, present}
use Rattle.station.specs.Parameters.{Parameters, parameters, capacity, technology, threshold_key}
use Rattle.rules.specs.Fit.{energy, holds}
use Rattle.verdicts.specs.Test.{quantity, price_at, before}
use Rattle.verdicts.specs.Refusals.{level_refusal, condition_refusal, length_refusal, price_before, pair_holds, malformed, above_capacity, offer_refusal}
use Rattle.limits.specs.Thresholds.{LastHighest}
use Rattle.limits.proofs.Turns.{one_less}
use Rattle.conduct.specs.Pairs.{pair_test}

-- ---- one answer

refused-if : (b : Bool) (n p : ℕ) → b ≡ true → Refused n p ≡ refuse_if b n p
unfolding refuse_if
refused-if b n p e = rw e refl

accepted-if : (b : Bool) (n p : ℕ) → b ≡ false → Accepted ≡ refuse_if b n p
unfolding refuse_if
accepted-if b n p e = rw e refl

-- ---- pairs in turn

pub price_before-next : (o : List ℕ) (k : ℕ) → price_at o k ≡ price_before o (k + 1)
unfolding price_before
price_before-next o k = rw (add-one k) refl

pair-test : (o : List ℕ) (k : ℕ) → pair_test (before o k) (price_before o k) (quantity o k) (price_at o k) ≡ pair_holds o k
unfolding pair_holds every in_range between
pair-test o k =
    go (ltb (before o k) (quantity o k)) (leb 2147283648 (price_at o k)) (leb (price_at o k) 2147683648) (leb (price_before o k) (price_at o k))
  where
    go : (a b c d : Bool) → a && b && c && d ≡ a && ((b && c) && (d && true))
    go false b c d = refl
    go true false c d = refl
    go true true false d = refl
    go true true true false = refl
    go true true true true = refl

-- 10: what was read of a pair, and of the one before it
module _ (o : List ℕ) (n k low last high p : ℕ) (h : k < n) (l : low ≡ before o k) (b : last ≡ price_before o k) (q : high ≡ quantity o k)
    (e : p ≡ price_at o k) where
  pub malformed-stop : pair_test low last high p ≡ false → Refused 10 (6 * k) ≡ malformed o k (n - k)
  unfolding malformed or_else refuse_if
  malformed-stop t =
      let z : pair_holds o k ≡ false = sym (pair-test o k) ∙ rw (← l, ← b, ← q, ← e) t in
      rw (one_less n k h, z) refl

  pub malformed-next : pair_test low last high p ≡ true → malformed o (k + 1) (n - (k + 1)) ≡ malformed o k (n - k)
  unfolding malformed or_else refuse_if
  malformed-next t =
      let z : pair_holds o k ≡ true = sym (pair-test o k) ∙ rw (← l, ← b, ← q, ← e) t in
      rw (one_less n k h, z) refl

pub malformed-end : (o : List ℕ) (n k : ℕ) → n ≤ k → Accepted ≡ malformed o k (n - k)
unfolding malformed
malformed-end o n k h = let z : n - k ≡ 0 = omega arith in rw z refl

-- 11: what was read of a pair
module _ (s : Parameters) (o : List ℕ) (n k most high : ℕ) (h : k < n) (l : most ≡ capacity s) (q : high ≡ quantity o k) where
  pub above-stop : most < high → Refused 11 (6 * k) ≡ above_capacity s o k (n - k)
  unfolding above_capacity or_else refuse_if
  above-stop t = rw (one_less n k h, ← l, ← q, lt-ltb most high t) refl

  pub above-next : high ≤ most → above_capacity s o (k + 1) (n - (k + 1)) ≡ above_capacity s o k (n - k)
  unfolding above_capacity or_else refuse_if
  above-next t = rw (one_less n k h, ← l, ← q, le-ltb most high t) refl

pub above-end : (s : Parameters) (o : List ℕ) (n k : ℕ) → n ≤ k → Accepted ≡ above_capacity s o k (n - k)
unfolding above_capacity
above-end s o n k h = let z : n - k ≡ 0 = omega arith in rw z refl

-- ---- an offer that draws no 10: the last pair has the highest quantity and price

-- what doesn't fall from one to the next is highest at the last
to_last : (f : ℕ → ℕ) (n : ℕ) → ((j : ℕ) → suc j < n → f j ≤ f (suc j)) → (j : ℕ) → j < n → f j ≤ f (n - 1)
to_last f n h j b = go (n - 1 - j) j (omega arith)
  where
    go : (m i : ℕ) → i + m ≡ n - 1 → f i ≤ f (n - 1)
    go zero i e = let z : i ≡ n - 1 = omega arith in rw z (le_refl (f (n - 1)))
    go (suc m) i e = omega (arith, h i (omega arith), go m (suc i) (omega arith))

module _ (o : List ℕ) where
  pairs-hold : (n k : ℕ) → malformed o k n ≡ Accepted → (j : ℕ) → k ≤ j → j < k + n → pair_holds o j ≡ true
  unfolding malformed
  pairs-hold zero k e j a b = absurd (omega arith)
  pairs-hold (suc n) k e j a b =
      let p = or_else-parts (refuse_if (not (pair_holds o k)) 10 (6 * k)) (malformed o (k + 1) n) e in
      go (not-false _ (not-refuse_if _ 10 (6 * k) p.0)) (ℕ_discrete j k) (λ h. pairs-hold n (k + 1) p.1 j h (omega arith))
    where
      go : pair_holds o k ≡ true → Dec (j ≡ k) → (k + 1 ≤ j → pair_holds o j ≡ true) → pair_holds o j ≡ true
      go z (yes y) f = rw y z
      go z (no y) f = f (omega (arith, lt_of_le-ne a (λ x. y (sym x))))

  module _ (n : ℕ) (e : malformed o 0 n ≡ Accepted) where
    pair-rises : (j : ℕ) → suc j < n → (quantity o j ≤ quantity o (suc j)) × (price_at o j ≤ price_at o (suc j))
    unfolding before price_before
    pair-rises j h =
        let z : pair_test (quantity o j) (price_at o j) (quantity o (suc j)) (price_at o (suc j)) ≡ true = pair-test o (suc j)
        ∙ pairs-hold n 0 e (suc j) (omega arith) (omega arith) in
        parts (ltb (quantity o j) (quantity o (suc j))) (leb 2147283648 (price_at o (suc j))) (leb (price_at o (suc j)) 2147683648)
        (leb (price_at o j) (price_at o (suc j))) z refl refl
      where
        parts : (a b c d : Bool) → a && b && c && d ≡ true → ltb (quantity o j) (quantity o (suc j)) ≡ a → leb (price_at o j) (price_at o (suc j)) ≡ d
            → (quantity o j ≤ quantity o (suc j)) × (price_at o j ≤ price_at o (suc j))
        parts a b c d y f g = (
          omega (arith, ltb-true (quantity o j) (quantity o (suc j)) (f ∙ and_left a b (and_left (a && b) c (and_left (a && b && c) d y)))),
          leb-true (price_at o j) (price_at o (suc j)) (g ∙ and_right (a && b && c) d y),
        )

    pub last-highest : LastHighest o n
    last-highest = record { at = to_last (price_at o) n (λ j h. (pair-rises j h).1) }

    within-from : (s : Parameters) → quantity o (n - 1) ≤ capacity s → (m k : ℕ) → k + m ≡ n → Accepted ≡ above_capacity s o k m
    unfolding above_capacity or_else refuse_if
    within-from s h zero k f = refl
    within-from s h (suc m) k f =
        rw (le-ltb (capacity s) (quantity o k) (omega (arith, to_last (quantity o) n (λ j g. (pair-rises j g).0) k (omega arith))))
        (within-from s h m (k + 1) (omega arith))

    -- 11: where the last quantity is not above the capacity, none is
    pub within-capacity : (s : Parameters) → quantity o (n - 1) ≤ capacity s → Accepted ≡ above_capacity s o 0 n
    within-capacity s h = within-from s h n 0 (omega arith)

pub offer-formed : (s : Parameters) (c : ℕ) (o : List ℕ) → offer_refusal s c o ≡ Accepted → malformed o 0 (length o / 6) ≡ Accepted
unfolding offer_refusal
offer-formed s c o e =
    let p = or_else-parts (condition_refusal s energy c) _ e in
    let q = or_else-parts (length_refusal o) _ p.1 in
    (or_else-parts (malformed o 0 (length o / 6)) _ q.1).0

-- ---- 10 at the length, 12, 14

module _ (o : List ℕ) where
  pub length-holds : leb 6 (length o) && leb (length o) 120 && eqb (length o % 6) 0 ≡ true → Accepted ≡ length_refusal o
  unfolding length_refusal between
  length-holds e = accepted-if _ 10 (length o) (ap not e)

  pub length-fails : leb 6 (length o) && leb (length o) 120 && eqb (length o % 6) 0 ≡ false → Refused 10 (length o) ≡ length_refusal o
  unfolding length_refusal between
  length-fails e = refused-if _ 10 (length o) (ap not e)

-- 12: what was read of the technology, and whether it holds the level
module _ (s : Parameters) (v t : ℕ) (r : Bool) (e : t ≡ technology s) (h : r ≡ holds t v) where
  same_test : eqb v 1 || not r ≡ eqb v 1 || not (holds (technology s) v)
  same_test = rw (h, e) refl

  pub level-refused : eqb v 1 || not r ≡ true → Refused 12 0 ≡ level_refusal s v
  unfolding level_refusal
  level-refused z = refused-if (eqb v 1 || not (holds (technology s) v)) 12 0 (sym same_test ∙ z)

  pub level-accepted : eqb v 1 || not r ≡ false → Accepted ≡ level_refusal s v
  unfolding level_refusal
  level-accepted z = accepted-if (eqb v 1 || not (holds (technology s) v)) 12 0 (sym same_test ∙ z)

-- 14: what was read of TH
pub in-conditions : (c : ℕ) → leb 1 c && leb c 3 ≡ true → (1 ≤ c) × (c ≤ 3)
in-conditions c e = (leb-true 1 c (and_left (leb 1 c) (leb c 3) e), leb-true c 3 (and_right (leb 1 c) (leb c 3) e))

pub condition-in : (l : List (List ℕ)) (v c : ℕ) (r : List ℕ) → leb 1 c && leb c 3 ≡ true → r ≡ current TH (threshold_key c v) l → 0 < length r
    → Accepted ≡ condition_refusal (parameters l) v c
unfolding condition_refusal between parameters present
condition-in l v c r t e h = accepted-if _ 14 0 (rw (t, ← e, lt-ltb 0 (length r) h) refl)

pub condition-none : (l : List (List ℕ)) (v c : ℕ) (r : List ℕ) → leb 1 c && leb c 3 ≡ true → r ≡ current TH (threshold_key c v) l → length r ≤ 0
    → Refused 14 0 ≡ condition_refusal (parameters l) v c
unfolding condition_refusal between parameters present
condition-none l v c r t e h = refused-if _ 14 0 (rw (t, ← e, le-ltb 0 (length r) h) refl)

pub condition-out : (s : Parameters) (v c : ℕ) → leb 1 c && leb c 3 ≡ false → Refused 14 0 ≡ condition_refusal s v c
unfolding condition_refusal between
condition-out s v c t = refused-if _ 14 0 (rw t refl)
