-- The sums over what the intervals' slots hold: how high they reach, and how they move with a slot.
use mathlib.Core.Path.{◌≡◌, refl, ap, sym, subst, ◌∙◌}
use mathlib.Core.Bool.{Bool}
use mathlib.Core.List.{List, [], ◌∷◌}
use Prim.Native.Nat.{ℕ, suc, ◌+◌, ◌*◌, ◌≤◌, ◌<◌}
use native.Mathlib.Nat.{mul-le-mul}
use native.Mathlib.Decide.{ℕ_discrete}
use native.Mathlib.Omega.{arith}
use lib.Dec.{ltb, lit≤, lit<}
use lib.ListN.{length, get_or, set, replicate, length-set, length-replicate, get_or-replicate, get_or-eq_default}
use lib.Seq.{get_or-set_same, get_or-set_other}
use borrow.Author.Tests.{ltb-true, ltb-false}
use Rattle.lists.specs.Sums.{sum_to}
use Rattle.lists.proofs.Sums.{sum_to-same, sum_to-within, sum_to-part, sum_to-replaced, sum_to-zeros}
use Rattle.lists.proofs.Tests.{split}
use Rattle.records.specs.Table.{table, row_of, CH}
use Rattle.records.specs.Record.{mark, kind, datable, key_of, fault}
use Rattle.lists.specs.Tests.{among}
use Rattle.records.proofs.Dated.{other-mark}
use Rattle.records.specs.MarkShapes.{shape, shape_of}
use Rattle.station.specs.Week.{intervals}
use Rattle.index.specs.Slots.{slot, kept, keep_step, put}
use Rattle.index.specs.Intervals.{held_price, held_energy, slot_price, slot_energy, HeldSums, HeldIn}
use Rattle.index.proofs.KeyBounds.{Spans, InKey, in-key}
use Rattle.index.proofs.Slots.{slot_apart}
use Rattle.index.proofs.Intervals.{price-none, energy-none}

-- two intervals have two slots
slot_same : (n m : ℕ) → slot CH n ≡ slot CH m → n ≡ m
unfolding slot
slot_same n m e = omega (arith, e)

pub interval-key : (n : ℕ) → 1 ≤ n → n ≤ 2016 → InKey CH n
unfolding Spans shape_of shape row_of table
interval-key n a b = record { known = lit≤ tt; low = lit< tt; spans = (a, b) }

-- a record of their kind has their mark
of-kind : (r : List ℕ) → kind r ≡ CH → mark r ≡ CH
unfolding datable among table
of-kind r e = other-mark r refl e

-- and no other record without fault has one of them
elsewhere : (r : List ℕ) → fault r ≡ 0 → (mark r ≡ CH → ⊥) → (m : ℕ) → 1 ≤ m → m ≤ 2016 → slot CH m ≡ slot (kind r) (key_of r) → ⊥
elsewhere r e other m a b z =
    other (of-kind r (sym (slot_apart CH m (kind r) (key_of r) (interval-key m a b) (in-key r e) z).0))

-- the price and energy of a slot's value, and how high they reach
pub record Held (d : List ℕ) (v : ℕ) : Type 0 where
  pub price-high : held_price d v ≤ 2147683648
  pub energy-high : held_energy d v ≤ 1000000
  pub within : 1 ≤ v → v + 15 ≤ length d

module _ {d ix : List ℕ} {c e : ℕ} (h : HeldSums d ix c e) where
  abbrev cost : ℕ → ℕ
  cost n = slot_price d ix n * slot_energy d ix n

  pub held_at : (n : ℕ) → 1 ≤ n → n ≤ 2016 → Held d (get_or ix (slot CH n) 0)
  held_at n a b = record { price-high = h.price-high n a b; energy-high = h.energy-high n a b; within = h.within n a b }

  pub cost-within : c ≤ 4329730234368000000
  cost-within =
      let z : sum_to intervals (λ n. slot_price d ix n * slot_energy d ix n) ≤ 2016 * 2147683648000000 =
      sum_to-within intervals 2147683648000000 cost (λ n a b. mul-le-mul (h.price-high n a b) (h.energy-high n a b)) in
      omega (arith, h.cost-sum, z)

  pub energy-within : e ≤ 2016000000
  energy-within = omega (arith, h.energy-sum, sum_to-within intervals 1000000 (slot_energy d ix) h.energy-high)

  pub cost-part : (n : ℕ) → 1 ≤ n → n ≤ 2016 → slot_price d ix n * slot_energy d ix n ≤ c
  cost-part n a b = omega (arith, h.cost-sum, sum_to-part intervals n cost a b)

  pub energy-part : (n : ℕ) → 1 ≤ n → n ≤ 2016 → slot_energy d ix n ≤ e
  energy-part n a b = omega (arith, h.energy-sum, sum_to-part intervals n (slot_energy d ix) a b)

  -- a slot of no interval changes none
  module _ (j v : ℕ) (apart : (n : ℕ) → 1 ≤ n → n ≤ 2016 → slot CH n ≡ j → ⊥) where
    stays : (n : ℕ) → 1 ≤ n → n ≤ 2016 → get_or ix (slot CH n) 0 ≡ get_or (set ix j v) (slot CH n) 0
    stays n a b = sym (get_or-set_other ix j (slot CH n) v 0 (apart n a b))

    sums-other : HeldSums d (set ix j v) c e
    sums-other =
        record {
          cost-sum = h.cost-sum ∙ sum_to-same intervals cost (λ n. slot_price d (set ix j v) n * slot_energy d (set ix j v) n)
              (λ n a b. ap (λ (x : ℕ). held_price d x * held_energy d x) (stays n a b));
          energy-sum = h.energy-sum ∙ sum_to-same intervals (slot_energy d ix) (slot_energy d (set ix j v)) (λ n a b. ap (held_energy d) (stays n a b));
          price-high = λ n a b. rw (← stays n a b) (h.price-high n a b);
          energy-high = λ n a b. rw (← stays n a b) (h.energy-high n a b);
          within = λ n a b. rw (← stays n a b) (h.within n a b);
        }

  -- nor does a record without fault that is none
  pub sums-beside : (b : Bool) (t : ℕ) (f : Bool) (p : ℕ) (r : List ℕ) → fault r ≡ 0 → (mark r ≡ CH → ⊥)
      → HeldSums d (keep_step d (kept ix b t f) p r).slots c e
  unfolding keep_step put
  sums-beside b t f p r z other = sums-other (slot (kind r) (key_of r)) _ (elsewhere r z other)

  -- the slot of interval m with another value takes what it held off and adds what it holds
  module _ (m : ℕ) (a₀ : 1 ≤ m) (b₀ : m ≤ 2016) (fit : slot CH m < length ix) (v : ℕ) (new : Held d v) where
    own : get_or (set ix (slot CH m) v) (slot CH m) 0 ≡ v
    own = get_or-set_same ix (slot CH m) v 0 fit

    other : (n : ℕ) → (n ≡ m → ⊥) → get_or (set ix (slot CH m) v) (slot CH n) 0 ≡ get_or ix (slot CH n) 0
    other n z = get_or-set_other ix (slot CH m) (slot CH n) v 0 (λ w. z (slot_same n m w))

    all : (P : ℕ → Type 0) → P v → (n : ℕ) → P (get_or ix (slot CH n) 0) → P (get_or (set ix (slot CH m) v) (slot CH n) 0)
    all P p n q = go (ℕ_discrete n m)
      where
        go : Dec (n ≡ m) → P (get_or (set ix (slot CH m) v) (slot CH n) 0)
        go (yes z) = rw (z, own) p
        go (no z) = rw (other n z) q

    replaced : (f : ℕ → ℕ) → sum_to intervals (λ n. f (get_or (set ix (slot CH m) v) (slot CH n) 0)) + f (get_or ix (slot CH m) 0)
        ≡ sum_to intervals (λ n. f (get_or ix (slot CH n) 0)) + f v
    replaced f =
        sum_to-replaced intervals m (λ n. f (get_or (set ix (slot CH m) v) (slot CH n) 0)) (λ n. f (get_or ix (slot CH n) 0)) a₀ b₀ (λ n a b z. ap f (other n z))
        ∙ ap (λ (x : ℕ). sum_to intervals (λ n. f (get_or ix (slot CH n) 0)) + f x) own

    pub sums-set : {x y : ℕ} → x + slot_price d ix m * slot_energy d ix m ≡ c + held_price d v * held_energy d v → y + slot_energy d ix m ≡ e + held_energy d v
        → HeldSums d (set ix (slot CH m) v) x y
    sums-set p q =
        record {
          cost-sum = omega (arith, p, h.cost-sum, replaced (λ k. held_price d k * held_energy d k));
          energy-sum = omega (arith, q, h.energy-sum, replaced (held_energy d));
          price-high = λ n a b. all (λ k. held_price d k ≤ 2147683648) new.price-high n (h.price-high n a b);
          energy-high = λ n a b. all (λ k. held_energy d k ≤ 1000000) new.energy-high n (h.energy-high n a b);
          within = λ n a b. all (λ k. 1 ≤ k → k + 15 ≤ length d) new.within n (h.within n a b);
        }

-- of an index of empty slots
module _ (d : List ℕ) (w : ℕ) where
  empty-slot : (n : ℕ) → ◌≡◌ {A = ℕ} (get_or (replicate w 0) (slot CH n) 0) 0
  empty-slot n =
      split (ltb (slot CH n) w)
      (λ t. get_or-replicate w (slot CH n) 0 0 (ltb-true (slot CH n) w t))
      (λ f. get_or-eq_default (replicate w 0) 0 {n = slot CH n} (omega (arith, length-replicate {A = ℕ} w 0, ltb-false (slot CH n) w f)))

  pub sums-empty : HeldSums d (replicate w 0) 0 0
  unfolding sum_to
  sums-empty =
      record {
        cost-sum = sym (sum_to-zeros (λ n. slot_price d (replicate w 0) n * slot_energy d (replicate w 0) n) 0 2016
            (λ i z. rw (empty-slot (suc (0 + i)), price-none d) (omega arith)));
        energy-sum = sym (sum_to-zeros (slot_energy d (replicate w 0)) 0 2016 (λ i z. rw (empty-slot (suc (0 + i)), energy-none d) refl));
        price-high = λ n a b. rw (empty-slot n, price-none d) (omega arith);
        energy-high = λ n a b. rw (empty-slot n, energy-none d) (omega arith);
        within = λ n a b z. absurd (omega (arith, z, empty-slot n));
      }

-- two sums in a list
pub sums-put : (d ix l : List ℕ) (c e : ℕ) → length l ≡ 2 → HeldSums d ix c e → HeldIn d ix (set (set l 0 c) 1 e)
sums-put d ix l c e n h =
    let a : get_or (set (set l 0 c) 1 e) 0 0 ≡ c = get_or-set_other (set l 0 c) 1 0 e 0 (λ z. omega arith) ∙ get_or-set_same l 0 c 0 (omega (arith, n)) in
    let b : get_or (set (set l 0 c) 1 e) 1 0 ≡ e = get_or-set_same (set l 0 c) 1 e 0 (omega (arith, n, length-set l 0 c)) in
    rw (a, b) h

pub held-empty : (d ix l : List ℕ) → ix ≡ replicate (length ix) 0 → l ≡ 0 ∷ 0 ∷ [] → HeldIn d ix l
held-empty d ix l e f = rw f (subst (λ (x : List ℕ). HeldSums d x 0 0) (sym e) (sums-empty d (length ix)))
