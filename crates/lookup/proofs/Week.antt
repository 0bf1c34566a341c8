-- The charging week through the index: where an interval's record lies, and the sums over the slots are the week's.
use mathlib.Core.Path.{◌≡◌, refl, ap, ap₂, sym, ◌∙◌}
use mathlib.Core.Bool.{Bool, true, false, cond, ◌||◌, not, false≢true}
use mathlib.Core.List.{List, []}
use Prim.Native.Nat.{ℕ, ◌+◌, ◌-◌, ◌*◌, ◌≤◌, ◌<◌}
use native.Mathlib.Omega.{arith}
use lib.Dec.{ltb, eqb}
use lib.ListN.{length, get_or, take, drop, get_or-eq_default}
use borrow.Author.Tests.{ne_eqb, ltb-true, ltb-false, eqb-true, eqb-false}
use Rattle.lists.specs.Tests.{all_below, among}
use Rattle.lists.proofs.Sums.{sum_to-same, sum_to-scaled}
use Rattle.lists.proofs.Tests.{or-false-right, split}
use Rattle.fields.specs.Numbers.{number, biased}
use Rattle.fields.proofs.Numbers.{number-nil}
use Rattle.records.specs.Table.{table, row_of, CH}
use Rattle.records.specs.Record.{datable, fields_at, widths, size}
use Rattle.records.specs.Dossier.{records}
use Rattle.records.proofs.Read.{number-take}
use Rattle.station.specs.Current.{current}
use Rattle.station.specs.Parameters.{parameters, amounts, charge_price, charge_energy}
use Rattle.station.specs.Week.{intervals, WeekSums}
use Rattle.station.proofs.Fields.{charge_price-at, charge_energy-at}
use Rattle.index.specs.Slots.{slot, slots_empty}
use Rattle.index.specs.Intervals.{held_price, held_energy, slot_price, slot_energy, HeldSums}
use Rattle.index.proofs.Intervals.{price-held, energy-held, energy-none}
use Rattle.index.proofs.HeldSums.{interval-key, energy-within}
use Rattle.lookup.specs.Parts.{part, part_bytes, place_at, part_at, Whole, Complete}
use Rattle.lookup.proofs.Parts.{current-in-empty, slot-tells, part-current, beyond-index}

-- a part that is not empty lies within the dossier, where its slot says
part-there : (d ix : List ℕ) (j n : ℕ) {c : List ℕ} → part_at d ix j n ≡ c → ltb 0 (length c) ≡ true → (get_or ix j 0 - 1 + n ≤ length d)
    × (take n (drop (get_or ix j 0 - 1) d) ≡ c)
unfolding part_at place_at part_bytes
part-there d ix j n {c} e t = go (eqb (get_or ix j 0) 0 || ltb (length d) (get_or ix j 0 - 1 + n)) refl e
  where
    go : (b : Bool) → eqb (get_or ix j 0) 0 || ltb (length d) (get_or ix j 0 - 1 + n) ≡ b → part_bytes d (cond b (part 0 0) (part (get_or ix j 0 - 1) n)) ≡ c
        → (get_or ix j 0 - 1 + n ≤ length d) × (take n (drop (get_or ix j 0 - 1) d) ≡ c)
    go true x p = absurd (false≢true (rw (← p) at t))
    go false x p = (ltb-false (length d) (get_or ix j 0 - 1 + n) (or-false-right (eqb (get_or ix j 0) 0) (ltb (length d) (get_or ix j 0 - 1 + n)) x), p)

-- one slot by itself
one-empty : (ix : List ℕ) (j : ℕ) → get_or ix j 0 ≡ 0 → slots_empty ix j 1 ≡ true
unfolding slots_empty all_below
one-empty ix j e =
    let w : j + 0 ≡ j = omega arith in
    rw (w, e) refl

module _ {d ix : List ℕ} (h : Whole d ix) (n : ℕ) (a : 1 ≤ n) (b : n ≤ 2016) where
  abbrev v : ℕ
  v = get_or ix (slot CH n) 0

  abbrev r : List ℕ
  r = current CH n (records d)

  module _ (fit : slot CH n < length ix) where
    -- an interval whose slot is empty has no record
    pub slot-empty : v ≡ 0 → r ≡ []
    slot-empty e = current-in-empty d ix h CH n (interval-key n a b) fit (slot CH n) 1 (one-empty ix (slot CH n) e) (omega arith) (omega arith)

    -- one whose slot is not has it where the slot says
    pub slot-there : (v ≡ 0 → ⊥) → (v - 1 + 16 ≤ length d) × (take 16 (drop (v - 1) d) ≡ r)
    unfolding datable among size fields_at widths row_of table
    slot-there e =
        let i = interval-key n a b in
        part-there d ix (slot CH n) 16 (part-current d ix h CH n i fit refl refl refl) (slot-tells d ix h CH n i fit ∙ ap not (ne_eqb v 0 e))

  -- what its slot holds is what its record says
  Says : Type 0
  Says = (charge_price (amounts (records d)) n * charge_energy (parameters (records d)) n ≡ slot_price d ix n * slot_energy d ix n)
      × (charge_energy (parameters (records d)) n ≡ slot_energy d ix n)

  says_none : v ≡ 0 → r ≡ [] → Says
  unfolding Says
  says_none e f =
      let z : charge_energy (parameters (records d)) n ≡ 0 = charge_energy-at (records d) n ∙ ap (number 12 4) f ∙ number-nil 12 4 in
      let y : slot_energy d ix n ≡ 0 = ap (held_energy d) e ∙ energy-none d in
      (rw (z, y) (omega arith), z ∙ sym y)

  says_there : (v ≡ 0 → ⊥) → take 16 (drop (v - 1) d) ≡ r → Says
  unfolding Says
  says_there e f =
      let back : v - 1 + 1 ≡ v = omega (arith, e) in
      let told : (o : ℕ) → o ≤ 12 → number o 4 r ≡ number o 4 (drop (v - 1) d) = λ o z. ap (number o 4) (sym f)
      ∙ number-take 16 o 4 (drop (v - 1) d) (omega arith) in
      let p : charge_price (amounts (records d)) n ≡ slot_price d ix n = charge_price-at (records d) n ∙ ap biased (told 8 (omega arith))
      ∙ sym (price-held d (v - 1)) ∙ ap (held_price d) back in
      let q : charge_energy (parameters (records d)) n ≡ slot_energy d ix n = charge_energy-at (records d) n ∙ told 12 (omega arith)
      ∙ sym (energy-held d (v - 1)) ∙ ap (held_energy d) back in
      (ap₂ (λ (x y : ℕ). x * y) p q, q)

  slot-says : Complete d ix → Says
  slot-says full =
      split (ltb (slot CH n) (length ix))
      (λ t.
      let fit = ltb-true (slot CH n) (length ix) t in
      split (eqb v 0)
      (λ z. let e = eqb-true v 0 z in says_none e (slot-empty fit e))
      (λ z. let e = eqb-false v 0 z in says_there e (slot-there fit e).1))
      (λ f.
      let past = ltb-false (slot CH n) (length ix) f in
      says_none (get_or-eq_default ix 0 {n = slot CH n} past) (beyond-index d ix full CH n past))

-- through an index of every record
pub week-sums : {d ix : List ℕ} {c e : ℕ} → Whole d ix → Complete d ix → HeldSums d ix c e → WeekSums d c e
unfolding Says
week-sums {d} {ix} i full h =
    record {
      cost-sum =
          h.cost-sum ∙ sym (sum_to-same intervals (λ n. charge_price (amounts (records d)) n * charge_energy (parameters (records d)) n)
          (λ n. slot_price d ix n * slot_energy d ix n) (λ n a b. (slot-says i n a b full).0));
      energy-sum =
          h.energy-sum ∙ sym (sum_to-same intervals (charge_energy (parameters (records d))) (slot_energy d ix) (λ n a b. (slot-says i n a b full).1));
      cost-high = rw (h.cost-sum, h.energy-sum) (sum_to-scaled intervals 2147683648 (slot_price d ix) (slot_energy d ix) h.price-high);
      energy-high = energy-within h;
    }
