-- One turn of a run of intervals: what it keeps of the walk, and of the sums.
use mathlib.Core.Path.{◌≡◌, refl, ap, ap₂, sym, subst, ◌∙◌}
use mathlib.Core.Bool.{Bool, true, false, cond, ◌&&◌, ◌||◌}
use mathlib.Core.List.{List}
use Prim.Native.Nat.{ℕ, ◌+◌, ◌-◌, ◌*◌, ◌≤◌, ◌<◌}
use native.Mathlib.Omega.{arith}
use lib.Dec.{leb, ltb}
use lib.ListN.{length, get_or, set, take, drop, length-drop}
use borrow.Author.Tests.{le-leb, lt-ltb}
use Rattle.lists.proofs.Tests.{and-true, cond-holds, or-false}
use Rattle.fields.specs.Numbers.{number, biased}
use Rattle.records.specs.Table.{table, row_of, CH}
use Rattle.records.specs.Record.{key_in, key_width, kind_of, is_dated, fields_at}
use Rattle.records.specs.Walk.{Record, found, Rest}
use Rattle.records.proofs.Walk.{next}
use Rattle.index.specs.declared.charging.Interval.{Interval}
use Rattle.index.specs.Slots.{slot, slot_at, held_issue, newer, higher, Kept, kept, keep_step}
use Rattle.index.specs.Intervals.{interval_as, is_interval, interval_at, held_price, held_energy, slot_price, slot_energy, HeldSums}
use Rattle.index.proofs.Turn.{step-held, step-beyond}
use Rattle.index.proofs.Intervals.{Fair, fair, interval-there, interval-found, price-held, energy-held, price-none, energy-none}
use Rattle.index.proofs.HeldSums.{Held, held_at, cost-part, energy-part, sums-set}

-- an interval is what a CH without fault at the front of a rest says
pub record Says (i : Interval) (s : List ℕ) : Type 0 where
  pub there : is_interval s ≡ true
  pub n-is : i.n ≡ number 6 2 s
  pub issue-is : i.issue ≡ number 2 4 s + 1
  pub price-is : i.price ≡ biased (number 8 4 s)
  pub energy-is : i.energy ≡ number 12 4 s

pub says : (d : List ℕ) (at : ℕ) {i : Interval} → i ≡ interval_at d at → (i.n ≡ 0 → ⊥) → Says i (drop at d)
unfolding interval_at interval_as
says d at e z =
    let t = interval-there d at (λ y. z (ap (λ (x : Interval). x.n) e ∙ y)) in
    rw (e, t) (record { there = t; n-is = refl; issue-is = refl; price-is = refl; energy-is = refl })

-- its slot, read in place
interval-slot : (s : List ℕ) → slot_at CH s ≡ slot CH (number 6 2 s)
unfolding slot_at key_width key_in row_of table kind_of is_dated fields_at
interval-slot s = refl

module _ (d : List ℕ) (at : ℕ) {i : Interval} (its : Says i (drop at d)) where
  abbrev s : List ℕ
  s = drop at d

  its-fair : Fair s
  its-fair = fair s its.there

  its-found : found s ≡ Record CH 16
  its-found = interval-found s its.there

  pub inside : at + 16 ≤ length d
  inside = omega (arith, its-fair.long, length-drop at d)

  -- what it says is in range
  pub first : 1 ≤ i.n
  first = omega (arith, its.n-is, its-fair.first)

  pub last : i.n ≤ 2016
  last = omega (arith, its.n-is, its-fair.last)

  pub price-high : i.price ≤ 2147683648
  price-high = omega (arith, its.price-is, its-fair.price-high)

  pub energy-high : i.energy ≤ 1000000
  energy-high = omega (arith, its.energy-is, its-fair.energy-high)

  -- a slot may hold it
  new-price : held_price d (at + 1) ≡ i.price
  new-price = price-held d at ∙ sym its.price-is

  new-energy : held_energy d (at + 1) ≡ i.energy
  new-energy = energy-held d at ∙ sym its.energy-is

  new-held : Held d (at + 1)
  new-held = record { price-high = rw new-price price-high; energy-high = rw new-energy energy-high; within = λ z. omega (arith, inside) }

  -- ---- the walk

  module _ (x : Kept) (ix : List ℕ) (b : Bool) (t : ℕ) (f : Bool) (r : Rest (keep_step d) x d at (kept ix b t f)) {j m : ℕ} (ej : j ≡ slot CH i.n)
      (em : m ≡ higher t j) where
    -- it has no first hour
    taken : {l : List ℕ} {c : Bool} → keep_step d (kept ix b t f) at (take 16 s) ≡ kept l c m (f || is_dated CH) → Rest (keep_step d) x d (at + 16) (kept l c m f)
    unfolding is_dated row_of table
    taken {l} {c} e =
        subst (Rest (keep_step d) x d (at + 16)) (e ∙ ap (kept l c m) (or-false f))
        (next (keep_step d) x d at (kept ix b t f) CH 16 (omega (arith, inside)) r its-found)

    placed : j ≡ slot_at CH s
    placed = ej ∙ ap (slot CH) its.n-is ∙ sym (interval-slot s)

    pub run-held : {a g : ℕ} → a ≡ held_issue d (get_or ix j 0) → g ≡ newer a i.issue (get_or ix j 0) (at + 1)
        → Rest (keep_step d) x d (at + 16) (kept (set ix j g) (b && ltb a i.issue) m f)
    run-held ea eg = taken (step-held s CH 16 its-found d ix b t f at placed em its.issue-is ea eg)

    pub run-new : get_or ix j 0 ≡ 0 → Rest (keep_step d) x d (at + 16) (kept (set ix j (at + 1)) b m f)
    unfolding held_issue
    run-new z =
        let h : held_issue d (get_or ix j 0) ≡ 0 = rw z refl in
        let g : at + 1 ≡ newer 0 i.issue (get_or ix j 0) (at + 1) = rw (le-leb 0 i.issue (omega arith)) refl in
        rw (lt-ltb 0 i.issue (omega (arith, its.issue-is)), and-true b) at (run-held (sym h) g)

    pub run-beyond : length ix ≤ j → Rest (keep_step d) x d (at + 16) (kept ix b m f)
    run-beyond z = taken (step-beyond s CH 16 its-found d ix b t f at placed em z)

  -- ---- the sums

  module _ {ix : List ℕ} {c e : ℕ} (h : HeldSums d ix c e) {j : ℕ} (ej : j ≡ slot CH i.n) (fit : j < length ix) where
    abbrev v : ℕ
    v = get_or ix j 0

    new-cost : held_price d (at + 1) * held_energy d (at + 1) ≡ i.price * i.energy
    new-cost = ap₂ (λ (x y : ℕ). x * y) new-price new-energy

    put : (w : ℕ) → Held d w → {x y : ℕ} → x + held_price d v * held_energy d v ≡ c + held_price d w * held_energy d w → y + held_energy d v ≡ e + held_energy d w
        → HeldSums d (set ix j w) x y
    put w g {x} {y} =
        rw ej (λ (p : x + slot_price d ix i.n * slot_energy d ix i.n ≡ c + held_price d w * held_energy d w)
        (q : y + slot_energy d ix i.n ≡ e + held_energy d w). sums-set h i.n first last (rw ej at fit) w g p q)

    pub new-sums : v ≡ 0 → {x y : ℕ} → x ≡ c + i.price * i.energy → y ≡ e + i.energy → HeldSums d (set ix j (at + 1)) x y
    new-sums z p q =
        put (at + 1) new-held (rw (z, price-none d, new-cost) (omega (arith, p))) (rw (z, energy-none d, new-energy) (omega (arith, q)))

    -- of two records one stays and the other is taken off
    held : Held d v
    held = rw ej (held_at h i.n first last)

    old-cost : held_price d v * held_energy d v ≤ c
    old-cost = rw ej (cost-part h i.n first last)

    old-energy : held_energy d v ≤ e
    old-energy = rw ej (energy-part h i.n first last)

    module _ (a : ℕ) where
      abbrev left : ℕ
      left = newer a i.issue (at + 1) v

      pub left-held : Held d left
      left-held = cond-holds (Held d) (leb a i.issue) v (at + 1) held new-held

      pub left-cost : held_price d left * held_energy d left ≤ c + i.price * i.energy
      left-cost =
          cond-holds (λ k. held_price d k * held_energy d k ≤ c + i.price * i.energy) (leb a i.issue) v (at + 1) (omega (arith, old-cost))
          (omega (arith, new-cost))

      pub left-energy : held_energy d left ≤ e + i.energy
      left-energy =
          cond-holds (λ k. held_energy d k ≤ e + i.energy) (leb a i.issue) v (at + 1) (omega (arith, old-energy)) (omega (arith, new-energy))

      pub left-low : 1 ≤ v → 1 ≤ left
      left-low z = cond-holds (λ k. 1 ≤ k) (leb a i.issue) v (at + 1) z (omega arith)

      pub instead-sums : {w x y : ℕ} → w ≡ left → x ≡ c + i.price * i.energy - held_price d w * held_energy d w → y ≡ e + i.energy - held_energy d w
          → HeldSums d (set ix j (newer a i.issue v (at + 1))) x y
      instead-sums {w} {x} {y} = go (leb a i.issue)
        where
          go : (t : Bool) → w ≡ cond t v (at + 1) → x ≡ c + i.price * i.energy - held_price d w * held_energy d w → y ≡ e + i.energy - held_energy d w
              → HeldSums d (set ix j (cond t (at + 1) v)) x y
          go true z p q = put (at + 1) new-held (omega (arith, rw z at p, new-cost, old-cost)) (omega (arith, rw z at q, new-energy, old-energy))
          go false z p q = put v held (omega (arith, rw z at p, new-cost)) (omega (arith, rw z at q, new-energy))
