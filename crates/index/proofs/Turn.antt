-- One turn of the pass: what a record that was found says, and what it changes of the state so far.
use mathlib.Core.Path.{◌≡◌, refl, ap, ap₂, ◌∙◌}
use mathlib.Core.Bool.{Bool, ◌&&◌, ◌||◌}
use mathlib.Core.List.{List, [], ◌∷◌}
use Prim.Native.Nat.{ℕ, zero, suc, ◌+◌, ◌-◌, ◌≤◌, ◌<◌}
use native.Mathlib.Omega.{arith}
use lib.Dec.{ltb}
use lib.ListN.{length, get_or, set, take, drop, length-drop, get_or-eq_default}
use lib.Seq.{take_all}
use borrow.Author.Tests.{lt-ltb, eq-eqb, ltb-true, ltb-false}
use Rattle.std.specs.Prelude.{max}
use Rattle.lists.proofs.Tests.{and-true, split}
use Rattle.fields.specs.Numbers.{number}
use Rattle.records.specs.Record.{mark, kind_of, kind, fields_at, size, issue, key_width, key_of, fault, is_dated}
use Rattle.records.specs.MarkShapes.{shortest}
use Rattle.records.specs.Dossier.{first_of}
use Rattle.records.specs.Walk.{Record, found, Rest}
use Rattle.records.proofs.Record.{mark-take, size-ge, key-ends, faultless}
use Rattle.records.proofs.EveryMark.{mark-lt, size-least}
use Rattle.records.proofs.Walk.{found-record, found_within, next}
use Rattle.records.proofs.Read.{number-take}
use Rattle.index.specs.Slots.{slot_at, slot, wide, held_issue, newer, higher, Kept, kept, keep_step, put}
use Rattle.index.proofs.KeyBounds.{in-key}
use Rattle.index.proofs.Slots.{slot_lt}

pub tail : (d : List ℕ) (at : ℕ) → take (length d - at) (drop at d) ≡ drop at d
tail d at = take_all (length d - at) (drop at d) (simp length-drop (omega arith))

pub bounds : (d : List ℕ) (at k n : ℕ) → found (drop at d) ≡ Record k n → (1 ≤ n) × (n ≤ length d - at)
bounds d at k n e = let w = found_within (drop at d) k n e in (w.0, simp length-drop at w.1)

-- the higher of two slots
pub max-higher : (a b : ℕ) → max a b ≡ higher a b
max-higher a b = split (ltb a b) (λ t. rw t (omega (arith, ltb-true a b t))) (λ f. rw f (omega (arith, ltb-false a b f)))

-- what lies beyond a list is not set
set_beyond : (l : List ℕ) (i x : ℕ) → length l ≤ i → set l i x ≡ l
set_beyond [] i x h = refl
set_beyond (y ∷ l) zero x h = absurd (omega arith)
set_beyond (y ∷ l) (suc i) x h = ap (λ (m : List ℕ). y ∷ m) (set_beyond l i x (omega arith))

-- a record without fault is found
pub first_found : (s : List ℕ) → fault (first_of s) ≡ 0 → found s ≡ Record (mark s) (size (mark s))
unfolding found
first_found s e = rw (eq-eqb (fault (first_of s)) 0 e) refl

-- the record that was found says what the rest says
module _ (s : List ℕ) (k n : ℕ) (e : found s ≡ Record k n) where
  its-mark : mark (take n s) ≡ k
  its-mark =
      let z = found-record s k n e in
      rw (z.0, z.1) (mark-take (size (mark s)) s (omega (arith, size-ge (mark s))))

  its-fault : fault (take n s) ≡ 0
  unfolding first_of
  its-fault = let z = found-record s k n e in rw z.1 z.2

  pub long : shortest ≤ n
  long =
      let z = found-record s k n e in
      let f = faultless (take n s) its-fault in
      rw (z.1, ← z.0) (size-least k (λ h. f.known (its-mark ∙ h)) (rw z.0 (mark-lt s)))

  pub its-issue : issue (take n s) ≡ number 2 4 s
  unfolding issue
  its-issue = number-take n 2 4 s (omega (arith, long))

  pub its-slot : slot (kind (take n s)) (key_of (take n s)) ≡ slot_at k s
  unfolding kind key_of slot_at
  its-slot =
      ap₂ slot (ap kind_of its-mark) (ap (λ (x : ℕ). number (fields_at x) (key_width x) (take n s)) its-mark
      ∙ number-take n (fields_at k) (key_width k) s (omega (arith, key-ends k, ap size (found-record s k n e).0, (found-record s k n e).1)))

  slot-below : slot_at k s < wide
  slot-below = rw (← its-slot) (slot_lt (kind (take n s)) (key_of (take n s)) (in-key (take n s) its-fault))

  -- what it changes of the state so far
  module _ (d ix : List ℕ) (b : Bool) (c : ℕ) (f : Bool) (p : ℕ) {j m : ℕ} (ej : j ≡ slot_at k s) (em : m ≡ higher c j) where
    step_is : keep_step d (kept ix b c f) p (take n s) ≡ kept
        (set ix j (newer (held_issue d (get_or ix j 0)) (number 2 4 s + 1) (get_or ix j 0) (p + 1)))
        (b && ltb (held_issue d (get_or ix j 0)) (number 2 4 s + 1)) m (f || is_dated k)
    unfolding keep_step put
    step_is = rw (its-slot, its-issue, its-mark, em, ej) refl

    -- where the index has its slot
    pub step-held : {i a g : ℕ} → i ≡ number 2 4 s + 1 → a ≡ held_issue d (get_or ix j 0) → g ≡ newer a i (get_or ix j 0) (p + 1)
        → keep_step d (kept ix b c f) p (take n s) ≡ kept (set ix j g) (b && ltb a i) m (f || is_dated k)
    step-held ei ea eg = rw (eg, ea, ei) step_is

    -- and where it hasn't
    pub step-beyond : length ix ≤ j → keep_step d (kept ix b c f) p (take n s) ≡ kept ix b m (f || is_dated k)
    unfolding held_issue
    step-beyond z =
        let v : get_or ix j 0 ≡ 0 = get_or-eq_default ix 0 {n = j} z in
        let u : b && ltb (held_issue d (get_or ix j 0)) (number 2 4 s + 1) ≡ b = rw (v, lt-ltb 0 (number 2 4 s + 1) (omega arith)) (and-true b) in
        step_is ∙ ap₂ (λ (l : List ℕ) (x : Bool). kept l x m (f || is_dated k))
        (set_beyond ix j (newer (held_issue d (get_or ix j 0)) (number 2 4 s + 1) (get_or ix j 0) (p + 1)) z) u

-- the walk goes on behind a record without fault
pub goes_on : (d : List ℕ) (at : ℕ) (x a : Kept) {y : Kept} {n m : ℕ} → at < length d → Rest (keep_step d) x d at a → fault (first_of (drop at d)) ≡ 0
    → n ≡ size (mark (drop at d)) → m ≡ at + n → y ≡ keep_step d a at (first_of (drop at d)) → Rest (keep_step d) x d m y
unfolding first_of
goes_on d at x a h r z en em ey = rw (em, en, ey) (next (keep_step d) x d at a _ _ h r (first_found (drop at d) z))

pub below : (d : List ℕ) (at k n : ℕ) {j : ℕ} → found (drop at d) ≡ Record k n → j ≡ slot_at k (take (length d - at) (drop at d)) → j < wide
below d at k n e ej = rw (ej, tail d at) (slot-below (drop at d) k n e)
