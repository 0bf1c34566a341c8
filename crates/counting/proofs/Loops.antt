-- The turns of the loops.
use mathlib.Core.Path.{◌≡◌, refl, ap, sym, ◌∙◌}
use mathlib.Core.Bool.{Bool, true, false, cond, ◌&&◌, not}
use mathlib.Core.List.{List, [], ◌∷◌, ◌++◌, append-nil}
use Prim.Native.Nat.{ℕ, zero, suc, ◌-◌, ◌≤◌, ◌<◌, min}
use native.Mathlib.Omega.{arith}
use lib.Dec.{ltb}
use lib.ListN.{length, get_or, take, drop}
use lib.Seq.{append_snoc}
use borrow.Author.Tests.{lt-ltb, le-ltb}
use Rattle.lists.specs.Lists.{Each, done, also}
use Rattle.fields.specs.Numbers.{number}
use Rattle.records.specs.Record.{mark, is_dated, size, since}
use Rattle.records.specs.Dossier.{first_of}
use Rattle.records.proofs.Record.{size-ge, key-ends, mark-take}
use Rattle.records.proofs.Read.{number-take}
use Rattle.records.proofs.Dated.{dated-at}
use Rattle.records.proofs.Over.{tail}
use Rattle.rules.specs.Fit.{fits}
use Rattle.trials.proofs.Laws.{fits-take}
use Rattle.counting.specs.declared.Swept.{Swept}
use Rattle.counting.specs.Sweep.{group_in, place_in}
use Rattle.counting.specs.Sweep.{never, nowhere, state, least_of, swept_by, stepped, swept_in}

-- ---- a record cut from the rest

pub since-first : (s : List ℕ) → since (first_of s) ≡ since s
unfolding since first_of
since-first s = rw (mark-take (size (mark s)) s (omega (arith, size-ge (mark s)))) (go (is_dated (mark s)) refl)
  where
    go : (b : Bool) → is_dated (mark s) ≡ b → cond b (number 6 4 (take (size (mark s)) s)) 0 ≡ cond b (number 6 4 s) 0
    go true e = number-take (size (mark s)) 6 4 s (omega (arith, dated-at (mark s) e, key-ends (mark s)))
    go false e = refl

pub fits-first : (t : ℕ) (s : List ℕ) → fits t (mark (first_of s)) (first_of s) ≡ fits t (mark s) s
unfolding first_of
fits-first t s = rw (mark-take (size (mark s)) s (omega (arith, size-ge (mark s)))) (fits-take t (mark s) s)

-- ---- from the last to the first

module _ (t : ℕ) (d : List ℕ) (s : Swept) (x : ℕ) {h l : ℕ}
    (eh : h ≡ since (take (length d - place_in x) (drop (place_in x) d))) (el : l ≡ least_of s (group_in x)) where
  abbrev rest : List ℕ
  rest = drop (place_in x) d

  hour : h ≡ since rest
  hour = eh ∙ ap since (tail d (place_in x))

  pub hour-low : h < 4294967296 → since rest < 4294967296
  hour-low z = rw (← hour) z

  step_by : {b : Bool} {g f : ℕ} → fits t (mark rest) rest ≡ b → min h l ≡ g → cond (ltb h l && not b) (min (place_in x) s.found) s.found ≡ f
      → state (group_in x) g f ≡ stepped t d s x
  unfolding stepped swept_by
  step_by eb eg ef = rw (← hour, ← el, eb, eg, ef) refl

  pub later : l ≤ h → state (group_in x) l s.found ≡ stepped t d s x
  later z = step_by refl (omega arith) (rw (le-ltb h l z) refl)

  module _ (z : h < l) where
    pub behind : s.found ≤ place_in x → state (group_in x) h s.found ≡ stepped t d s x
    behind w = step_by refl (omega arith) (rw (lt-ltb h l z) (go (fits t (mark rest) rest)))
      where
        go : (b : Bool) → cond (not b) (min (place_in x) s.found) s.found ≡ s.found
        go true = refl
        go false = omega arith

    module _ {b : Bool} (eb : b ≡ fits t (mark (take (length d - place_in x) rest)) (take (length d - place_in x) rest)) where
      fit : fits t (mark rest) rest ≡ b
      fit = sym (eb ∙ ap (λ (y : List ℕ). fits t (mark y) y) (tail d (place_in x)))

      pub fitted : b ≡ true → state (group_in x) h s.found ≡ stepped t d s x
      fitted w = step_by (fit ∙ w) (omega arith) (rw (lt-ltb h l z) refl)

      pub unfitted : b ≡ false → place_in x < s.found → state (group_in x) h (place_in x) ≡ stepped t d s x
      unfitted w v = step_by (fit ∙ w) (omega arith) (rw (lt-ltb h l z) (omega arith))

pub each_at : {P : ℕ → Type 0} {l : List ℕ} → Each P l → (i : ℕ) → i < length l → P (get_or l i 0)
each_at done i h = absurd (omega arith)
each_at (also q e) zero h = q
each_at (also q e) (suc i) h = each_at e i (omega arith)

-- what is left is in front of the numbers that are gone through
abbrev pub Sweeping : ℕ → List ℕ → List ℕ → List ℕ → Swept → Type 0
Sweeping t d ids left s = (m : List ℕ) × (ids ≡ left ++ m) × (s ≡ swept_in t d m) × Each (λ x. since (drop (place_in x) d) < never) m

pub sweep-first : (t : ℕ) (d ids : List ℕ) {left : List ℕ} → left ≡ ids → Sweeping t d ids left (state nowhere never nowhere)
sweep-first t d ids {left} e = ([], sym (append-nil left ∙ e), unfold swept_in in refl, done)

each-behind : {P : ℕ → Type 0} (a : List ℕ) {b : List ℕ} → Each P (a ++ b) → Each P b
each-behind [] e = e
each-behind (x ∷ a) (also q e) = each-behind a e

module _ (t : ℕ) (d ids : List ℕ) {left : List ℕ} (rest : List ℕ) {s : Swept} (x : ℕ) (e : left ≡ rest ++ (x ∷ [])) (w : Sweeping t d ids left s) where
  onward : ids ≡ rest ++ (x ∷ w.0)
  onward = w.1 ∙ ap (λ (l : List ℕ). l ++ w.0) e ∙ append_snoc rest x w.0

  -- the last of them is one of the numbers
  pub sweep-one : {P : ℕ → Type 0} → Each P ids → P x
  sweep-one {P} q = first (each-behind rest (rw onward at q))
    where
      first : {l : List ℕ} → Each P (x ∷ l) → P x
      first (also h f) = h

  pub sweep-next : {r : Swept} → r ≡ stepped t d s x → since (drop (place_in x) d) < never → Sweeping t d ids rest r
  unfolding swept_in
  sweep-next f low = (x ∷ w.0, onward, f ∙ ap (λ (y : Swept). stepped t d y x) w.2, also low w.3)

pub sweep-last : (t : ℕ) (d ids left : List ℕ) {s : Swept} → length left ≡ 0 → Sweeping t d ids left s
    → (s.found ≡ (swept_in t d ids).found) × Each (λ x. since (drop (place_in x) d) < never) ids
sweep-last t d ids [] z w = rw w.1 (ap (λ (y : Swept). y.found) w.2, w.3)
sweep-last t d ids (x ∷ l) z w = absurd (omega (arith, z))
