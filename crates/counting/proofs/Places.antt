-- The records by their numbers: each stands at its place, and the first that draws 6 is the one at the least place.
use mathlib.Core.Path.{◌≡◌, refl, ap, ap₂, sym, ◌∙◌}
use mathlib.Core.Bool.{Bool, true, false, cond}
use mathlib.Core.List.{List, [], ◌∷◌, ◌++◌, map}
use Prim.Native.Nat.{ℕ, ◌+◌, ◌≤◌, min}
use native.Mathlib.Omega.{arith}
use lib.Dec.{ltb}
use lib.ListN.{length, drop, get_or-append, length-append, length-drop}
use lib.Seq.{take_at, drop-append_seam, drop-drop}
use borrow.Author.Tests.{lt-ltb}
use Rattle.lists.specs.Lists.{Each, done, also, Permutation, empty, keep, swap, then, those, joined}
use Rattle.lists.proofs.Tests.{split}
use Rattle.records.specs.Record.{mark, size, fault}
use Rattle.records.specs.Answers.{Accepted, Answer, or_else, refuse_if, Refused}
use Rattle.records.specs.Dossier.{first_of, records, first_drawn}
use Rattle.records.proofs.Record.{size-ge, mark-alike}
use Rattle.records.proofs.Dossier.{Whole, joined-records, records-whole}
use Rattle.counting.specs.Sweep.{packed, ids_from, place_in, record_at, nowhere, answer_at}

-- ---- where the records stand

-- from place p on they stand behind each other
abbrev pub Stands : List ℕ → ℕ → List (List ℕ) → Type 0
Stands d p [] = Unit {0}
Stands d p (r ∷ l) = (first_of (drop p d) ≡ r) × (p + length r ≤ length d) × Stands d (p + length r) l

first-whole : (r s : List ℕ) → Whole r → first_of (r ++ s) ≡ r
unfolding first_of
first-whole r s h =
    let e : mark (r ++ s) ≡ mark r =
    mark-alike (r ++ s) r (get_or-append r s 0 0 (omega (arith, h, size-ge (mark r)))) (get_or-append r s 0 1 (omega (arith, h, size-ge (mark r)))) in
    rw e (take_at r s (size (mark r)) h)

standing : (d : List ℕ) (p : ℕ) {l : List (List ℕ)} → Each Whole l → p ≤ length d → drop p d ≡ joined l → Stands d p l
unfolding joined
standing d p done h e = tt
standing d p (also {a = r} {l = l} w f) h e =
    let n : length (drop p d) ≡ length r + length (joined l) = ap length e ∙ length-append r (joined l) in
    let m : p + length r ≤ length d = omega (arith, n, length-drop p d) in (
      ap first_of e ∙ first-whole r (joined l) w,
      m,
      standing d (p + length r) f m (sym (drop-drop (length r) p d) ∙ ap (drop (length r)) e ∙ drop-append_seam r (joined l)),
    )

pub stands : (d : List ℕ) → Each (λ r. fault r ≡ 0) (records d) → Stands d 0 (records d)
stands d e = standing d 0 (records-whole d e) (omega arith) (sym (joined-records d))

pub place-in : (g i p : ℕ) → p ≤ 60000 → place_in (packed g i p) ≡ p
place-in g i p h = omega arith

module _ (d : List ℕ) (short : length d ≤ 60000) (f : List ℕ → Bool) where
  -- so the numbers tell the records
  pub told : (p : ℕ) (l : List (List ℕ)) → Stands d p l → map (record_at d) (ids_from f p l) ≡ those f l
  unfolding ids_from record_at those
  told p [] s = refl
  told p (r ∷ l) s = go (f r) _ _ (ap (λ (i : ℕ). first_of (drop i d)) (place-in _ _ p (omega (arith, s.1))) ∙ s.0) (told (p + length r) l s.2)
    where
      go : (b : Bool) (x : ℕ) (m : List ℕ) → record_at d x ≡ r → map (record_at d) m ≡ those f l
          → map (record_at d) (cond b (x ∷ m) m) ≡ cond b (r ∷ those f l) (those f l)
      go true x m e h = ap₂ (λ (a : List ℕ) (b : List (List ℕ)). a ∷ b) e h
      go false x m e h = h

-- ---- the least place of those that a test holds of

unfoldable pub lowest : (ℕ → Bool) → List ℕ → ℕ
lowest f [] = nowhere
lowest f (x ∷ l) = cond (f x) (min (place_in x) (lowest f l)) (lowest f l)

pub lowest-same : (f g : ℕ → Bool) {l : List ℕ} → Each (λ x. f x ≡ g x) l → lowest f l ≡ lowest g l
unfolding lowest
lowest-same f g done = refl
lowest-same f g (also h e) = rw (h, lowest-same f g e) refl

pub lowest-those : (f k : ℕ → Bool) {l : List ℕ} → Each (λ x. k x ≡ false → f x ≡ false) l → lowest f (those k l) ≡ lowest f l
unfolding lowest those
lowest-those f k done = refl
lowest-those f k (also {a = x} {l = l} h e) =
    split (k x) (λ y. rw (y, lowest-those f k e) refl) (λ y. rw (y, h y) (lowest-those f k e))

pub lowest-permuted : (f : ℕ → Bool) {l m : List ℕ} → Permutation l m → lowest f l ≡ lowest f m
unfolding lowest
lowest-permuted f empty = refl
lowest-permuted f (keep x p) = rw (lowest-permuted f p) refl
lowest-permuted f (swap x y l) = go (f x) (f y)
  where
    n : ℕ
    n = lowest f l

    go : (a b : Bool) → cond a (min (place_in x) (cond b (min (place_in y) n) n)) (cond b (min (place_in y) n) n)
        ≡ cond b (min (place_in y) (cond a (min (place_in x) n) n)) (cond a (min (place_in x) n) n)
    go true true = omega arith
    go true false = refl
    go false true = refl
    go false false = refl
lowest-permuted f (then p q) = lowest-permuted f p ∙ lowest-permuted f q

module _ (d : List ℕ) (short : length d ≤ 60000) (g f : List ℕ → Bool) where
  -- it is not before the first
  lowest-from : (p : ℕ) (l : List (List ℕ)) → p ≤ 60000 → Stands d p l → p ≤ lowest (λ x. f (record_at d x)) (ids_from g p l)
  unfolding lowest ids_from
  lowest-from p [] q s = omega arith
  lowest-from p (r ∷ l) q s = by (g r) _ _ (place-in _ _ p q) (lowest-from (p + length r) l (omega (arith, s.1)) s.2)
    where
      go : (x : ℕ) (b : Bool) {n : ℕ} → place_in x ≡ p → p + length r ≤ n → p ≤ cond b (min (place_in x) n) n
      go x true e h = omega (arith, e, h)
      go x false e h = omega (arith, h)

      by : (c : Bool) (x : ℕ) (m : List ℕ) → place_in x ≡ p → p + length r ≤ lowest (λ x. f (record_at d x)) m
          → p ≤ lowest (λ x. f (record_at d x)) (cond c (x ∷ m) m)
      by true x m e h = go x (f (record_at d x)) e h
      by false x m e h = omega (arith, h)

  -- and tells the first that draws 6, if none does that has no number
  pub first-lowest : (p : ℕ) {l : List (List ℕ)} → p ≤ 60000 → Stands d p l → Each (λ r. g r ≡ false → f r ≡ false) l
      → answer_at (lowest (λ x. f (record_at d x)) (ids_from g p l)) ≡ first_drawn (λ q r. refuse_if (f r) 6 q) p l
  unfolding answer_at first_drawn lowest ids_from
  first-lowest p q s done = refl
  first-lowest p q s (also {a = r} {l = l} w e) =
      split (g r)
      (λ y. rw y (go _ (place-in _ _ p q) (lowest-from (p + length r) l (omega (arith, s.1)) s.2)
      (first-lowest (p + length r) (omega (arith, s.1)) s.2 e)))
      (λ y. rw (y, w y) (first-lowest (p + length r) (omega (arith, s.1)) s.2 e ∙ sym (passed _)))
    where
      passed : (a : Answer) → or_else (refuse_if false 6 p) a ≡ a
      passed a = unfold or_else refuse_if in refl

      there : (x : ℕ) → place_in x ≡ p → record_at d x ≡ r
      there x e = unfold record_at in ap (λ (i : ℕ). first_of (drop i d)) e ∙ s.0

      go : (x : ℕ) {n : ℕ} {a : Answer} → place_in x ≡ p → p + length r ≤ n → cond (ltb n nowhere) (Refused 6 n) Accepted ≡ a
          → cond (ltb (cond (f (record_at d x)) (min (place_in x) n) n) nowhere) (Refused 6 (cond (f (record_at d x)) (min (place_in x) n) n)) Accepted
          ≡ or_else (refuse_if (f r) 6 p) a
      go x {n} {a} e h z = rw (there x e) (by (f r))
        where
          low : min (place_in x) n ≡ p
          low = omega (arith, e, h)

          by : (b : Bool) → cond (ltb (cond b (min (place_in x) n) n) nowhere) (Refused 6 (cond b (min (place_in x) n) n)) Accepted ≡ or_else (refuse_if b 6 p) a
          by true = unfold or_else refuse_if in rw (low, lt-ltb p nowhere (omega arith)) refl
          by false = unfold or_else refuse_if in z
