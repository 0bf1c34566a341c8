-- A list sorted by a key through numbers: where each number holds the key and behind it the place, the sorted numbers are those of the list sorted by the key.
use mathlib.Core.Path.{◌≡◌, refl, ap, sym, ◌∙◌}
use mathlib.Core.Bool.{Bool, true, false, cond}
use mathlib.Core.List.{List, [], ◌∷◌, map}
use Prim.Native.Nat.{ℕ, suc, ◌+◌, ◌*◌, ◌≤◌, ◌<◌}
use native.Mathlib.Decide.{dec_le}
use native.Mathlib.Nat.{mul-le-mul_right}
use native.Mathlib.Omega.{arith}
use lib.Dec.{leb}
use borrow.Author.Tests.{le-leb, lt-leb}
use Rattle.lists.specs.Lists.{Each, done, also}
use Rattle.lists.specs.Sorted.{insert_by, sorted_by, sorted}
use Rattle.lists.proofs.Lists.{each_both, each_map}
use Rattle.lists.proofs.Sorted.{sorted-each}

-- each stands so to all that come behind it
pub data Onward {A : Type 0} (R : A → A → Type 0) : List A → Type 0 where
  over : Onward R []
  on : {a : A} {l : List A} → Each (R a) l → Onward R l → Onward R (a ∷ l)

-- ---- a list whose elements are made from another's

insert-mapped : {A B : Type 0} (f : B → A) (key : A → ℕ) (x : B) (l : List B) → insert_by key (f x) (map f l) ≡ map f (insert_by (λ b. key (f b)) x l)
unfolding insert_by
insert-mapped f key x [] = refl
insert-mapped {A} {B} f key x (y ∷ l) = go (leb (key (f x)) (key (f y))) (insert-mapped f key x l)
  where
    go : (b : Bool) → insert_by key (f x) (map f l) ≡ map f (insert_by (λ z. key (f z)) x l)
        → cond b (f x ∷ f y ∷ map f l) (f y ∷ insert_by key (f x) (map f l)) ≡ map f (cond b (x ∷ y ∷ l) (y ∷ insert_by (λ z. key (f z)) x l))
    go true i = refl
    go false i = ap (λ (m : List A). f y ∷ m) i

pub sorted-mapped : {A B : Type 0} (f : B → A) (key : A → ℕ) (l : List B) → sorted_by key (map f l) ≡ map f (sorted_by (λ b. key (f b)) l)
unfolding sorted_by
sorted-mapped f key [] = refl
sorted-mapped f key (x ∷ l) = ap (insert_by key (f x)) (sorted-mapped f key l) ∙ insert-mapped f key x (sorted_by (λ b. key (f b)) l)

module _ {A : Type 0} (key other : A → ℕ) where
  -- ---- two keys that tell what comes first from what comes behind it alike

  insert-alike : (x : A) {l : List A} → Each (λ y. leb (key x) (key y) ≡ leb (other x) (other y)) l → insert_by key x l ≡ insert_by other x l
  unfolding insert_by
  insert-alike x done = refl
  insert-alike x (also {a = y} {l = l} e r) = rw (e, insert-alike x r) refl

  pub sorted-alike : {l : List A} → Onward (λ a b. leb (key a) (key b) ≡ leb (other a) (other b)) l → sorted_by key l ≡ sorted_by other l
  unfolding sorted_by
  sorted-alike over = refl
  sorted-alike (on {a = x} {l = l} e o) = ap (insert_by key x) (sorted-alike o) ∙ insert-alike x (sorted-each other l e)

-- ---- the key, and behind it the place

-- a place below n doesn't change which key comes first, and of equal keys the first place does
pub placed_alike : (n k j p q : ℕ) → p < n → q < n → p ≤ q → leb (k * n + p) (j * n + q) ≡ leb k j
placed_alike n k j p q u v h = go (dec_le k j)
  where
    go : Dec (k ≤ j) → leb (k * n + p) (j * n + q) ≡ leb k j
    go (yes l) = le-leb (k * n + p) (j * n + q) (omega (arith, mul-le-mul_right n l)) ∙ sym (le-leb k j l)
    go (no l) =
        let s : suc j ≤ k = omega arith in
        lt-leb (k * n + p) (j * n + q) (omega (arith, mul-le-mul_right n s)) ∙ sym (lt-leb k j (omega arith))

module _ {A : Type 0} (key place : A → ℕ) (n : ℕ) where
  placed-onward : {l : List A} → Each (λ a. place a < n) l → Onward (λ a b. place a ≤ place b) l
      → Onward (λ a b. leb (key a * n + place a) (key b * n + place b) ≡ leb (key a) (key b)) l
  placed-onward e over = over
  placed-onward (also {a = a} u e) (on r o) =
      on (each_map (λ b h. placed_alike n (key a) (key b) (place a) (place b) u h.0 h.1) (each_both e r)) (placed-onward e o)

  -- where places rise below n, a list is sorted by key and place as by the key
  pub sorted-placed : {l : List A} → Each (λ a. place a < n) l → Onward (λ a b. place a ≤ place b) l → sorted_by (λ a. key a * n + place a) l ≡ sorted_by key l
  sorted-placed e o = sorted-alike (λ a. key a * n + place a) key (placed-onward e o)

  -- and so the sorted numbers are those of the list sorted by the key
  pub sorted-packed : (l : List A) → Each (λ a. place a < n) l → Onward (λ a b. place a ≤ place b) l
      → sorted (map (λ a. key a * n + place a) l) ≡ map (λ a. key a * n + place a) (sorted_by key l)
  sorted-packed l e o = sorted-mapped (λ a. key a * n + place a) (λ m. m) l ∙ ap (map (λ a. key a * n + place a)) (sorted-placed e o)
