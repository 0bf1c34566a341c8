-- Laws of lists in another order, of lists back to back, and of those elements that a test holds of.
use mathlib.Core.Path.{◌≡◌, refl, ap, sym, ◌∙◌}
use mathlib.Core.Bool.{Bool, true, false, cond, true≢false}
use mathlib.Core.List.{List, [], ◌∷◌, ◌++◌}
use Prim.Native.Nat.{ℕ, suc}
use native.Mathlib.Omega.{arith}
use lib.ListN.{length, length-append}
use Rattle.lists.specs.Lists.{Each, done, also, Pairwise, none, more, Member, here, there, Permutation, empty, keep, swap, then, joined, those}

pub each_map : {A : Type 0} {P Q : A → Type 0} → ((a : A) → P a → Q a) → {l : List A} → Each P l → Each Q l
each_map f done = done
each_map f (also {a = a} x e) = also (f a x) (each_map f e)

pub each_both : {A : Type 0} {P Q : A → Type 0} {l : List A} → Each P l → Each Q l → Each (λ a. P a × Q a) l
each_both done done = done
each_both (also p a) (also q b) = also (p, q) (each_both a b)

pub each_of : {A : Type 0} {P : A → Type 0} (l : List A) → ((a : A) → P a) → Each P l
each_of [] f = done
each_of (a ∷ l) f = also (f a) (each_of l f)

-- what holds of each holds of a member
pub member-each : {A : Type 0} {P : A → Type 0} {a : A} {l : List A} → Member a l → Each P l → P a
member-each here (also x e) = x
member-each (there m) (also x e) = member-each m e

-- what holds of each holds in any order
pub each-permuted : {A : Type 0} {P : A → Type 0} {l m : List A} → Permutation l m → Each P l → Each P m
each-permuted empty e = e
each-permuted (keep a p) (also x e) = also x (each-permuted p e)
each-permuted (swap a b l) (also x (also y e)) = also y (also x e)
each-permuted (then p q) e = each-permuted q (each-permuted p e)

-- a list is itself in an order
pub same-order : {A : Type 0} (l : List A) → Permutation l l
same-order [] = empty
same-order (a ∷ l) = keep a (same-order l)

-- in any order as many, and the same members
pub permuted-length : {A : Type 0} {l m : List A} → Permutation l m → length l ≡ length m
permuted-length empty = refl
permuted-length (keep a p) = ap suc (permuted-length p)
permuted-length (swap a b l) = refl
permuted-length (then p q) = permuted-length p ∙ permuted-length q

pub member-permuted : {A : Type 0} {a : A} {l m : List A} → Permutation l m → Member a l → Member a m
member-permuted empty k = k
member-permuted (keep a p) here = here
member-permuted (keep a p) (there k) = there (member-permuted p k)
member-permuted (swap a b l) here = there here
member-permuted (swap a b l) (there here) = here
member-permuted (swap a b l) (there (there k)) = there (there k)
member-permuted (then p q) k = member-permuted q (member-permuted p k)

pub reversed : {A : Type 0} {l m : List A} → Permutation l m → Permutation m l
reversed empty = empty
reversed (keep a p) = keep a (reversed p)
reversed (swap a b l) = swap b a l
reversed (then p q) = then (reversed q) (reversed p)

-- back to back they are as long in any order
pub joined_length : {l m : List (List ℕ)} → Permutation l m → length (joined l) ≡ length (joined m)
unfolding joined
joined_length empty = refl
joined_length (keep r {l} {m} p) = rw (length-append r (joined l), length-append r (joined m), joined_length p) refl
joined_length (swap r s l) =
    rw (length-append r (s ++ joined l), length-append s (joined l), length-append s (r ++ joined l), length-append r (joined l)) (omega arith)
joined_length (then p q) = joined_length p ∙ joined_length q

-- ---- those that a test holds of

module _ {A : Type 0} (f : A → Bool) where
  -- what holds of each holds of each of those
  pub those-each : {P : A → Type 0} {l : List A} → Each P l → Each P (those f l)
  unfolding those
  those-each done = done
  those-each {P} (also {a = a} {l = l} x e) = go (f a) (those-each e)
    where
      go : (b : Bool) → Each P (those f l) → Each P (cond b (a ∷ those f l) (those f l))
      go true h = also x h
      go false h = h

  -- the test holds of each of those
  pub those-test : (l : List A) → Each (λ a. f a ≡ true) (those f l)
  unfolding those
  those-test [] = done
  those-test (a ∷ l) = go (f a) refl (those-test l)
    where
      go : (b : Bool) → f a ≡ b → Each (λ x. f x ≡ true) (those f l) → Each (λ x. f x ≡ true) (cond b (a ∷ those f l) (those f l))
      go true e h = also e h
      go false e h = h

  -- and what holds of each of those holds of each that the test holds of
  pub each-those : {P : A → Type 0} (l : List A) → Each P (those f l) → Each (λ a. f a ≡ true → P a) l
  unfolding those
  each-those [] e = done
  each-those {P} (a ∷ l) e = go (f a) refl e (each-those l)
    where
      go : (b : Bool) → f a ≡ b → Each P (cond b (a ∷ those f l) (those f l)) → (Each P (those f l) → Each (λ x. f x ≡ true → P x) l)
          → Each (λ x. f x ≡ true → P x) (a ∷ l)
      go true w (also x h) g = also (λ u. x) (g h)
      go false w h g = also (λ u. absurd (true≢false (sym u ∙ w))) (g h)

  -- another order of all is another order of those
  pub those-permuted : {l m : List A} → Permutation l m → Permutation (those f l) (those f m)
  unfolding those
  those-permuted empty = empty
  those-permuted (keep a {l} {m} p) = go (f a) (those-permuted p)
    where
      go : (b : Bool) → Permutation (those f l) (those f m) → Permutation (cond b (a ∷ those f l) (those f l)) (cond b (a ∷ those f m) (those f m))
      go true q = keep a q
      go false q = q
  those-permuted (swap a b l) = go (f a) (f b)
    where
      go : (x y : Bool) → Permutation (cond x (a ∷ cond y (b ∷ those f l) (those f l)) (cond y (b ∷ those f l) (those f l))) (cond y (b ∷ cond x (a ∷ those
          f l) (those f l)) (cond x (a ∷ those f l) (those f l)))
      go true true = swap a b (those f l)
      go true false = same-order (a ∷ those f l)
      go false true = same-order (b ∷ those f l)
      go false false = same-order (those f l)
  those-permuted (then p q) = then (those-permuted p) (those-permuted q)

  -- where the test doesn't tell two related elements apart, two lists side by side stay so
  pub those-pairwise : {R : A → A → Type 0} → ((a b : A) → R a b → f a ≡ f b) → {l m : List A} → Pairwise R l m → Pairwise R (those f l) (those f m)
  unfolding those
  those-pairwise same none = none
  those-pairwise {R} same (more {a = a} {b = b} {l = l} {m = m} r p) = go (f a) (f b) (same a b r) (those-pairwise same p)
    where
      go : (x y : Bool) → x ≡ y → Pairwise R (those f l) (those f m) → Pairwise R (cond x (a ∷ those f l) (those f l)) (cond y (b ∷ those f m) (those f m))
      go x y e q = rw (← e) (one x q)
        where
          one : (z : Bool) → Pairwise R (those f l) (those f m) → Pairwise R (cond z (a ∷ those f l) (those f l)) (cond z (b ∷ those f m) (those f m))
          one true h = more r h
          one false h = h

  -- where it holds of each, those are all
  pub those-all : {l : List A} → Each (λ a. f a ≡ true) l → those f l ≡ l
  unfolding those
  those-all done = refl
  those-all (also {a = a} h e) = rw (h, those-all e) refl

-- and each of those is one of all
pub members : {A : Type 0} (l : List A) → Each (λ a. Member a l) l
members [] = done
members (a ∷ l) = also here (each_map (λ r m. there m) (members l))

pub member-those : {A : Type 0} (f : A → Bool) {a : A} (l : List A) → Member a (those f l) → Member a l
member-those f l m = member-each m (those-each f (members l))
