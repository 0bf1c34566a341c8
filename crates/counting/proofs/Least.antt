-- Counting at some hour, told from behind: where issues of a kind and key rise, a record counts if its first hour is before every later one's.
use mathlib.Core.Path.{◌≡◌, refl, sym, ◌∙◌}
use mathlib.Core.Bool.{Bool, true, false, cond, true≢false}
use mathlib.Core.List.{List, [], ◌∷◌, ◌++◌}
use Prim.Native.Nat.{ℕ, ◌<◌, min}
use native.Mathlib.Omega.{arith}
use lib.Dec.{ltb}
use borrow.Author.Tests.{ltb-true, ltb-false}
use Rattle.lists.specs.Lists.{Each, done, also, Member, here, there}
use Rattle.lists.proofs.Lists.{each_map}
use Rattle.lists.proofs.Tests.{split}
use Rattle.records.specs.Record.{kind, since, issue, key_of}
use Rattle.station.specs.Current.{matches}
use Rattle.station.specs.InForce.{counts}
use Rattle.station.specs.Declared.{Counting}
use Rattle.station.proofs.InForce.{declared-counts, counts-declared}
use Rattle.counting.specs.Sweep.{never}

-- the least first hour of a kind and key, past the last hour where there is none
unfoldable pub least_since : ℕ → ℕ → List (List ℕ) → ℕ
least_since k n [] = never
least_since k n (s ∷ l) = let m = least_since k n l in cond (matches k n s) (min (since s) m) m

module _ (k n : ℕ) where
  pub least-none : {l : List (List ℕ)} → Each (λ s. matches k n s ≡ false) l → least_since k n l ≡ never
  unfolding least_since
  least-none done = refl
  least-none (also {a = s} h e) = rw h (least-none e)

  pub least_more : (s : List ℕ) (l : List (List ℕ)) → matches k n s ≡ true → least_since k n (s ∷ l) ≡ min (since s) (least_since k n l)
  unfolding least_since
  least_more s l h = rw h refl

module _ (k n x : ℕ) where
  least-below : (l : List (List ℕ)) → x < least_since k n l → Each (λ s. matches k n s ≡ true → x < since s) l
  unfolding least_since
  least-below [] h = done
  least-below (s ∷ l) h = go (matches k n s) refl h (least-below l)
    where
      go : (b : Bool) → matches k n s ≡ b → x < cond b (min (since s) (least_since k n l)) (least_since k n l)
          → (x < least_since k n l → Each (λ r. matches k n r ≡ true → x < since r) l) → Each (λ r. matches k n r ≡ true → x < since r) (s ∷ l)
      go true e p f = also {a = s} (λ m. omega arith) (f (omega arith))
      go false e p f = also {a = s} (λ m. absurd (true≢false (sym m ∙ e))) (f p)

  below-least : x < never → {l : List (List ℕ)} → Each (λ s. matches k n s ≡ true → x < since s) l → x < least_since k n l
  unfolding least_since
  below-least z done = z
  below-least z (also {a = s} {l = l} h e) = go (matches k n s) h (below-least z e)
    where
      go : (b : Bool) → (b ≡ true → x < since s) → x < least_since k n l → x < cond b (min (since s) (least_since k n l)) (least_since k n l)
      go true f p = let q : x < since s = f refl in omega arith
      go false f p = p

pub each_append : {A : Type 0} {P : A → Type 0} {a b : List A} → Each P a → Each P b → Each P (a ++ b)
each_append done e = e
each_append (also h d) e = also h (each_append d e)

each-behind : {P : List ℕ → Type 0} (a : List (List ℕ)) {b : List (List ℕ)} → Each P (a ++ b) → Each P b
each-behind [] e = e
each-behind (r ∷ a) (also h d) = each-behind a d

in-middle : (r : List ℕ) (a b : List (List ℕ)) → Member r (a ++ (r ∷ b))
in-middle r [] b = here
in-middle r (s ∷ a) b = there (in-middle r a b)

pub counts-least : (r : List ℕ) (a b : List (List ℕ)) → since r < never → Each (λ s. matches (kind r) (key_of r) s ≡ true → issue s < issue r) a
    → Each (λ s. matches (kind r) (key_of r) s ≡ true → issue r < issue s) b
    → counts (a ++ (r ∷ b)) r ≡ ltb (since r) (least_since (kind r) (key_of r) b)
counts-least r a b z low high =
    split (ltb (since r) (least_since (kind r) (key_of r) b))
    (λ e. declared-counts l r (in-middle r a b) (all (least-below (kind r) (key_of r) (since r) b (ltb-true _ _ e))) ∙ sym e)
    (λ e. split (counts l r)
    (λ w. absurd (omega (
      arith,
      ltb-false (since r) (least_since (kind r) (key_of r) b) e,
      below-least (kind r) (key_of r) (since r) z (later high (tail (each-behind a (counts-declared l r (in-middle r a b) w)))),
    )))
    (λ w. w ∙ sym e))
  where
    l : List (List ℕ)
    l = a ++ (r ∷ b)

    all : Each (λ s. matches (kind r) (key_of r) s ≡ true → since r < since s) b → Counting l r
    all e =
        each_append (each_map (λ s f m i. absurd (omega (arith, f m))) low) (also {a = r} (λ m i. absurd (omega arith)) (each_map (λ s f m i. f m) e))

    tail : {P : List ℕ → Type 0} → Each P (r ∷ b) → Each P b
    tail (also h e) = e

    later : {c : List (List ℕ)} → Each (λ s. matches (kind r) (key_of r) s ≡ true → issue r < issue s) c
        → Each (λ s. matches (kind r) (key_of r) s ≡ true → issue r < issue s → since r < since s) c
        → Each (λ s. matches (kind r) (key_of r) s ≡ true → since r < since s) c
    later done done = done
    later (also f d) (also g e) = also (λ m. g m (f m)) (later d e)
