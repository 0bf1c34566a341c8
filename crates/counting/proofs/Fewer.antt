-- The turns of the loops that thin the numbers out.
use mathlib.Core.Path.{◌≡◌, refl, ap, sym, subst, ◌∙◌}
use mathlib.Core.Bool.{Bool, true, false, cond}
use mathlib.Core.List.{List, [], ◌∷◌, ◌++◌, append-nil}
use Prim.Native.Nat.{ℕ, zero, suc, ◌+◌, ◌≤◌, ◌<◌, min, max}
use native.Mathlib.Numerals.{add-one}
use native.Mathlib.Omega.{arith}
use lib.Dec.{leb, eqb}
use lib.ListN.{length, get_or, take, drop, set, length-set}
use lib.Seq.{drop-cons, take-suc, take-suc-set, take-set-le, drop-set-lt}
use mir.Val.{bool_byte}
use borrow.Author.Tests.{leb-true, leb-false}
use Rattle.lists.specs.Lists.{Member, here, there, those}
use Rattle.lists.proofs.Tests.{split}
use Rattle.counting.specs.Sweep.{group_in}

-- ---- one of the numbers, or 0

abbrev pub Some : List ℕ → ℕ → Type 0
Some l x = 0 < x → Member x l

at-member : (l : List ℕ) (i : ℕ) → i < length l → Member (get_or l i 0) l
at-member [] i h = absurd (omega arith)
at-member (x ∷ l) zero h = here
at-member (x ∷ l) (suc i) h = there (at-member l i (omega arith))

pub some-like : (l : List ℕ) (i g : ℕ) → i < length l → {x : ℕ} → x ≡ cond (eqb (group_in (get_or l i 0)) g) (get_or l i 0) 0 → Some l x
some-like l i g h e = rw e (go (eqb (group_in (get_or l i 0)) g))
  where
    go : (b : Bool) → Some l (cond b (get_or l i 0) 0)
    go true z = at-member l i h
    go false z = absurd (omega arith)

module _ (l : List ℕ) (x y : ℕ) (p : Some l x) (q : Some l y) where
  pub some-lower : {z : ℕ} → z ≡ min x y → Some l z
  some-lower {z} e w =
      split (leb x y)
      (λ v. let u : x ≡ z = omega (arith, e, leb-true x y v) in subst (λ (m : ℕ). Member m l) u (p (omega (arith, u, w))))
      (λ v. let u : y ≡ z = omega (arith, e, leb-false x y v) in subst (λ (m : ℕ). Member m l) u (q (omega (arith, u, w))))

  pub some-higher : {z : ℕ} → z ≡ max x y → Some l z
  some-higher {z} e w =
      split (leb x y)
      (λ v. let u : y ≡ z = omega (arith, e, leb-true x y v) in subst (λ (m : ℕ). Member m l) u (q (omega (arith, u, w))))
      (λ v. let u : x ≡ z = omega (arith, e, leb-false x y v) in subst (λ (m : ℕ). Member m l) u (p (omega (arith, u, w))))

-- ---- those that are kept, moved to the front

those-snoc : (k : ℕ → Bool) (a : List ℕ) (x : ℕ) → those k (a ++ (x ∷ [])) ≡ those k a ++ cond (k x) (x ∷ []) []
unfolding those
those-snoc k [] x = refl
those-snoc k (y ∷ a) x = go (k y) (those-snoc k a x)
  where
    go : (b : Bool) → those k (a ++ (x ∷ [])) ≡ those k a ++ cond (k x) (x ∷ []) []
        → cond b (y ∷ those k (a ++ (x ∷ []))) (those k (a ++ (x ∷ []))) ≡ cond b (y ∷ those k a) (those k a) ++ cond (k x) (x ∷ []) []
    go true e = ap (λ (m : List ℕ). y ∷ m) e
    go false e = e

-- the numbers before i are gone through
abbrev pub Thinning : (ℕ → Bool) → List ℕ → List ℕ → ℕ → ℕ → Type 0
Thinning k l ids i count = (count ≤ i) × (i ≤ length l) × (length ids ≡ length l) × (take count ids ≡ those k (take i l)) × (drop i ids ≡ drop i l)

pub thin-first : (k : ℕ → Bool) (l : List ℕ) → Thinning k l l 0 0
thin-first k l = (omega arith, omega arith, refl, unfold those in refl, refl)

module _ (k : ℕ → Bool) (l ids : List ℕ) (i count : ℕ) (h : i < length ids) (w : Thinning k l ids i count) where
  conses : get_or ids i 0 ∷ drop (suc i) ids ≡ get_or l i 0 ∷ drop (suc i) l
  conses = sym (drop-cons ids i 0 h) ∙ w.4 ∙ drop-cons l i 0 (omega (arith, h, w.2))

  pub same_here : get_or ids i 0 ≡ get_or l i 0
  same_here = ap (λ (m : List ℕ). get_or m 0 0) conses

  pub thin-next : {b : Bool} → b ≡ k (get_or ids i 0) → Thinning k l (set ids count (get_or ids i 0)) (i + 1) (count + bool_byte b)
  thin-next {b} e =
      let n = length-set ids count (get_or ids i 0) in (
        more b,
        omega (arith, h, w.2),
        n ∙ w.2,
        rw (add-one i) (front b e),
        rw (add-one i) (drop-set-lt (suc i) ids count (get_or ids i 0) (omega (arith, w.0)) ∙ ap (drop 1) conses),
      )
    where
      x : ℕ
      x = get_or ids i 0

      more : (b : Bool) → count + bool_byte b ≤ i + 1
      more true = omega (arith, w.0)
      more false = omega (arith, w.0)

      ahead : those k (take (suc i) l) ≡ take count ids ++ cond (k (get_or ids i 0)) (get_or ids i 0 ∷ []) []
      ahead =
          ap (those k) (take-suc l i 0 (omega (arith, h, w.2))) ∙ those-snoc k (take i l) (get_or l i 0)
          ∙ rw (← same_here, w.3) refl

      front : (b : Bool) → b ≡ k (get_or ids i 0) → take (count + bool_byte b) (set ids count (get_or ids i 0)) ≡ those k (take (suc i) l)
      front true q =
          rw (add-one count, take-suc-set ids count (get_or ids i 0) (omega (arith, h, w.0))) (sym (ahead ∙ rw (sym q) refl))
      front false q =
          let z : count + 0 ≡ count = omega arith in
          rw (z, take-set-le count ids count (get_or ids i 0) (omega arith)) (sym (ahead ∙ rw (sym q) (append-nil (take count ids))))
