-- The limit beside its level, margin and percent; a price against it; an overlap as four comparisons.
use mathlib.Core.Path.{◌≡◌, refl, sym, ◌∙◌}
use mathlib.Core.Bool.{Bool, true, false, cond, ◌&&◌, ◌||◌}
use Prim.Native.Nat.{ℕ, ◌+◌, ◌-◌, ◌*◌, ◌/◌, ◌≤◌, ◌<◌, max, min}
use native.Mathlib.Nat.{le_refl}
use native.Mathlib.Omega.{arith}
use lib.Dec.{leb, ltb, eqb}
use borrow.Author.Tests.{ltb-true, ltb-false, lt-ltb, le-ltb, leb-true, leb-false, le-leb, lt-leb, ne_eqb}
use Rattle.lists.proofs.Tests.{split, or-false-left, or-false-right}
use Rattle.verdicts.specs.Test.{limit, fails, overlap}

-- ---- the limit is at most each of the two, and at least the level

module _ (level percent margin : ℕ) where
  pub limit-le-percent : limit level percent margin ≤ level + level * percent / 100
  unfolding limit
  limit-le-percent = go (eqb margin 4294967295)
    where
      go : (b : Bool) → cond b (level + level * percent / 100) (min (level + level * percent / 100) (level + margin)) ≤ level + level * percent / 100
      go true = le_refl _
      go false = omega arith

  pub limit-le-margin : (margin ≡ 4294967295 → ⊥) → limit level percent margin ≤ level + margin
  unfolding limit
  limit-le-margin h = rw (ne_eqb margin 4294967295 h) (omega arith)

  pub limit-ge-level : level ≤ limit level percent margin
  unfolding limit
  limit-ge-level = go (eqb margin 4294967295)
    where
      go : (b : Bool) → level ≤ cond b (level + level * percent / 100) (min (level + level * percent / 100) (level + margin))
      go true = omega arith
      go false = omega arith

  -- as code takes it: by percent if there is no margin or it is the lesser, or else by margin
  pub limit-percent : eqb margin 4294967295 || ltb (level + level * percent / 100) (level + margin) ≡ true
      → level + level * percent / 100 ≡ limit level percent margin
  unfolding limit
  limit-percent = go (eqb margin 4294967295)
    where
      go : (b : Bool) → b || ltb (level + level * percent / 100) (level + margin) ≡ true
          → level + level * percent / 100 ≡ cond b (level + level * percent / 100) (min (level + level * percent / 100) (level + margin))
      go true e = refl
      go false e = omega (arith, ltb-true)

  pub limit-margin : eqb margin 4294967295 || ltb (level + level * percent / 100) (level + margin) ≡ false → level + margin ≡ limit level percent margin
  unfolding limit
  limit-margin e =
      let low : level + margin ≤ level + level * percent / 100 = ltb-false (level + level * percent / 100) (level + margin)
      (or-false-right (eqb margin 4294967295) (ltb (level + level * percent / 100) (level + margin)) e) in
      rw (or-false-left (eqb margin 4294967295) (ltb (level + level * percent / 100) (level + margin)) e) (omega arith)

-- ---- a price against it

leb-shifted : (a b x : ℕ) → x ≤ b → leb a (b - x) ≡ leb (a + x) b
leb-shifted a b x h =
    split (leb (a + x) b)
    (λ e. le-leb a (b - x) (omega (arith, leb-true)) ∙ sym e)
    (λ e. lt-leb a (b - x) (omega (arith, leb-false)) ∙ sym e)

ltb-shifted : (a b x : ℕ) → x ≤ b → ltb a (b - x) ≡ ltb (a + x) b
ltb-shifted a b x h =
    split (ltb (a + x) b)
    (λ e. lt-ltb a (b - x) (omega (arith, ltb-true)) ∙ sym e)
    (λ e. le-ltb a (b - x) (omega (arith, ltb-false)) ∙ sym e)

module _ (level percent margin floor price : ℕ) where
  pub below-zero : price < 2147483648 → false ≡ fails level percent margin floor price
  unfolding fails
  below-zero h = rw (lt-leb (floor + 2147483648) price (omega arith)) refl

  pub below-level : price - 2147483648 ≤ level → false ≡ fails level percent margin floor price
  unfolding fails
  below-level h = go (leb (floor + 2147483648) price)
    where
      go : (b : Bool) → false ≡ b && ltb (limit level percent margin + 2147483648) price
      go true = sym (le-ltb (limit level percent margin + 2147483648) price (omega (arith, limit-ge-level level percent margin)))
      go false = refl

  pub in-cents : 2147483648 ≤ price → leb floor (price - 2147483648)
      && ltb (limit level percent margin) (price - 2147483648) ≡ fails level percent margin floor price
  unfolding fails
  in-cents h = rw (leb-shifted floor price 2147483648 h, ltb-shifted (limit level percent margin) price 2147483648 h) refl

-- ---- an overlap

pub overlap-tests : (low high from to : ℕ) → ltb low high && ltb low to && ltb from high && ltb from to ≡ overlap low high from to
unfolding overlap
overlap-tests low high from to = go (ltb low high) (ltb low to) (ltb from high) (ltb from to) refl refl refl refl
  where
    go : (p q r s : Bool) → ltb low high ≡ p → ltb low to ≡ q → ltb from high ≡ r → ltb from to ≡ s → p && q && r && s ≡ ltb (max low from) (min high to)
    go true true true true a b c d = sym (lt-ltb (max low from) (min high to) (omega (arith, ltb-true)))
    go false q r s a b c d = sym (le-ltb (max low from) (min high to) (omega (arith, ltb-false)))
    go true false r s a b c d = sym (le-ltb (max low from) (min high to) (omega (arith, ltb-false)))
    go true true false s a b c d = sym (le-ltb (max low from) (min high to) (omega (arith, ltb-false)))
    go true true true false a b c d = sym (le-ltb (max low from) (min high to) (omega (arith, ltb-false)))
