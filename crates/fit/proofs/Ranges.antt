-- What `all` answers over a range of numbers: whether its test holds of each, in the words of specs/.
use mathlib.Core.Path.{◌≡◌, refl, sym, ap, ap₂, ◌∙◌}
use mathlib.Core.Bool.{Bool, true, false, ◌&&◌}
use Prim.Native.Nat.{ℕ, zero, suc, ◌+◌}
use native.Mathlib.Omega.{arith}
use denote.Param.Members.{Mut}
use Rattle.std.specs.List.{range_with_len, list_all}
use Rattle.std.specs.Fn.{Called}
use Rattle.std.specs.Iterator.{ChecksAll}
use Rattle.std.specs.declared.ops.Range.{Range}
use Rattle.std.proofs.iter.Yields.{nat_range_steps}
use Rattle.std.proofs.lemmas.Iterator.{YieldsList-from_range}
use Rattle.std.proofs.lemmas.Iterator.Search.{all_from_yields_List}
use Rattle.lists.specs.Tests.{all_below, all_to}
use Rattle.lists.proofs.Tests.{below-same}

and-assoc : (a b c : Bool) → (a && b) && c ≡ a && (b && c)
and-assoc true b c = refl
and-assoc false b c = refl

-- the first of some tests taken by itself
below-first : (n : ℕ) (f : ℕ → Bool) → all_below (suc n) f ≡ f 0 && all_below n (λ i. f (suc i))
unfolding all_below
below-first zero f = go (f 0)
  where
    go : (b : Bool) → true && b ≡ b && true
    go true = refl
    go false = refl
below-first (suc n) f = ap (λ (b : Bool). b && f (suc n)) (below-first n f) ∙ and-assoc (f 0) (all_below n (λ i. f (suc i))) (f (suc n))

range-from : (a n : ℕ) (f : ℕ → Bool) → list_all f (range_with_len a n) ≡ all_below n (λ i. f (a + i))
range-from a zero f = unfold all_below in refl
range-from a (suc n) f =
    ap (λ (b : Bool). f a && b) (range-from (a + 1) n f ∙ below-same n (λ i. f (a + 1 + i)) (λ i. f (a + suc i)) (λ i. ap f (omega arith)))
    ∙ ap (λ (k : ℕ). f k && all_below n (λ i. f (a + suc i))) (omega arith) ∙ sym (below-first n (λ i. f (a + i)))

-- of the numbers below n
range-below : (n : ℕ) (f : ℕ → Bool) → list_all f (range_with_len 0 n) ≡ all_below n f
range-below n f = range-from 0 n f ∙ below-same n (λ i. f (0 + i)) f (λ i. ap f (omega arith))

to-below : (n : ℕ) (f : ℕ → Bool) → all_below n (λ i. f (1 + i)) ≡ all_to n f
unfolding all_below all_to
to-below zero f = refl
to-below (suc n) f = ap₂ (λ (a b : Bool). a && b) (to-below n f) (ap f (omega arith))

-- of those from 1 to n
range-to : (n : ℕ) (f : ℕ → Bool) → list_all f (range_with_len 1 n) ≡ all_to n f
range-to n f = range-from 1 n f ∙ to-below n f

-- ---- what `all` answers

module _ {F : Type 0} {g : Mut F (ℕ × Unit {0}) Bool} {f : F} {r : Bool} (test : ℕ → Bool) (n : ℕ) where
  -- over `0..n`
  pub all-below : {s u : Range ℕ} → s ≡ record { start = 0; end = n } → ChecksAll nat_range_steps g s f r u
      → ((x : ℕ) (b : Bool) (q : F) → Called g f (x, tt) b q → (q ≡ f) × (b ≡ test x)) → r ≡ all_below n test
  all-below e c k = all_from_yields_List test _ f r c (YieldsList-from_range 0 n n e (omega arith)) k ∙ range-below n test

  -- and over the numbers from 1 to n
  pub all-to : {s u : Range ℕ} → s ≡ record { start = 1; end = n + 1 } → ChecksAll nat_range_steps g s f r u
      → ((x : ℕ) (b : Bool) (q : F) → Called g f (x, tt) b q → (q ≡ f) × (b ≡ test x)) → r ≡ all_to n test
  all-to e c k = all_from_yields_List test _ f r c (YieldsList-from_range 1 (n + 1) n e (omega arith)) k ∙ range-to n test
