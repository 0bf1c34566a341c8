-- What passed passes still when no level is lower.
use mathlib.Core.Path.{◌≡◌, refl, ap}
use mathlib.Core.Bool.{Bool, true, false, cond, ◌&&◌}
use mathlib.Core.List.{List}
use Prim.Native.Nat.{ℕ, zero, suc, ◌+◌, ◌*◌, ◌/◌, ◌≤◌, min}
use native.Mathlib.Nat.{le_refl, add-le-add, mul-le-mul_right}
use native.Mathlib.Omega.{arith}
use lib.Dec.{leb, ltb, eqb}
use lib.ListN.{length}
use borrow.Author.Tests.{ltb-false, le-ltb}
use Rattle.lists.specs.Lists.{Pairwise, none, more}
use Rattle.std.specs.Prelude.{Ok, Err}
use Rattle.records.specs.Answers.{Answer}
use Rattle.std.specs.Prelude.{Ok, Err}
use Rattle.records.specs.Answers.{Accepted, Refused as Turned}
use Rattle.station.specs.Parameters.{Parameters, percent, margin, floor}
use Rattle.formulas.specs.Levels.{Line, amount, NoLower}
use Rattle.formulas.proofs.Sums.{min-mono}
use Rattle.verdicts.specs.declared.Verdict.{Verdict}
use Rattle.verdicts.specs.declared.Verdict.TheVariants.{Passes, Fails, Refused}
use Rattle.verdicts.specs.Test.{limit, fails, fails_under, failing, quantity, price_at, before, overlap, offer_from, price_test}
use Rattle.verdicts.specs.Refusals.{offer_refusal, price_refusal}
use Rattle.verdicts.specs.Verdict.{settle, offer_verdict, price_verdict}

limit-mono : {x y : ℕ} (percent margin : ℕ) → x ≤ y → limit x percent margin ≤ limit y percent margin
unfolding limit
limit-mono {x} {y} percent margin h = go (eqb margin 4294967295)
  where
    one : x + x * percent / 100 ≤ y + y * percent / 100
    one = omega (arith, mul-le-mul_right percent h)

    go : (b : Bool) → cond b (x + x * percent / 100) (min (x + x * percent / 100) (x + margin)) ≤ cond b (y + y * percent / 100)
        (min (y + y * percent / 100) (y + margin))
    go true = one
    go false = min-mono one (add-le-add h (le_refl margin))

pub pass-stays : {x y : ℕ} (percent margin floor price : ℕ) → x ≤ y → fails x percent margin floor price ≡ false → fails y percent margin floor price ≡ false
unfolding fails
pass-stays {x} {y} percent margin floor price h = go (leb (floor + 2147483648) price)
  where
    go : (b : Bool) → b && ltb (limit x percent margin + 2147483648) price ≡ false → b && ltb (limit y percent margin + 2147483648) price ≡ false
    go true e =
        le-ltb (limit y percent margin + 2147483648) price
        (omega (arith, ltb-false (limit x percent margin + 2147483648) price e, limit-mono percent margin h))
    go false e = refl

not-fails : {A : Type 0} (i j : ℕ) → Fails i j ≡ Passes → A
not-fails i j e = absurd (let z : ◌≡◌ {A = ℕ} 1 0 = ap (λ x. elim x [ Passes ↦ 0 | Fails a b ↦ 1 | Refused a b ↦ 2 ]) e in omega arith)

module _ (v : ℕ) (meets : ℕ → ℕ → Bool) (test : ℕ → Bool) (keeps : (x y : ℕ) → x ≤ y → test x ≡ false → test y ≡ false) (k : ℕ) where
  failing-stays : {l m : List Line} → Pairwise NoLower l m → (r q : Verdict) → (r ≡ Passes → q ≡ Passes) → failing v meets test k l r ≡ Passes
      → failing v meets test k m q ≡ Passes
  unfolding failing
  failing-stays none r q f = f
  failing-stays (more {a = x} {b = y} {l = l} {m = m} u a) r q f =
      rw (← u.level, ← u.from, ← u.to)
      (go (eqb x.level v && meets x.from x.to) (test (amount x)) (test (amount y)) (keeps _ _ u.amount) (failing-stays a r q f))
    where
      go : (b c c' : Bool) → (c ≡ false → c' ≡ false) → (failing v meets test k l r ≡ Passes → failing v meets test k m q ≡ Passes)
          → cond (b && c) (Fails k x.lamination) (failing v meets test k l r) ≡ Passes
          → cond (b && c') (Fails k y.lamination) (failing v meets test k m q) ≡ Passes
      go true true c' h g e = not-fails _ _ e
      go true false c' h g e = rw (h refl) (g e)
      go false c c' h g e = g e

under-keeps : (s : Parameters) (c v price x y : ℕ) → x ≤ y → fails_under s c v price x ≡ false → fails_under s c v price y ≡ false
unfolding fails_under
under-keeps s c v price x y h e = pass-stays (percent s c v) (margin s c v) (floor s c v) price h e

pub settle-stays : (z : Answer) {v w : Verdict} → (v ≡ Passes → w ≡ Passes) → settle z v ≡ Passes → settle z w ≡ Passes
unfolding settle
settle-stays (Ok x) f e = f e
settle-stays (Err r) f e = e

module _ (s : Parameters) (c : ℕ) {l m : List Line} (a : Pairwise NoLower l m) where
  from-stays : (o : List ℕ) (k n : ℕ) → offer_from s c l o k n ≡ Passes → offer_from s c m o k n ≡ Passes
  unfolding offer_from
  from-stays o k zero e = refl
  from-stays o k (suc n) e =
      failing-stays 1 (overlap (before o k) (quantity o k)) (fails_under s c 1 (price_at o k)) (under-keeps s c 1 (price_at o k)) (k + 1) a _ _
      (from-stays o (k + 1) n) e

  test-stays : (v price : ℕ) → price_test s c v price l ≡ Passes → price_test s c v price m ≡ Passes
  unfolding price_test
  test-stays v price e = failing-stays v (λ x y. true) (fails_under s c v price) (under-keeps s c v price) 0 a Passes Passes (λ w. w) e

  pub offer-stays : (o : List ℕ) → offer_verdict s c l o ≡ Passes → offer_verdict s c m o ≡ Passes
  unfolding offer_verdict
  offer-stays o e = settle-stays (offer_refusal s c o) (from-stays o 0 (length o / 6)) e

  pub price-stays : (v price : ℕ) → price_verdict s v c l price ≡ Passes → price_verdict s v c m price ≡ Passes
  unfolding price_verdict
  price-stays v price e = settle-stays (price_refusal s v c) (test-stays v price) e
