-- The sum of the n highest and the n-th, by a threshold.
use mathlib.Core.Path.{◌≡◌, refl, ap, ap₂, ◌∙◌}
use mathlib.Core.Bool.{Bool, true, false, cond}
use mathlib.Core.List.{List, [], ◌∷◌}
use Prim.Native.Nat.{ℕ, zero, suc, ◌+◌, ◌*◌, ◌-◌, ◌≤◌, ◌<◌, max, min}
use native.Mathlib.Decide.{dec_le}
use native.Mathlib.Nat.{le_refl}
use native.Mathlib.Omega.{arith}
use lib.Dec.{leb, ltb}
use mir.Syntax.{w32}
use mir.Val.{bool_byte, Fits}
use Rattle.std.specs.Prelude.{fold, sum_by}
use Rattle.std.proofs.lemmas.List.Sums.{sum_by-cons}
use lib.ListN.{length, get_or}
use borrow.Author.Tests.{ltb-false}
use Rattle.lists.specs.Lists.{Each, done, also}
use Rattle.formulas.specs.Sums.{sum_of, falling, sum_first, sum_highest, from_top, above, at_least}
use Rattle.formulas.proofs.Sums.{Falls, falling-sum, top, sorted, above-head, above-not, least-head, least-not, one-cond, one-if, falls-above, falls-least}
use Rattle.formulas.proofs.Sums.{from_top-few, from_top-enough}
use Rattle.arithmetic.specs.Highest.{excess, Threshold, PriceIn}

-- ---- what a chain adds up is `sum_of`

pub sum_by-sum_of : (f : ℕ → ℕ) (l : List ℕ) → sum_by f l ≡ sum_of f l
unfolding sum_of
sum_by-sum_of f [] = refl
sum_by-sum_of f (x ∷ l) = sum_by-cons f x l ∙ ap (λ (n : ℕ). f x + n) (sum_by-sum_of f l)

-- with tests as numbers it is a count
pub sum-tests : (v : ℕ) (l : List ℕ) → sum_by (λ x. bool_byte (ltb v x)) l ≡ above v l
unfolding sum_of
sum-tests v l = sum_by-sum_of (λ x. bool_byte (ltb v x)) l ∙ go l
  where
    go : (l : List ℕ) → sum_of (λ x. bool_byte (ltb v x)) l ≡ above v l
    go [] = refl
    go (x ∷ l) = ap₂ (λ (a b : ℕ). a + b) (one-if (ltb v x)) (go l)

-- and no more than the length times the highest of them
pub excess-high : (v : ℕ) (l : List ℕ) → ((i : ℕ) → Fits w32 (get_or l i 0)) → excess v l ≤ length l * 4294967295
unfolding sum_of
excess-high v [] h = le_refl 0
excess-high v (x ∷ l) h = omega (arith, h 0, excess-high v l (λ i. h (suc i)))

-- ---- the search for a threshold

above-least : (v : ℕ) (l : List ℕ) → above v l ≤ at_least v l
unfolding sum_of
above-least v [] = le_refl 0
above-least v (x ∷ l) = go (dec_le v x) (above-least v l)
  where
    go : Dec (v ≤ x) → above v l ≤ at_least v l → cond (ltb v x) 1 0 + above v l ≤ cond (leb v x) 1 0 + at_least v l
    go (yes h) e = omega (arith, least-head v x h, one-cond (ltb v x), e)
    go (no h) e = omega (arith, above-not v x (omega arith), e)

-- a middle that has neither too many above it nor too few
pub threshold-middle : (n most v : ℕ) (s : List ℕ) → n ≤ above v s → above v s ≤ most → Threshold n most v s
threshold-middle n most v s p q = record { few = q; enough = omega (arith, p, above-least v s) }

-- ---- the lowest and the highest of a list

lowest-le : (a : ℕ) (l : List ℕ) → fold min a l ≤ a
lowest-le a [] = le_refl a
lowest-le a (x ∷ l) = omega (arith, lowest-le (min a x) l)

pub topmost-le : (a : ℕ) (l : List ℕ) → a ≤ fold max a l
topmost-le a [] = le_refl a
topmost-le a (x ∷ l) = omega (arith, topmost-le (max a x) l)

-- all are the lowest or more, and none is above the highest
pub all-least : (v a : ℕ) (l : List ℕ) → v ≤ fold min a l → at_least v l ≡ length l
unfolding sum_of
all-least v a [] h = refl
all-least v a (x ∷ l) h = omega (arith, least-head v x (omega (arith, lowest-le (min a x) l)), all-least v (min a x) l h)

pub none_above : (v a : ℕ) (l : List ℕ) → fold max a l ≤ v → above v l ≡ 0
unfolding sum_of
none_above v a [] h = refl
none_above v a (x ∷ l) h = omega (arith, above-not v x (omega (arith, topmost-le (max a x) l)), none_above v (max a x) l h)

-- and both are prices
pub lowest-in : (a : ℕ) {l : List ℕ} → Each PriceIn l → PriceIn a → PriceIn (fold min a l)
lowest-in a done p = p
lowest-in a (also {a = x} h e) p = lowest-in (min a x) e (record { low = omega (arith, h.low, p.low); high = omega (arith, p.high) })

pub topmost-in : (a : ℕ) {l : List ℕ} → Each PriceIn l → PriceIn a → PriceIn (fold max a l)
topmost-in a done p = p
topmost-in a (also {a = x} h e) p = topmost-in (max a x) e (record { low = omega (arith, p.low); high = omega (arith, h.high, p.high) })

-- where all may be above, the lowest is a threshold
pub threshold-lowest : (n most v a : ℕ) (l : List ℕ) → n ≤ length l → length l ≤ most → v ≤ fold min a l → Threshold n most v l
threshold-lowest n most v a l p q h =
    let e = all-least v a l h in
    record { few = omega (arith, above-least v l); enough = omega arith }

-- ---- the sum of the n highest

no-excess : (v : ℕ) (l : List ℕ) → above v l ≤ 0 → excess v l ≡ 0
unfolding sum_of
no-excess v [] h = refl
no-excess v (x ∷ l) h = go (ltb v x) refl h (no-excess v l)
  where
    go : (b : Bool) → ltb v x ≡ b → cond b 1 0 + above v l ≤ 0 → (above v l ≤ 0 → excess v l ≡ 0) → (x - v) + excess v l ≡ 0
    go true e g r = absurd (omega arith)
    go false e g r = omega (arith, ltb-false v x e, r (omega arith))

-- the first n of a list that falls
first-sum : (n v b : ℕ) (l : List ℕ) → Falls b l → above v l ≤ n → n ≤ at_least v l → sum_first n l ≡ excess v l + n * v
unfolding sum_first sum_of
first-sum zero v b l f p q = omega (arith, no-excess v l p)
first-sum (suc n) v b [] f p q = absurd (omega arith)
first-sum (suc n) v b (x ∷ l) f p q = go (dec_le v x) (dec_le x v) (first-sum n v x l f.1)
  where
    go : Dec (v ≤ x) → Dec (x ≤ v) → (above v l ≤ n → n ≤ at_least v l → sum_first n l ≡ excess v l + n * v)
        → x + sum_first n l ≡ (x - v) + excess v l + suc n * v
    go (yes h) (yes g) r = omega (arith, r (omega (arith, falls-above x v l f.1 g)) (omega (arith, least-head v x h)))
    go (yes h) (no g) r = omega (arith, r (omega (arith, above-head v x (omega arith))) (omega (arith, least-head v x h)))
    go (no h) g r = absurd (omega (arith, least-not v x (omega arith), falls-least x v l f.1 (omega arith)))

-- the n highest together: what those above a threshold have above it, and the threshold n times
pub highest-sum : (n v : ℕ) (l : List ℕ) → Threshold n n v l → sum_highest n l ≡ excess v l + n * v
unfolding sum_highest
highest-sum n v l h =
    first-sum n v (top l) (falling l) (sorted l) (omega (arith, falling-sum (λ x. cond (ltb v x) 1 0) l, h.few)) (rw falling-sum h.enough)
    ∙ rw falling-sum refl

-- ---- the number at a place from the top

-- what is above another, or equal to it, is above all below that
least_above : (v w : ℕ) (l : List ℕ) → v < w → at_least w l ≤ above v l
unfolding sum_of
least_above v w [] h = le_refl 0
least_above v w (x ∷ l) h = go (dec_le w x) (least_above v w l h)
  where
    go : Dec (w ≤ x) → at_least w l ≤ above v l → cond (leb w x) 1 0 + at_least w l ≤ cond (ltb v x) 1 0 + above v l
    go (yes g) e = omega (arith, least-head w x g, above-head v x (omega arith), e)
    go (no g) e = omega (arith, least-not w x (omega arith), e)

least-length : (v : ℕ) (l : List ℕ) → at_least v l ≤ length l
unfolding sum_of
least-length v [] = le_refl 0
least-length v (x ∷ l) = omega (arith, one-cond (leb v x), least-length v l)

-- the threshold with fewer than n above it is the n-th
pub threshold-place : (n v : ℕ) (l : List ℕ) → 1 ≤ n → Threshold n (n - 1) v l → from_top n l ≡ v
threshold-place n v l h t = go (dec_le (from_top n l) v) (dec_le v (from_top n l))
  where
    go : Dec (from_top n l ≤ v) → Dec (v ≤ from_top n l) → from_top n l ≡ v
    go (yes p) (yes q) = omega arith
    go (yes p) (no q) = absurd (omega (arith, least_above (from_top n l) v l (omega arith), from_top-few n l h, t.enough))
    go (no p) q =
        absurd (omega (arith, least_above v (from_top n l) l (omega arith), from_top-enough n l h (omega (arith, t.enough, least-length v l)), t.few))
