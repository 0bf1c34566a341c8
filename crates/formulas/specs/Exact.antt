-- A formula is written once, as a `Sum`, and read twice: with each division to the nearest micro-dollar (the level), and exactly
-- (the exact level). Both take the same formulas, because there is one set of formulas.
use Rattle.std.specs.Prelude.{cond, ℕ, zero, suc, ◌+◌, ◌*◌, ◌/◌, ◌≤◌, ◌<◌, max, leb, eqb}
use Rattle.lists.specs.Sums.{sum_to}

infixl 60 ◌⊕◌
-- a sum of micro-dollars, as the paper's formulas build it
pub data Sum : Type 0 where
  whole : ℕ → Sum  -- an amount as it stands
  share : ℕ → ℕ → Sum  -- one whole number over another; 0 where the divisor is 0, as of a record that is not there
  ◌⊕◌ : Sum → Sum → Sum  -- plus
  total : ℕ → (ℕ → Sum) → Sum  -- of items 1 to n
  per_thousand : Sum → ℕ → Sum  -- "× 1,000 / efficiency"
  greater : Sum → Sum → Sum  -- "The greater is taken."

-- ---- the level: "Each division now goes to nearest, half up", in micro-dollars

-- n over d to the nearest: n / d and a half more, whose fraction is dropped; 0 where d is 0
unfoldable pub quotient : ℕ → ℕ → ℕ
quotient n d = (2 * n + d) / (2 * d)

-- a sum in whole micro-dollars
unfoldable pub micro_dollars : Sum → ℕ
micro_dollars (whole n) = n
micro_dollars (share n d) = quotient n d
micro_dollars (a ⊕ b) = micro_dollars a + micro_dollars b
micro_dollars (total n f) = sum_to n (λ k. micro_dollars (f k))
micro_dollars (per_thousand a e) = quotient (micro_dollars a * 1000) e
micro_dollars (greater a b) = max (micro_dollars a) (micro_dollars b)

-- "Each finished sum rounds to cents, half up."
unfoldable pub cents : ℕ → ℕ
cents s = quotient s 10000

-- ---- the exact level: "It is one whole number over another, and distances to it are compared by multiplying across."

-- one whole number over another
pub record Fraction : Type 0 where
  pub num : ℕ
  pub den : ℕ

-- n over d
abbrev pub ratio : ℕ → ℕ → Fraction
ratio n d = record { num = n; den = d }

-- two fractions added, over the product of their divisors
unfoldable pub plus : Fraction → Fraction → Fraction
plus a b = ratio (a.num * b.den + b.num * a.den) (a.den * b.den)

-- f 1 + … + f n
unfoldable pub sum_over : ℕ → (ℕ → Fraction) → Fraction
sum_over zero f = ratio 0 1
sum_over (suc n) f = plus (sum_over n f) (f (suc n))

-- the greater of two, the second where they are equal
unfoldable pub greater_of : Fraction → Fraction → Fraction
greater_of a b = cond (leb (a.num * b.den) (b.num * a.den)) b a

-- "The exact level takes the same formulas with no division dropped and no cent rounded"
unfoldable pub exact : Sum → Fraction
exact (whole n) = ratio n 1
exact (share n d) = cond (eqb d 0) (ratio 0 1) (ratio n d)
exact (a ⊕ b) = plus (exact a) (exact b)
exact (total n f) = sum_over n (λ k. exact (f k))
exact (per_thousand a e) = ratio ((exact a).num * 1000) ((exact a).den * e)
exact (greater a b) = greater_of (exact a) (exact b)

-- ---- "may then differ by at most 0.005006 dollar on either side"

-- that distance in micro-dollars
abbrev pub distance : ℕ
distance = 5006

-- a level in cents beside an exact one in micro-dollars, multiplied across
pub record Close (level : ℕ) (e : Fraction) : Type 0 where
  pub real : 0 < e.den
  pub above : level * 10000 * e.den ≤ e.num + distance * e.den
  pub below : e.num ≤ (level * 10000 + distance) * e.den
