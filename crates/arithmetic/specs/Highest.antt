-- The n highest of a list by a threshold: what each lies above it, and the threshold n times. The law `highest-sum` says
-- that this is their sum, and `threshold-place` that a threshold with fewer than n above it is the number at place n from the top.
use Rattle.std.specs.Prelude.{List, ℕ, ◌-◌, ◌≤◌}
use Rattle.formulas.specs.Sums.{sum_of, above, at_least}

-- what those above v have above it
abbrev pub excess : ℕ → List ℕ → ℕ
excess v l = sum_of (λ x. x - v) l

-- so many at most are above v, and n at least are v or more
pub record Threshold (n most v : ℕ) (l : List ℕ) : Type 0 where
  pub few : above v l ≤ most
  pub enough : n ≤ at_least v l

-- a price in its range, plus 2^31
pub record PriceIn (x : ℕ) : Type 0 where
  pub low : 2147283648 ≤ x
  pub high : x ≤ 2147683648
