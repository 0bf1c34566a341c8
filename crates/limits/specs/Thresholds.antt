-- The test in the shapes that code takes: over levels without their formulas, which it never looks at, and by the places of arrays. The
-- laws of proofs/Laminations.antt tie each shape to its definition.
use Rattle.std.specs.Prelude.{Bool, cond, ◌&&◌, List, [], ◌∷◌, ℕ, zero, suc, ◌+◌, ◌-◌, ◌≤◌, ◌<◌, min, eqb, get_or, Option, Some, None}
use Rattle.station.specs.Parameters.{Parameters, percent, margin, floor}
use Rattle.rules.specs.Fit.{energy}
use Rattle.limits.specs.declared.Threshold.{Threshold}
use Rattle.limits.specs.declared.Pair.{Pair}
use Rattle.verdicts.specs.declared.Verdict.{Verdict}
use Rattle.verdicts.specs.declared.Verdict.TheVariants.{Passes, Fails}
use Rattle.formulas.specs.Levels.{Shown}
use Rattle.verdicts.specs.Test.{fails, quantity, price_at, before, overlap}

-- what TH says of a condition and level
abbrev pub threshold_of : Parameters → ℕ → ℕ → Threshold
threshold_of s c v = record { percent = percent s c v; margin = margin s c v; floor = floor s c v }

-- whether a price fails against a level x
unfoldable pub fails_at : Threshold → ℕ → ℕ → Bool
fails_at t price x = fails x t.percent t.margin t.floor price

-- as `failing`
unfoldable pub failing_shown : ℕ → (ℕ → ℕ → Bool) → (ℕ → Bool) → ℕ → List Shown → Verdict → Verdict
failing_shown v meets test k [] rest = rest
failing_shown v meets test k (x ∷ l) rest =
    let r = failing_shown v meets test k l rest in
    cond (eqb x.level v && meets x.from x.to && test x.cents) (Fails k x.lamination) r

-- as `offer_from`
unfoldable pub offer_shown : Threshold → List Shown → List ℕ → ℕ → ℕ → Verdict
offer_shown t l o k zero = Passes
offer_shown t l o k (suc n) =
    failing_shown energy (overlap (before o k) (quantity o k)) (fails_at t (price_at o k)) (k + 1) l (offer_shown t l o (k + 1) n)

-- as `price_test`, against a level x of its kind
unfoldable pub single_shown : Threshold → ℕ → ℕ → Verdict
single_shown t price x = cond (fails_at t price x) (Fails 0 0) Passes

-- ---- the same by the arrays, as code goes through them

-- whether a pair fails in a lamination of level x
unfoldable pub fails_in : Threshold → Pair → ℕ → ℕ → ℕ → Bool
fails_in t pair from to x = overlap pair.low pair.high from to && fails_at t pair.price x

-- the first of n laminations from place i on that a pair fails in, counted from 1; none where it fails in none
unfoldable pub first_failing : Threshold → Pair → List ℕ → List ℕ → List ℕ → ℕ → ℕ → Option ℕ
first_failing t pair from to cents i zero = None
first_failing t pair from to cents i (suc n) =
    cond (fails_in t pair (get_or from i 0) (get_or to i 0) (get_or cents i 0)) (Some (suc i)) (first_failing t pair from to cents (suc i) n)

-- the least of the first n levels; of none, the largest number of 64 bits
unfoldable pub least_of : List ℕ → ℕ → ℕ
least_of cents zero = 18446744073709551615
least_of cents (suc n) = min (least_of cents n) (get_or cents n 0)

-- of n pairs none has a higher price than the last
pub record LastHighest (o : List ℕ) (n : ℕ) : Type 0 where
  pub at : (j : ℕ) → j < n → price_at o j ≤ price_at o (n - 1)
