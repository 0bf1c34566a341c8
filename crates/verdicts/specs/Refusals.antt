-- 10 and 11, which the trader mends; 12 and 14, which the desk mends.
use Rattle.std.specs.Prelude.{Bool, ◌&&◌, ◌||◌, not, List, [], ◌∷◌, ℕ, zero, suc, ◌+◌, ◌*◌, ◌/◌, ◌%◌, leb, ltb, eqb, length}
use Rattle.lists.specs.Tests.{every, between}
use Rattle.records.specs.Table.{TH, price}
use Rattle.records.specs.Record.{in_range}
use Rattle.records.specs.Answers.{Accepted, Answer, or_else, refuse_if}
use Rattle.station.specs.Parameters.{Parameters, technology, capacity, threshold_key}
use Rattle.rules.specs.Fit.{energy, holds}
use Rattle.verdicts.specs.Test.{quantity, price_at, before}

-- "12 level not 1 to 4, not held by the technology, or 1 put to the single-price test", at place "else 0"
unfoldable pub level_refusal : Parameters → ℕ → Answer
level_refusal s v = refuse_if (eqb v energy || not (holds (technology s) v)) 12 0

-- "14 condition not 1 to 3 or no TH for it and the level", at place "else 0"
unfoldable pub condition_refusal : Parameters → ℕ → ℕ → Answer
condition_refusal s v c = refuse_if (not (between 1 3 c && s.has TH (threshold_key c v))) 14 0

-- the price before pair k; before the first there is none, and nothing is below it
unfoldable pub price_before : List ℕ → ℕ → ℕ
price_before o zero = 0
price_before o (suc k) = price_at o k

-- "quantities rise strictly from above 0, prices don't fall"; not "a pair's price out of range, or a quantity or price against the rule above"
unfoldable pub pair_holds : List ℕ → ℕ → Bool
pair_holds o k = every (ltb (before o k) (quantity o k) ∷ in_range price (price_at o k) ∷ leb (price_before o k) (price_at o k) ∷ [])

-- 10 at "pair start": the first of n pairs from pair k on that doesn't hold
unfoldable pub malformed : List ℕ → ℕ → ℕ → Answer
malformed o k zero = Accepted
malformed o k (suc n) = or_else (refuse_if (not (pair_holds o k)) 10 (6 * k)) (malformed o (k + 1) n)

-- "11 quantity above capacity", at pair start
unfoldable pub above_capacity : Parameters → List ℕ → ℕ → ℕ → Answer
above_capacity s o k zero = Accepted
above_capacity s o k (suc n) = or_else (refuse_if (ltb (capacity s) (quantity o k)) 11 (6 * k)) (above_capacity s o (k + 1) n)

-- "10 malformed offer: its length", at "offer length if that isn't 6 to 120 in sixes": "20 pairs and 21"
unfoldable pub length_refusal : List ℕ → Answer
length_refusal o = refuse_if (not (between 6 120 (length o) && eqb (length o % 6) 0)) 10 (length o)

-- "12, 14, 10, 11": of an energy offer, whose level every technology holds
unfoldable pub offer_refusal : Parameters → ℕ → List ℕ → Answer
offer_refusal s c o =
    or_else (condition_refusal s energy c)
    (or_else (length_refusal o)
    (or_else (malformed o 0 (length o / 6))
    (above_capacity s o 0 (length o / 6))))

-- of a single price
unfoldable pub price_refusal : Parameters → ℕ → ℕ → Answer
price_refusal s v c = or_else (level_refusal s v) (condition_refusal s v c)
