-- The verdict on an offer, of a dossier as bytes.
use Rattle.std.specs.Prelude.{List, [], ◌∷◌, ℕ, ◌/◌, ℤ, length, Result, Ok, Err}
use Rattle.fields.specs.Numbers.{biased_of}
use Rattle.records.specs.Answers.{Answer}
use Rattle.records.specs.declared.Refusal.{Refusal}
use Rattle.station.specs.InForce.{Query}
use Rattle.station.specs.Parameters.{Parameters}
use Rattle.formulas.specs.Levels.{parameters_at, query_answer, Line, levels}
use Rattle.verdicts.specs.declared.Verdict.{Verdict}
use Rattle.verdicts.specs.declared.Verdict.TheVariants.{Passes, Fails, Refused}
use Rattle.verdicts.specs.Test.{offer_from, price_test}
use Rattle.verdicts.specs.Refusals.{offer_refusal, price_refusal}

-- a refusal comes before the test: "one that draws no refusal and doesn't fail passes"
unfoldable pub settle : Answer → Verdict → Verdict
settle (Ok x) v = v
settle (Err r) v = Refused r.number r.place

-- of what was tested, or refused before
unfoldable pub verdict_of : Result Verdict Refusal → Verdict
verdict_of (Ok v) = v
verdict_of (Err r) = Refused r.number r.place

-- "a definition gives this paper's number and values for each case": 0 passes; 1 fails, with pair and lamination; 2 refused, with number and place
unfoldable pub numbers : Verdict → List ℕ
numbers Passes = 0 ∷ []
numbers (Fails k i) = 1 ∷ k ∷ i ∷ []
numbers (Refused n p) = 2 ∷ n ∷ p ∷ []

-- on an energy offer, under a condition, beside some levels
unfoldable pub offer_verdict : Parameters → ℕ → List Line → List ℕ → Verdict
offer_verdict s c l o = settle (offer_refusal s c o) (offer_from s c l o 0 (length o / 6))

-- on a single price, for a level and under a condition, beside some levels
unfoldable pub price_verdict : Parameters → ℕ → ℕ → List Line → ℕ → Verdict
price_verdict s v c l price = settle (price_refusal s v c) (price_test s c v price l)

-- on an energy offer, of a dossier for a query and under a condition: "the conduct test"
unfoldable pub on_offer : List ℕ → Query → ℕ → List ℕ → Verdict
on_offer d q c o = settle (query_answer d q) (offer_verdict (parameters_at d q) c (levels d q) o)

-- on a signed price in cents, of a dossier for a query, for a level and under a condition: "An energy offer and a single price are both offers"
unfoldable pub on_price : List ℕ → Query → ℕ → ℕ → ℤ → Verdict
on_price d q v c price = settle (query_answer d q) (price_verdict (parameters_at d q) v c (levels d q) (biased_of price))
