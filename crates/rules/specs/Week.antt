-- The week that is asked for: the answer to a dossier, and its prices and energies in two lent lists.
use Rattle.std.specs.Prelude.{cond, ◌||◌, List, ◌++◌, ℕ, ltb, ℤ, length, drop}
use Rattle.records.specs.Answers.{Answer, or_else, refuse_if, is_accepted}
use Rattle.station.specs.Week.{intervals, week_prices, week_energies}
use Rattle.rules.specs.Answer.{answer}

-- into n prices and m energies: 15 where either are too few
unfoldable pub week_answer : List ℕ → ℕ → ℕ → Answer
week_answer d n m = or_else (answer d) (refuse_if (ltb n intervals || ltb m intervals) 15 0)

-- a list after the call: its first places hold the week's numbers and those past them stay, and a refused call keeps every one
abbrev pub week_in : {A : Type 0} → Answer → List A → List A → List A
week_in a l before = cond (is_accepted a) (l ++ drop intervals before) before

-- the prices after it
unfoldable pub prices_after : List ℕ → List ℤ → List ℕ → List ℤ
prices_after d p e = week_in (week_answer d (length p) (length e)) (week_prices d) p

-- the energies after it
unfoldable pub energies_after : List ℕ → List ℤ → List ℕ → List ℕ
energies_after d p e = week_in (week_answer d (length p) (length e)) (week_energies d) e
