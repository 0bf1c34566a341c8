-- The levels at an hour as 66 numbers, for callers in other languages.
use Rattle.std.specs.Prelude.{◌≡◌, cond, List, [], ◌∷◌, ◌++◌, ℕ, zero, suc, ◌+◌, ◌≤◌, ltb, length, get_or, drop}
use Rattle.records.specs.Answers.{Answer, or_else, refuse_if, is_accepted}
use Rattle.rules.specs.Fit.{energy, start, no_load, reserve, holds}
use Rattle.station.specs.InForce.{Query}
use Rattle.formulas.specs.Levels.{query_answer}
use Rattle.arrays.specs.declared.HourLevels.{HourLevels}
use Rattle.arrays.specs.Packed.{Arrays, arrays_of, packed_at}

-- the levels that a technology holds as bits: 1 energy, 2 start, 4 no-load, 8 reserve
unfoldable pub held_bits : ℕ → ℕ
held_bits t = cond (holds t energy) 1 0 + cond (holds t start) 2 0 + cond (holds t no_load) 4 0 + cond (holds t reserve) 8 0

-- from, to and level of the lamination at place i of the arrays, from 0
abbrev pub lamination_words : Arrays → ℕ → List ℕ
lamination_words r i = get_or r.from i 0 ∷ get_or r.to i 0 ∷ get_or r.cents i 0 ∷ []

-- past their laminations the arrays have nothing
pub record Blank (r : Arrays) : Type 0 where
  pub few : r.count ≤ 20
  pub none : (i : ℕ) → r.count ≤ i → lamination_words r i ≡ 0 ∷ 0 ∷ 0 ∷ []

-- the profile, the number of laminations, and the words of the first n places
unfoldable pub words_to : ℕ → Arrays → ℕ → List ℕ
words_to p r zero = p ∷ r.count ∷ []
words_to p r (suc n) = words_to p r n ++ lamination_words r n

-- all 66 words: those of the 20 places, the held levels, and the start, no-load and reserve levels in cents
unfoldable pub words_of : HourLevels → List ℕ
words_of r = words_to r.profile (arrays_of r) 20 ++ (held_bits r.technology ∷ r.start ∷ r.noload ∷ r.reserve ∷ [])

-- the answer to a dossier for a query into n words: 15 where they are too few
unfoldable pub words_answer : List ℕ → Query → ℕ → Answer
words_answer d q n = or_else (query_answer d q) (refuse_if (ltb n 66) 15 0)

-- the words after it: those past 66 stay, and a refused call keeps every one
unfoldable pub words_after : List ℕ → Query → List ℕ → List ℕ
words_after d q w =
    cond (is_accepted (words_answer d q (length w)))
    (words_of (packed_at d q) ++ drop 66 w) w
