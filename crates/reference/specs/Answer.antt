-- The answer to a dossier for a query, with its levels in arrays.
use Rattle.std.specs.Prelude.{List, ℕ, Result, Ok, Err}
use Rattle.station.specs.InForce.{Query}
use Rattle.records.specs.declared.Refusal.{Refusal}
use Rattle.records.specs.Answers.{Answer}
use Rattle.formulas.specs.Levels.{query_answer}
use Rattle.arrays.specs.declared.HourLevels.{HourLevels}
use Rattle.arrays.specs.Packed.{packed_at}

-- what refuses nothing with the levels, and a refusal with none
unfoldable pub with_levels : Answer → HourLevels → Result HourLevels Refusal
with_levels (Ok x) l = Ok l
with_levels (Err r) l = Err r

-- refused, with no level, or accepted with its levels
unfoldable pub levels_answer : List ℕ → Query → Result HourLevels Refusal
levels_answer d q = with_levels (query_answer d q) (packed_at d q)
