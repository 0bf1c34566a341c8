-- What a query draws, with its profile where it is answered; and what it draws before the dossier is read.
use Rattle.std.specs.Prelude.{List, ℕ, Result, Ok, Err}
use Rattle.records.specs.declared.Refusal.{Refusal}
use Rattle.records.specs.Answers.{Answer, or_else}
use Rattle.station.specs.InForce.{Query}
use Rattle.lookup.specs.Parts.{too_long}
use Rattle.formulas.specs.Levels.{parameters_at, profile, owner_refusal, query_answer}

-- what a query draws: a refusal, or nothing, and it is answered in a profile
abbrev pub Asked : Type 0
Asked = Result ℕ Refusal

-- answered in profile p
abbrev pub Answered : ℕ → Asked
Answered p = Ok p

-- an answer, beside a profile that is told where it refuses nothing
unfoldable pub asked : Answer → ℕ → Asked
asked (Ok x) p = Answered p
asked (Err r) p = Err r

-- what a dossier draws for a query, or else the hour's profile
unfoldable pub asked_at : List ℕ → Query → Asked
asked_at d q = asked (query_answer d q) (profile (parameters_at d q) q.hour)

-- before the dossier is read: the owner's refusal, and then 13
unfoldable pub way_answer : List ℕ → ℕ → Answer
way_answer d o = or_else (owner_refusal o) (too_long d)
