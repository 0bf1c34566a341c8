-- What a pass answers.
use Rattle.std.specs.Prelude.{Bool, ℕ, Result, Ok}
use Rattle.records.specs.declared.Refusal.{Refusal}
use Rattle.records.specs.Answers.{Refused}
use Rattle.index.specs.declared.Summary.{Summary}

-- what it tells of the records, or the first fault
abbrev pub Passed : Type 0
Passed = Result Summary Refusal

-- whether every issue was above all earlier ones of its kind and key, the highest slot of a record, and whether one has a first hour
abbrev pub Ended : Bool → ℕ → Bool → Passed
Ended b m f = Ok (record { rising = b; top = m; dated = f })

-- the first fault and its place
abbrev pub Stopped : ℕ → ℕ → Passed
Stopped n p = Refused n p
