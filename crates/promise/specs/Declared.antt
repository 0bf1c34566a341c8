-- The definitions that go step by step, declared: the current record, what counts at some hour, fuel at an hour, and acceptance.
use Rattle.std.specs.Prelude.{◌≡◌, true, List, [], ◌∷◌, ℕ, ◌≤◌, ◌<◌, length}
use Rattle.lists.specs.Lists.{Each, Member}
use Rattle.records.specs.Table.{FU}
use Rattle.records.specs.Record.{since}
use Rattle.records.specs.Answers.{answer_numbers, Refused}
use Rattle.records.specs.Dossier.{records}
use Rattle.station.specs.Current.{matches, current}
use Rattle.station.specs.Declared.{CurrentOf, Counting}
use Rattle.station.specs.InForce.{counts_at, counts, Query}
use Rattle.rules.specs.Answer.{answer, IsAccepted}
use Rattle.rules.specs.Sound.{Sound}
use Rattle.formulas.specs.Levels.{parameters_in, profile, IsOwner, query_answer}

-- the current record is one of the records, with the kind and key, and none with them has a higher issue; empty where none has them
abbrev pub CurrentDeclared : Type 0
CurrentDeclared = (k n : ℕ) (l : List (List ℕ)) → CurrentOf k n l (current k n l)

-- a record counts at some hour exactly if every higher issue of its kind and key has a later first hour
pub record CountingDeclared : Type 0 where
  pub some : (all : List (List ℕ)) (r : List ℕ) → Member r all → (h : ℕ) → counts_at h all r ≡ true → counts all r ≡ true
  pub own : (all : List (List ℕ)) (r : List ℕ) → counts all r ≡ true → counts_at (since r) all r ≡ true
  pub only : (all : List (List ℕ)) (r : List ℕ) → Member r all → counts all r ≡ true → Counting all r
  pub always : (all : List (List ℕ)) (r : List ℕ) → Member r all → Counting all r → counts all r ≡ true

-- every FU and FV of the hour's profile has a later first hour
abbrev pub FuelAhead : List ℕ → ℕ → Type 0
FuelAhead d h = Each (λ r. matches FU (profile (parameters_in d) h) r ≡ true → h < since r) (records d)

-- "20, the hour's profile has no fuel in force": drawn of an accepted dossier, by a query of one of the owners, exactly if that is so
pub record FuelDeclared : Type 0 where
  pub only : (d : List ℕ) → IsAccepted d → (q : Query) → query_answer d q ≡ Refused 20 0 → FuelAhead d q.hour
  pub always : (d : List ℕ) → IsAccepted d → (q : Query) → IsOwner q.owner → FuelAhead d q.hour → query_answer d q ≡ Refused 20 0

-- a dossier is accepted exactly if it has no more than 60,000 bytes and sound records; in numbers, if its answer is 0
pub record AcceptanceDeclared : Type 0 where
  pub only : (d : List ℕ) → IsAccepted d → (length d ≤ 60000) × Sound (records d)
  pub always : (d : List ℕ) → length d ≤ 60000 → Sound (records d) → IsAccepted d
  pub numbers : (d : List ℕ) → answer_numbers (answer d) ≡ 0 ∷ [] → IsAccepted d
