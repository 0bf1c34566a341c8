-- What an index holds: in the slot of each kind and key the current one of some records of the dossier.
use Rattle.std.specs.Prelude.{◌≡◌, true, cond, List, [], ℕ, ◌-◌, ◌≤◌, ◌<◌, eqb, length, get_or, drop}
use Rattle.records.specs.Answers.{Accepted}
use Rattle.records.specs.Table.{kinds}
use Rattle.records.specs.MarkShapes.{key_test}
use Rattle.records.specs.Dossier.{first_of, records, scan}
use Rattle.station.specs.Current.{current}
use Rattle.index.specs.Slots.{slot, short}

-- the record that a slot of value v holds in dossier d
unfoldable pub held_record : List ℕ → ℕ → List ℕ
held_record d v = cond (eqb v 0) [] (first_of (drop (v - 1) d))

-- a dossier that draws none of 1 to 3 and 13, with an index of some of its records
pub record IndexOf (l : List (List ℕ)) (d ix : List ℕ) : Type 0 where
  pub roomy : short ≤ length ix
  pub short : length d ≤ 60000
  pub clean : scan 0 (records d) ≡ Accepted
  pub holds : (k n : ℕ) → k < kinds → key_test k n ≡ true → slot k n < length ix → held_record d (get_or ix (slot k n) 0) ≡ current k n l
  pub none : (k n : ℕ) → k < kinds → key_test k n ≡ true → slot k n < length ix → current k n l ≡ [] → get_or ix (slot k n) 0 ≡ 0
