-- "Third-party payments withdrawn": what amounts of cost 4 change, which is nothing, and what the report's last line counts.
use Rattle.std.specs.Prelude.{◌≡◌, Bool, true, cond, ◌&&◌, ◌||◌, List, [], ◌∷◌, ◌++◌, ℕ, suc, ◌≤◌, eqb, length}
use Rattle.lists.specs.Lists.{Each, Pairwise, Member}
use Rattle.records.specs.Table.{AD, AO}
use Rattle.records.specs.Record.{kind, since, key_of, told}
use Rattle.records.specs.Dossier.{records}
use Rattle.station.specs.InForce.{counts_at, speaks_to, Query}
use Rattle.rules.specs.Answer.{IsAccepted}
use Rattle.formulas.specs.Levels.{parameters_in, parameters_at, profile, third_party, retired}
use Rattle.layout.specs.Report.{retired_line, report}
use Rattle.promise.specs.AlikeBut.{AlikeBut}
use Rattle.promise.specs.Order.{SameMeaning}

-- ---- "their amounts no longer join any level"

-- AD's field i, 0 the profile, 1 the cost, 2 the level: AO "is AD with an owner byte, 1 or 2, first in its key"
abbrev pub adder_field : ℕ → List ℕ → ℕ
adder_field i r = cond (eqb (kind r) AO) (told AO (suc i) r) (told AD i r)

-- a third-party payment: an AD, AV or AO of cost 4
unfoldable pub withdrawn : List ℕ → Bool
withdrawn r = (eqb (kind r) AD || eqb (kind r) AO) && eqb (adder_field 1 r) third_party

-- two accepted dossiers that differ in the amounts of third-party payments alone (as bytes, by `RecordByRecord`) mean the same: for every query their levels
-- are the same line by line, formula by formula ("The exact level also omits them"), and so are verdicts and reports, and the charging week
abbrev pub Withdrawn : Type 0
Withdrawn = (d e : List ℕ) → IsAccepted d → IsAccepted e → Pairwise (AlikeBut withdrawn) (records d) (records e) → SameMeaning d e

-- ---- "The report ends with `retired N`, N counting the cost-4 records in force at that hour for its profile"

-- r is a third-party payment of profile p in force for the query: its first hour has come, and "that owner's AO" are added "to `retired`", the other's not
pub record Retired (q : Query) (p : ℕ) (r : List ℕ) : Type 0 where
  pub payment : withdrawn r ≡ true
  pub profile : adder_field 0 r ≡ p
  pub come : since r ≤ q.hour
  pub own : speaks_to q.owner r ≡ true

-- a record's kind and key
abbrev pub kind_and_key : List ℕ → ℕ × ℕ
kind_and_key r = (kind r, key_of r)

-- a record of some is one, has the kind and key n, and counts at the hour
pub record RetiredAt (q : Query) (p : ℕ) (l : List (List ℕ)) (n : ℕ × ℕ) : Type 0 where
  pub payment : List ℕ
  pub member : Member payment l
  pub keyed : kind_and_key payment ≡ n
  pub retired : Retired q p payment
  pub counting : counts_at q.hour l payment ≡ true

-- no two elements of a list are equal
abbrev pub Different : {A : Type 0} → List A → Type 0
Different [] = Unit {0}
Different (a ∷ l) = Each (λ b. a ≡ b → ⊥) l × Different l

-- kinds and keys that are different, each of a third-party payment of profile p that counts at the hour, and every such payment in force has one of them: of
-- the issues of a key one alone counts, so that as many keys are as many records in force. The report ends with their number
pub record Counted (d : List ℕ) (q : Query) (p : ℕ) : Type 0 where
  pub keys : List (ℕ × ℕ)
  pub different : Different keys
  pub only : Each (RetiredAt q p (records d)) keys
  pub every : Each (λ r. Retired q p r → Member (kind_and_key r) keys) (records d)
  pub many : length keys ≡ retired (parameters_at d q) p
  pub front : List ℕ
  pub ends : report d q ≡ front ++ retired_line (length keys)

-- so it is in every accepted dossier, for every query and its hour's profile
abbrev pub RetiredDeclared : Type 0
RetiredDeclared = (d : List ℕ) → IsAccepted d → (q : Query) → Counted d q (profile (parameters_in d) q.hour)
