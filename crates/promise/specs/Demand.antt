-- Demand 3: one claim about dossiers as bytes, for every technology and formula.
use Rattle.std.specs.Prelude.{◌≡◌, true, false, List, [], ◌∷◌, ℕ, ℤ, ◌≤ℤ◌}
use Rattle.lists.specs.Lists.{Pairwise, Each}
use Rattle.records.specs.Answers.{Accepted, Refused}
use Rattle.records.specs.Record.{since}
use Rattle.records.specs.Dossier.{records}
use Rattle.records.specs.Raise.{RaiseFor}
use Rattle.station.specs.InForce.{Query}
use Rattle.station.specs.Parameters.{parameters, technology}
use Rattle.station.specs.Week.{week_prices, week_energies}
use Rattle.rules.specs.Answer.{IsAccepted}
use Rattle.rules.specs.Week.{week_answer}
use Rattle.formulas.specs.Levels.{parameters_at, amounts_at, IsOwner, fuelled, query_answer, lines, levels, NoLower, CloseLine}
use Rattle.verdicts.specs.declared.Verdict.{Verdict}
use Rattle.verdicts.specs.Verdict.{numbers, on_offer, on_price}

-- "One dossier is a raise of another": the limits are those of d's technology
abbrev pub Raise : List ℕ → List ℕ → Type 0
Raise d e = RaiseFor (technology (parameters (records d))) d e

-- a verdict passes, in the paper's numbers: "The promises use that definition."
abbrev pub Passed : Verdict → Type 0
Passed v = numbers v ≡ 0 ∷ []

-- what a raise keeps: e is accepted; "A raise leaves first hours alone", and every query draws what it drew; "Demand 3 sets the levels of the two side by
-- side at each hour", for whichever owner is asked, and none is lower; what passed passes; of the charging week the answer and the energies stay, and no
-- interval's price is lower
pub record RaiseKeeps (d e : List ℕ) : Type 0 where
  pub accepted : IsAccepted e
  pub first-hours : Pairwise (λ r s. since r ≡ since s) (records d) (records e)
  pub drawn : (q : Query) → query_answer d q ≡ query_answer e q
  pub higher : (q : Query) → Pairwise NoLower (levels d q) (levels e q)
  pub offers : (q : Query) (c : ℕ) (o : List ℕ) → Passed (on_offer d q c o) → Passed (on_offer e q c o)
  pub prices : (q : Query) (v c : ℕ) (price : ℤ) → Passed (on_price d q v c price) → Passed (on_price e q v c price)
  pub week-answer : (n m : ℕ) → week_answer d n m ≡ week_answer e n m
  pub week-energies : week_energies d ≡ week_energies e
  pub week-prices : Pairwise ◌≤ℤ◌ (week_prices d) (week_prices e)

-- a query of one of the owners, of an accepted dossier: its hour's profile has fuel in force, nothing is drawn, and the levels are those of the formulas; or
-- it has none, 20 is drawn, and "an hour without fuel in force has no level"
pub data AtQuery (d : List ℕ) (q : Query) : Type 0 where
  with_fuel : fuelled (parameters_at d q) q.hour ≡ true → query_answer d q ≡ Accepted
      → levels d q ≡ lines (parameters_at d q) (amounts_at d q) q.hour → AtQuery d q
  no_fuel : fuelled (parameters_at d q) q.hour ≡ false → query_answer d q ≡ Refused 20 0 → levels d q ≡ [] → AtQuery d q

-- "It is one claim about dossiers as bytes, not one for each technology or formula": every raise of an accepted dossier keeps that, every level of an accepted
-- dossier is close to its exact level, and there is none only at an hour without fuel: "at every other hour demand 3 stands whole"
pub record Demand3 : Type 0 where
  pub raise : (d e : List ℕ) → IsAccepted d → Raise d e → RaiseKeeps d e
  pub distance : (d : List ℕ) → IsAccepted d → (q : Query) → Each CloseLine (levels d q)
  pub queries : (d : List ℕ) → IsAccepted d → (q : Query) → IsOwner q.owner → AtQuery d q
