-- "A co-owner at the same plant": the other owner's costs change nothing, a dossier without AO means the same to both, and whom a query may name.
use Rattle.std.specs.Prelude.{◌≡◌, Bool, ◌&&◌, not, List, [], ◌∷◌, ℕ, eqb, ℤ}
use Rattle.lists.specs.Lists.{Pairwise}
use Rattle.records.specs.Table.{AO}
use Rattle.records.specs.Record.{kind, told}
use Rattle.records.specs.Answers.{or_else, refuse_if, Refused}
use Rattle.records.specs.Dossier.{records}
use Rattle.station.specs.InForce.{come, Unowned, Query, query, in_force}
use Rattle.rules.specs.Answer.{answer, IsAccepted}
use Rattle.formulas.specs.Levels.{parameters_at, IsOwner, fuelled, query_answer}
use Rattle.verdicts.specs.Verdict.{numbers, on_offer, on_price}
use Rattle.layout.specs.Report.{report_answer, buffer_after}
use Rattle.promise.specs.AlikeBut.{AlikeBut}
use Rattle.promise.specs.Order.{SameFor, SameAt}

-- ---- "no change to owner 2's AO amounts may alter a level, verdict or report of owner 1, and the reverse"

-- an AO of another owner
unfoldable pub of_other : ℕ → List ℕ → Bool
of_other o r = eqb (kind r) AO && not (eqb (told AO 0 r) o)

-- "While both dossiers are accepted": two that differ in the amounts of other owners' AO alone (as bytes, by `RecordByRecord`) have the same records in force
-- for every query of the owner, and so the same answer, levels, formula by formula, verdicts and report
abbrev pub OthersCosts : Type 0
OthersCosts = (d e : List ℕ) → IsAccepted d → IsAccepted e → (q : Query) → Pairwise (AlikeBut (of_other q.owner)) (records d) (records e)
    → (in_force q (records d) ≡ in_force q (records e)) × SameAt d e q

-- ---- without AO

-- all that have come are in force, whoever asks, and at every hour owner 2 has what owner 1 has
pub record Common (d : List ℕ) : Type 0 where
  pub force : (q : Query) → in_force q (records d) ≡ come q.hour (records d)
  pub both : (h : ℕ) → SameFor d d (query h 1) (query h 2)

-- so it is in every dossier without AO, accepted or not
abbrev pub SameToBoth : Type 0
SameToBoth = (d : List ℕ) → Unowned d → Common d

-- ---- "A query names an owner"

-- "a query with any other is 3 at place 0": what is drawn, on offers, prices and reports too, and the report's buffer stays
pub record NoOwner (d : List ℕ) (q : Query) : Type 0 where
  pub drawn : query_answer d q ≡ Refused 3 0
  pub offers : (c : ℕ) (o : List ℕ) → numbers (on_offer d q c o) ≡ 2 ∷ 3 ∷ 0 ∷ []
  pub prices : (v c : ℕ) (price : ℤ) → numbers (on_price d q v c price) ≡ 2 ∷ 3 ∷ 0 ∷ []
  pub answer : (n : ℕ) → report_answer d q n ≡ Refused 3 0
  pub buffer : (buf : List ℕ) → buffer_after d q buf ≡ buf

-- whatever the dossier is, any other owner draws that, and 1 and 2 draw what the dossier draws, and then 20
pub record OwnerDeclared : Type 0 where
  pub other : (d : List ℕ) (q : Query) → (IsOwner q.owner → ⊥) → NoOwner d q
  pub known : (d : List ℕ) (q : Query) → IsOwner q.owner
      → query_answer d q ≡ or_else (answer d) (refuse_if (not (fuelled (parameters_at d q) q.hour)) 20 0)
