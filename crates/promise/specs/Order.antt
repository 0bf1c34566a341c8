-- Arrival order: the records of an accepted dossier in any other order mean the same.
use Rattle.std.specs.Prelude.{◌≡◌, List, ℕ, ℤ, length}
use Rattle.lists.specs.Lists.{Permutation, joined}
use Rattle.records.specs.Dossier.{records}
use Rattle.station.specs.InForce.{Query}
use Rattle.station.specs.Week.{week_prices, week_energies}
use Rattle.rules.specs.Answer.{IsAccepted}
use Rattle.rules.specs.Week.{week_answer, prices_after, energies_after}
use Rattle.formulas.specs.Levels.{query_answer, levels}
use Rattle.verdicts.specs.Verdict.{on_offer, on_price}
use Rattle.layout.specs.Report.{report, written, written_numbers, report_answer, buffer_after}

-- e is made of the records of d, back to back in some order
pub record Reordered (d e : List ℕ) : Type 0 where
  pub order : List (List ℕ)
  pub same : Permutation (records d) order
  pub made : e ≡ joined order

-- what the caller of a report into n bytes is told, in the paper's numbers
abbrev pub told : List ℕ → Query → ℕ → List ℕ
told d q n = written_numbers (written (report_answer d q n) (length (report d q)))

-- e has for the query p what d has for q: what is drawn, the levels, the verdicts and the report, told and written
pub record SameFor (d e : List ℕ) (q p : Query) : Type 0 where
  pub drawn : query_answer d q ≡ query_answer e p
  pub levels : levels d q ≡ levels e p
  pub offers : (c : ℕ) (o : List ℕ) → on_offer d q c o ≡ on_offer e p c o
  pub prices : (v c : ℕ) (price : ℤ) → on_price d q v c price ≡ on_price e p v c price
  pub report : report d q ≡ report e p
  pub answer : (n : ℕ) → report_answer d q n ≡ report_answer e p n
  pub told : (n : ℕ) → told d q n ≡ told e p n
  pub buffer : (buf : List ℕ) → buffer_after d q buf ≡ buffer_after e p buf

-- for one query
abbrev pub SameAt : List ℕ → List ℕ → Query → Type 0
SameAt d e q = SameFor d e q q

-- e is accepted, has all of that for every query, and d's week: its prices and energies, and for lent lists of any length the answer and what the lists hold
-- after the call
pub record SameMeaning (d e : List ℕ) : Type 0 where
  pub accepted : IsAccepted e
  pub queries : (q : Query) → SameAt d e q
  pub week-prices : week_prices d ≡ week_prices e
  pub week-energies : week_energies d ≡ week_energies e
  pub week-answer : (n m : ℕ) → week_answer d n m ≡ week_answer e n m
  pub prices-after : (ps : List ℤ) (es : List ℕ) → prices_after d ps es ≡ prices_after e ps es
  pub energies-after : (ps : List ℤ) (es : List ℕ) → energies_after d ps es ≡ energies_after e ps es

-- every reordering of an accepted dossier means the same
abbrev pub ArrivalOrder : Type 0
ArrivalOrder = (d e : List ℕ) → IsAccepted d → Reordered d e → SameMeaning d e
