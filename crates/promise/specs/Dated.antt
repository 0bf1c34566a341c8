-- "Costs with a first hour": what is not yet in force changes nothing, and a dossier without first hours means what it meant without them.
use Rattle.std.specs.Prelude.{◌≡◌, List, ◌++◌, map, ℕ, ◌<◌, eqb, ℤ}
use Rattle.lists.specs.Lists.{Each, Permutation, those}
use Rattle.fields.specs.Numbers.{biased_of}
use Rattle.records.specs.Record.{mark, since, issue, key_of}
use Rattle.records.specs.Dossier.{records}
use Rattle.station.specs.Current.{current}
use Rattle.station.specs.InForce.{counts, Undated, speaks_to, Query, in_force}
use Rattle.station.specs.Parameters.{Parameters, Amounts, parameters, amounts}
use Rattle.rules.specs.Answer.{answer, IsAccepted}
use Rattle.formulas.specs.Levels.{IsOwner, query_answer, profile, lines, levels, shown, retired}
use Rattle.verdicts.specs.Verdict.{offer_verdict, price_verdict, on_offer, on_price}
use Rattle.layout.specs.Report.{report_text, report}
use Rattle.promise.specs.Order.{SameAt}

-- ---- before its first hour

-- "At an hour, the highest issue whose first hour has come counts": of two accepted dossiers, one with some records more than the other, in any order, all is
-- the same for every query at an hour before the first hours of these
abbrev pub NotYet : Type 0
NotYet =
    (d e : List ℕ) (later : List (List ℕ)) → IsAccepted d → IsAccepted e → Permutation (later ++ records d) (records e)
    → (q : Query) → Each (λ r. q.hour < since r) later → SameAt d e q

-- ---- without first hours

-- the records that speak to an owner, which are all but the other owner's AO
abbrev pub records_to : ℕ → List ℕ → List (List ℕ)
records_to o d = those (speaks_to o) (records d)

-- what they say, without money
abbrev pub parameters_to : ℕ → List ℕ → Parameters
parameters_to o d = parameters (records_to o d)

-- the money
abbrev pub amounts_to : ℕ → List ℕ → Amounts
amounts_to o d = amounts (records_to o d)

-- what the old marks mean, by the records that speak to the owner and no hour but the profile's: "The old marks count from hour 0."
pub record AsBefore (d : List ℕ) : Type 0 where
  pub force : (q : Query) → in_force q (records d) ≡ records_to q.owner d
  pub current : Each (λ r. counts (records d) r ≡ eqb (issue r) (issue (current (mark r) (key_of r) (records d)))) (records d)
  pub drawn : (q : Query) → IsOwner q.owner → query_answer d q ≡ answer d
  pub levels : (q : Query) → levels d q ≡ lines (parameters_to q.owner d) (amounts_to q.owner d) q.hour
  pub offers : (q : Query) → IsOwner q.owner → (c : ℕ) (o : List ℕ) → let s = parameters_to q.owner d in
      on_offer d q c o ≡ offer_verdict s c (lines s (amounts_to q.owner d) q.hour) o
  pub prices : (q : Query) → IsOwner q.owner → (v c : ℕ) (price : ℤ) → let s = parameters_to q.owner d in
      on_price d q v c price ≡ price_verdict s v c (lines s (amounts_to q.owner d) q.hour) (biased_of price)
  pub report : (q : Query) → let s = parameters_to q.owner d in
      report d q ≡ report_text (profile s q.hour) (map shown (lines s (amounts_to q.owner d) q.hour)) (retired s (profile s q.hour))

-- an accepted dossier of old marks means that, and draws 20 for no query
abbrev pub OldMarks : Type 0
OldMarks = (d : List ℕ) → IsAccepted d → Undated d → AsBefore d
