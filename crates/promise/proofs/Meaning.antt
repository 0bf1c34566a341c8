-- Two accepted dossiers whose records in force say the same mean the same: all that is said of a query is said of the parameters and the levels, and the week
-- of the prices and energies of charging. Equal amounts give the levels, but they are not all that gives them.
use Rattle.records.specs.Record.{datable}
use mathlib.Core.Path.{◌≡◌, refl, ap, sym, ◌∙◌}
use mathlib.Core.List.{List}
use Prim.Native.Nat.{ℕ}
use lib.ListN.{length}
use Rattle.lists.specs.Sums.{up_to}
use Rattle.lists.specs.Tests.{among}
use Rattle.fields.specs.Numbers.{unbiased}
use Rattle.records.specs.Table.{table, CH}
use Rattle.records.specs.Dossier.{records}
use Rattle.station.specs.InForce.{Query, query}
use Rattle.station.specs.Parameters.{charge_price, charge_energy}
use Rattle.station.specs.Week.{intervals, week_price, week_energy, week_prices, week_energies}
use Rattle.station.proofs.Parameters.{says-always, of-always}
use Rattle.station.proofs.Week.{price-told, energy-of-week}
use Rattle.rules.specs.Answer.{IsAccepted}
use Rattle.rules.specs.Week.{week_answer, prices_after, energies_after}
use Rattle.rules.proofs.Week.{accepted-readable}
use Rattle.formulas.specs.Levels.{parameters_in, amounts_in, parameters_at, amounts_at, fuelled, query_answer, levels}
use Rattle.formulas.proofs.Hours.{hour-same}
use Rattle.verdicts.specs.Verdict.{on_offer, on_price}
use Rattle.layout.specs.Report.{report, report_answer, buffer_after}
use Rattle.promise.specs.Order.{SameFor, SameAt, SameMeaning}

-- ---- for a query each

module _ (d e : List ℕ) (q p : Query) (drawn-same : query_answer d q ≡ query_answer e p) (hours : q.hour ≡ p.hour)
    (parameters-same : parameters_at d q ≡ parameters_at e p) (levels-same : levels d q ≡ levels e p) where
  same-report : report d q ≡ report e p
  unfolding report
  same-report = rw (parameters-same, levels-same, hours) refl

  same-reported : (n : ℕ) → report_answer d q n ≡ report_answer e p n
  unfolding report_answer
  same-reported n = rw (drawn-same, same-report) refl

  pub same-for : SameFor d e q p
  unfolding on_offer on_price buffer_after
  same-for =
      record {
        drawn = drawn-same;
        levels = levels-same;
        offers = λ c o. rw (drawn-same, parameters-same, levels-same) refl;
        prices = λ v c price. rw (drawn-same, parameters-same, levels-same) refl;
        report = same-report;
        answer = same-reported;
        told = λ n. rw (same-reported n, same-report) refl;
        buffer = λ buf. rw (same-reported (length buf), same-report) refl;
      }

-- ---- for one query

-- two accepted dossiers draw the same where they say the same
same-by-levels : {d e : List ℕ} → IsAccepted d → IsAccepted e → (q : Query) → parameters_at d q ≡ parameters_at e q → levels d q ≡ levels e q → SameAt d e q
same-by-levels {d} {e} a b q p l = same-for d e q q (hour-same d q e (a.clean ∙ sym b.clean) (ap (λ s. fuelled s q.hour) p)) refl p l

-- the levels are those of the parameters and the amounts
by-amounts : (d e : List ℕ) (q : Query) → parameters_at d q ≡ parameters_at e q → amounts_at d q ≡ amounts_at e q → levels d q ≡ levels e q
unfolding levels
by-amounts d e q p m = rw (p, m) refl

pub same_at : {d e : List ℕ} → IsAccepted d → IsAccepted e → (q : Query) → parameters_at d q ≡ parameters_at e q → amounts_at d q ≡ amounts_at e q → SameAt d e q
same_at {d} {e} a b q p m = same-by-levels a b q p (by-amounts d e q p m)

-- ---- for every query

-- one of them, where any will do
abbrev any : Query
any = query 0 1

module _ {d e : List ℕ} (a : IsAccepted d) (b : IsAccepted e) (parameters-same : (q : Query) → parameters_at d q ≡ parameters_at e q)
    (levels-same : (q : Query) → levels d q ≡ levels e q) (charges-same : (n : ℕ) → charge_price (amounts_in d) n ≡ charge_price (amounts_in e) n) where
  -- every query sees the same CH
  same-charged : (n : ℕ) → charge_energy (parameters_in d) n ≡ charge_energy (parameters_in e) n
  unfolding datable among table
  same-charged n = sym (says-always any CH refl (records d) n 2) ∙ ap (λ s. charge_energy s n) (parameters-same any) ∙ says-always any CH refl (records e) n 2

  same-price : (n : ℕ) → week_price d n ≡ week_price e n
  same-price n = price-told d (accepted-readable a) n ∙ ap unbiased (charges-same n) ∙ sym (price-told e (accepted-readable b) n)

  same-energy : (n : ℕ) → week_energy d n ≡ week_energy e n
  same-energy n = sym (energy-of-week d (accepted-readable a) n) ∙ same-charged n ∙ energy-of-week e (accepted-readable b) n

  same-prices : week_prices d ≡ week_prices e
  unfolding week_prices
  same-prices = λ i. up_to intervals (λ n. same-price n i)

  same-energies : week_energies d ≡ week_energies e
  unfolding week_energies
  same-energies = λ i. up_to intervals (λ n. same-energy n i)

  same-week : (n m : ℕ) → week_answer d n m ≡ week_answer e n m
  unfolding week_answer
  same-week n m = rw (a.clean, b.clean) refl

  pub meaning-by-levels : SameMeaning d e
  unfolding prices_after energies_after
  meaning-by-levels =
      record {
        accepted = b;
        queries = λ q. same-by-levels a b q (parameters-same q) (levels-same q);
        week-prices = same-prices;
        week-energies = same-energies;
        week-answer = same-week;
        prices-after = λ ps es. rw (same-week (length ps) (length es), same-prices) refl;
        energies-after = λ ps es. rw (same-week (length ps) (length es), same-energies) refl;
      }

module _ {d e : List ℕ} (a : IsAccepted d) (b : IsAccepted e) (parameters-same : (q : Query) → parameters_at d q ≡ parameters_at e q)
    (amounts-same : (q : Query) → amounts_at d q ≡ amounts_at e q) where
  same-charge : (n : ℕ) → charge_price (amounts_in d) n ≡ charge_price (amounts_in e) n
  unfolding datable among table
  same-charge n = sym (of-always any CH refl (records d) n 1) ∙ ap (λ m. charge_price m n) (amounts-same any) ∙ of-always any CH refl (records e) n 1

  pub same-meaning : SameMeaning d e
  same-meaning = meaning-by-levels a b parameters-same (λ q. by-amounts d e q (parameters-same q) (amounts-same q)) same-charge
