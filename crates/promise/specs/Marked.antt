-- "Marked values" M1 to M9 as one list: what the definitions give, and what the paper marks.
use Rattle.std.specs.Prelude.{◌≡◌, Bool, cond, List, [], ◌∷◌, ◌++◌, ℕ, ◌+◌}
use Rattle.lists.specs.Lists.{Each, joined}
use Rattle.fields.specs.Numbers.{bias}
use Rattle.records.specs.Answers.{number_of}
use Rattle.records.specs.Made.{pair}
use Rattle.records.specs.Dossier.{records}
use Rattle.station.specs.InForce.{Query, query}
use Rattle.station.specs.Parameters.{Parameters, Amounts, parameters, amounts, hour_price}
use Rattle.rules.specs.Curve.{full_hours}
use Rattle.rules.specs.Answer.{answer}
use Rattle.formulas.specs.Exact.{Sum, micro_dollars, cents}
use Rattle.formulas.specs.Levels.{charging_cost, short_run_cost, opportunity_cost}
use Rattle.verdicts.specs.Test.{fails}
use Rattle.verdicts.specs.Verdict.{numbers, on_offer}
use Rattle.layout.specs.Report.{report, prints}
use Rattle.promise.specs.Stations.{r1, r1_tested, r1_lines, m6, m7, m9}

-- what the definitions give, and what the paper marks
pub record Case : Type 0 where
  pub found : List ℕ
  pub wanted : List ℕ

-- the two side by side
abbrev pub case : List ℕ → List ℕ → Case
case a b = record { found = a; wanted = b }

-- 1 for yes
abbrev pub yes : Bool → List ℕ
yes b = cond b 1 0 ∷ []

-- a sum of a station's, in cents
abbrev pub in_cents : (Parameters → Amounts → Sum) → List (List ℕ) → List ℕ
in_cents f l = let r = records (joined l) in cents (micro_dollars (f (parameters r) (amounts r))) ∷ []

-- hour 0, and of the owners, whom the cases don't know, the one that "the program names"
abbrev pub asked : Query
asked = query 0 1

-- M1 to M9. "M1 R1's five lines. M2 sums 42,304,999 and 42,305,000 give 42.30 and 42.31. M3 level 42.30, percent 50, margin 25.00, floor 0: 63.45 passes,
-- 63.46 fails. M4 level 10.00, same, floor 25.00: 24.99 passes, 25.00 fails. M5 charge 300.0, capacity 80.0: X is 3. M6 205.50, 106.40, 302.50 give 204.80
-- (002). M7 315.20, 205.50, 106.40 give 209.03 (002). M8 charging 1,000 kWh at 20.00 and 3,000 at -5.00: 1.25; with fuel 750,000 and efficiency 800, 2.50. M9
-- issue 7 before issue 6: 7 counts." Document 02 adds a sixth line to M1, `retired 0`.
unfoldable pub marked : List Case
marked =
    case (report (joined r1) asked) r1_lines  -- M1
    ∷ case (prints (0 ∷ 0 ∷ 0 ∷ 0 ∷ joined r1)) r1_lines  --    as the program prints it
    ∷ case (cents 42304999 ∷ cents 42305000 ∷ []) (4230 ∷ 4231 ∷ [])  -- M2
    ∷ case (numbers (on_offer (joined r1_tested) asked 1 (pair 500 6345 ++ pair 1000 6345))) (0 ∷ [])  -- M3 level 42.30: 63.45 passes
    ∷ case (numbers (on_offer (joined r1_tested) asked 1 (pair 500 6345 ++ pair 1000 6346))) (1 ∷ 2 ∷ 1 ∷ [])  --    63.46 fails, here in pair 2
    ∷ case (yes (fails 1000 50 2500 2500 (bias + 2499))) (0 ∷ [])  -- M4 level 10.00, floor 25.00: 24.99 passes
    ∷ case (yes (fails 1000 50 2500 2500 (bias + 2500))) (1 ∷ [])  --    25.00 fails
    ∷ case (full_hours (parameters (records (joined m6))) ∷ []) (3 ∷ [])  -- M5
    ∷ case (in_cents opportunity_cost m6) (20480 ∷ [])  -- M6
    ∷ case (in_cents opportunity_cost m7) (20903 ∷ [])  -- M7
    ∷ case (in_cents charging_cost m6) (125 ∷ [])  -- M8
    ∷ case (in_cents (λ s m. short_run_cost s m 1) m6) (250 ∷ [])  --    with fuel and efficiency
    ∷ case (hour_price (amounts (records (joined m9))) 3 ∷ []) ((bias + 30250) ∷ [])  -- M9
    ∷ case (number_of (answer (joined m6)) ∷ number_of (answer (joined m7)) ∷ number_of (answer (joined m9)) ∷ []) (0 ∷ 0 ∷ 0 ∷ [])  --    all accepted
    ∷ []

-- "The marked cases form a list shown true in one proof over the formulas": each is what the paper marks
abbrev pub MarkedHold : Type 0
MarkedHold = Each (λ c. c.found ≡ c.wanted) marked
