-- Document 002's rule for a battery that didn't charge, week after week. The law `memo-always` says that LC carries it.
use Rattle.std.specs.Prelude.{◌≡◌, cond, List, [], ◌∷◌, ℕ, ◌*◌, eqb}
use Rattle.station.specs.Parameters.{Parameters, Amounts, last_cost}
use Rattle.formulas.specs.Exact.{quotient, micro_dollars}
use Rattle.formulas.specs.Levels.{total_energy, charging_sum, charging_cost}

-- what a battery's current records say in a week
pub record Week : Type 0 where
  pub parameters : Parameters
  pub amounts : Amounts

-- Equation 3: prices times power, added up, over the power scheduled in "the rolling seven-day period"; 0 if below 0, as document 01 has it
unfoldable pub calculated : Week → ℕ
calculated w = quotient (charging_sum w.parameters w.amounts * 10000) (total_energy w.parameters)

-- "the last non-zero value for the Charging Commodity Cost calculated", of weeks from the latest back; 0 where there is none
unfoldable pub last_non_zero : List Week → ℕ
last_non_zero [] = 0
last_non_zero (w ∷ l) = cond (eqb (calculated w) 0) (last_non_zero l) (calculated w)

-- "If no charging has been conducted during the previous seven-day period, the IESO uses the last non-zero value": of a week, and those before it. "Document
-- 002 carries the last non-zero charging cost over a week without charging"
unfoldable pub memo_cost : Week → List Week → ℕ
memo_cost w before = cond (eqb (total_energy w.parameters) 0) (last_non_zero before) (calculated w)

-- ---- what LC carries from week to week

-- the charging cost of a week in whole micro-dollars
abbrev pub cost_of : Week → ℕ
cost_of w = micro_dollars (charging_cost w.parameters w.amounts)

-- the LC to send after some weeks: the latest one's charging cost, or where that is 0 its LC; none before the first
unfoldable pub to_send : List Week → ℕ
to_send [] = 0
to_send (w ∷ l) = cond (eqb (cost_of w) 0) (last_cost w.amounts) (cost_of w)

-- each of some weeks has the LC that those before it leave to send, as "A battery idle for a week compares with the memo from then on" wants
pub data Sent : List Week → Type 0 where
  first : Sent []
  next : {w : Week} {l : List Week} → last_cost w.amounts ≡ to_send l → Sent l → Sent (w ∷ l)
