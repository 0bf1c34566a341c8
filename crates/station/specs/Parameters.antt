-- What the current records say: the parameters, which hold no money, and the money amounts. A raise changes the second alone.
use Rattle.std.specs.Prelude.{Bool, cond, List, ℕ, ◌+◌, ◌*◌, ◌≤◌}
use Rattle.records.specs.Table.{field_of, RS, HP, FU, AD, MM, RQ, HR, CH, TH, FP, LC, AO}
use Rattle.records.specs.Record.{is_money, told}
use Rattle.station.specs.Current.{current, present}

-- by kind and key: whether there is a current record, and what its fields say, money left out
pub record Parameters : Type 0 where
  pub has : ℕ → ℕ → Bool
  pub says : ℕ → ℕ → ℕ → ℕ

-- by kind, key and field: the money amounts of the current records, prices plus 2^31
pub record Amounts : Type 0 where
  pub of : ℕ → ℕ → ℕ → ℕ

-- the parameters of some records; of a record that is not there every field is 0
unfoldable pub parameters : List (List ℕ) → Parameters
parameters l =
    record {
      has = λ k n. present (current k n l);
      says = λ k n i. cond (is_money (field_of k i).role) 0 (told k i (current k n l));
    }

-- their money amounts; of a record that is not there every amount is 0, a price 0 cents
unfoldable pub amounts : List (List ℕ) → Amounts
amounts l = record { of = λ k n i. cond (is_money (field_of k i).role) (told k i (current k n l)) 0 }

-- no amount is lower
abbrev pub Higher : Amounts → Amounts → Type 0
Higher a b = (k n i : ℕ) → a.of k n i ≤ b.of k n i

-- The fields by the paper's names, in the table's order; the last number is a field's place in its row.

-- ---- RS

-- "technology (1): 1 thermal, 2 nuclear, 3 storage", 4 hydroelectric
abbrev pub technology : Parameters → ℕ
technology s = s.says RS 0 0

-- "capacity (2), 0.1 MW"
abbrev pub capacity : Parameters → ℕ
capacity s = s.says RS 0 1

-- "performance factor (2), thousandths"
abbrev pub factor : Parameters → ℕ
factor s = s.says RS 0 2

-- "start heat (4), MJ per start"
abbrev pub start_heat : Parameters → ℕ
start_heat s = s.says RS 0 3

-- "no-load heat (4), MJ per hour"
abbrev pub no_load_heat : Parameters → ℕ
no_load_heat s = s.says RS 0 4

-- "incremental fuel (4), mg of uranium per MWh"
abbrev pub incremental_fuel : Parameters → ℕ
incremental_fuel s = s.says RS 0 5

-- "state of charge (4), 0.1 MWh"
abbrev pub charge : Parameters → ℕ
charge s = s.says RS 0 6

-- "charging efficiency (2), thousandths"
abbrev pub efficiency : Parameters → ℕ
efficiency s = s.says RS 0 7

-- "window (2), hours", or places of the forecast
abbrev pub window : Parameters → ℕ
window s = s.says RS 0 8

-- ---- HP, by point

-- "output (2), 0.1 MW"
abbrev pub output : Parameters → ℕ → ℕ
output s i = s.says HP i 1

-- "heat (4), MJ/h"
abbrev pub heat : Parameters → ℕ → ℕ
heat s i = s.says HP i 2

-- ---- FU, by profile

-- micro-dollars. "Fuel is per GJ (thermal), per kg of uranium (nuclear) or, for storage, the non-commodity charging cost per MWh."
abbrev pub fuel : Amounts → ℕ → ℕ
fuel m p = m.of FU p 1

-- micro-dollars. "Emission is per GJ."
abbrev pub emission : Amounts → ℕ → ℕ
emission m p = m.of FU p 2

-- ---- AD, by profile, cost and level

-- "key profile (1), cost (1)" and level
abbrev pub adder_key : ℕ → ℕ → ℕ → ℕ
adder_key p c v = p * 65536 + c * 256 + v

-- "amount (8), micro-dollars"
abbrev pub adder : Amounts → ℕ → ℕ → ℕ → ℕ
adder m p c v = m.of AD (adder_key p c v) 3

-- ---- MM, by profile and item

-- "key profile (1), item 1 to 8 (1)"
abbrev pub item_key : ℕ → ℕ → ℕ
item_key p j = p * 256 + j

-- "cost C (8), cents"
abbrev pub cost_c : Amounts → ℕ → ℕ → ℕ
cost_c m p j = m.of MM (item_key p j) 2

-- "output W (2), 0.1 MW"
abbrev pub output_w : Parameters → ℕ → ℕ → ℕ
output_w s p j = s.says MM (item_key p j) 3

-- "interval T (4), hours"
abbrev pub interval_t : Parameters → ℕ → ℕ → ℕ
interval_t s p j = s.says MM (item_key p j) 4

-- "hours per start S (2), 0.1 h"
abbrev pub hours_per_start_s : Parameters → ℕ → ℕ → ℕ
hours_per_start_s s p j = s.says MM (item_key p j) 5

-- ---- RQ, by request

-- "first and last hour (4 each, first not after last)"
abbrev pub first_hour : Parameters → ℕ → ℕ
first_hour s n = s.says RQ n 1

-- "first and last hour (4 each, first not after last)"
abbrev pub last_hour : Parameters → ℕ → ℕ
last_hour s n = s.says RQ n 2

-- "profile (1), 0 meaning withdrawn"
abbrev pub requested : Parameters → ℕ → ℕ
requested s n = s.says RQ n 3

-- ---- HR, by hour of the window

-- "key hour 1 to 168 (1); price s", cents per MWh plus 2^31
abbrev pub hour_price : Amounts → ℕ → ℕ
hour_price m n = m.of HR n 1

-- ---- CH, by interval

-- "key interval 1 to 2,016 (2); price s", cents per MWh plus 2^31
abbrev pub charge_price : Amounts → ℕ → ℕ
charge_price m n = m.of CH n 1

-- "energy (4), kWh"
abbrev pub charge_energy : Parameters → ℕ → ℕ
charge_energy s n = s.says CH n 2

-- ---- TH, by condition and level

-- "key condition 1 to 3 (1): narrow, broad, global, and level 1 to 4 (1)"
abbrev pub threshold_key : ℕ → ℕ → ℕ
threshold_key c v = c * 256 + v

-- "percent (2)"
abbrev pub percent : Parameters → ℕ → ℕ → ℕ
percent s c v = s.says TH (threshold_key c v) 2

-- "margin (4), cents, 4,294,967,295 meaning none"
abbrev pub margin : Parameters → ℕ → ℕ → ℕ
margin s c v = s.says TH (threshold_key c v) 3

-- "floor (4), cents"
abbrev pub floor : Parameters → ℕ → ℕ → ℕ
floor s c v = s.says TH (threshold_key c v) 4

-- ---- FP, by place of the forecast

-- "place (2) 1 to 4,000 as key, price as elsewhere", cents per MWh plus 2^31
abbrev pub place_price : Amounts → ℕ → ℕ
place_price m n = m.of FP n 1

-- ---- LC

-- "holds that cost (4) in micro-dollars", per MWh
abbrev pub last_cost : Amounts → ℕ
last_cost m = m.of LC 0 0

-- ---- AO, by owner, profile, cost and level

-- "AD with an owner byte, 1 or 2, first in its key"
abbrev pub own_key : ℕ → ℕ → ℕ → ℕ → ℕ
own_key o p c v = o * 16777216 + adder_key p c v

-- micro-dollars, as AD's amount
abbrev pub own_adder : Amounts → ℕ → ℕ → ℕ → ℕ → ℕ
own_adder m o p c v = m.of AO (own_key o p c v) 4
