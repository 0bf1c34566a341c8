-- Worked values of the formulas, in micro-dollars before they round to cents: the paper's case R1 and its storage cases, a nuclear case, an idle battery, a
-- forecast, terms with a fraction.
use mathlib.Core.Path.{◌≡◌, refl}
use mathlib.Core.Bool.{cond, ◌&&◌, not}
use mathlib.Core.List.{List, [], ◌∷◌}
use Prim.Native.Nat.{ℕ, ◌+◌, ◌-◌}
use lib.Dec.{eqb, ltb}
use Rattle.records.specs.Table.{RS, HP, FU, AD, MM, HR, CH, FP, LC}
use Rattle.station.specs.Parameters.{Parameters, Amounts, adder_key, item_key}
use Rattle.formulas.specs.Sums.{sum_highest, from_top}
use Rattle.formulas.specs.Exact.{quotient, micro_dollars, cents}
use Rattle.formulas.specs.Levels.{adders, thermal_energy, start_cost, no_load_cost, nuclear_energy, charging_cost, short_run_cost, opportunity_cost}
use Rattle.formulas.specs.Levels.{storage_energy, hydro_energy}
use Rattle.formulas.proofs.Computed.{computed}

-- a half goes up, as of half a cent (M2), less than a half down, and nothing is divided by 0
pub half_up : (quotient 5 2 ≡ 3) × (quotient 7 5 ≡ 1) × (quotient 8 5 ≡ 2) × (quotient 8 0 ≡ 0) × (cents 42304999 ≡ 4230) × (cents 42305000 ≡ 4231)
unfolding quotient cents
half_up = (refl, refl, refl, refl, refl, refl)

-- what a field of a current record says
pub record Entry : Type 0 where
  pub mark : ℕ
  pub key : ℕ
  pub field : ℕ
  pub value : ℕ

abbrev pub says : ℕ → ℕ → ℕ → ℕ → Entry
says k n i x = record { mark = k; key = n; field = i; value = x }

-- a price in cents, held plus 2^31
abbrev pub price : ℕ → ℕ
price x = 2147483648 + x

-- a price below 0
abbrev pub owed : ℕ → ℕ
owed x = 2147483648 - x

-- the fields of some entries; 0 where none says it
unfoldable pub find : List Entry → ℕ → ℕ → ℕ → ℕ
find [] k n i = 0
find (x ∷ l) k n i = cond (eqb x.mark k && eqb x.key n && eqb x.field i) x.value (find l k n i)

-- the same where no battery charges in intervals 3 to 2,015, so that they are soon told
abbrev pub told : List Entry → ℕ → ℕ → ℕ → ℕ
told l k n i = cond (eqb k CH && ltb 2 n && ltb n 2016) 0 (find l k n i)

abbrev pub as_parameters : List Entry → Parameters
as_parameters l = record { has = λ k n. not (eqb (told l k n 0) 0); says = told l }

abbrev pub as_amounts : List Entry → Amounts
as_amounts l = record { of = told l }

-- case R1
abbrev pub r1 : List Entry
r1 =
    says RS 0 2 1000 ∷ says RS 0 3 500000 ∷ says RS 0 4 100000
    ∷ says HP 1 1 500 ∷ says HP 1 2 500000 ∷ says HP 2 1 1000 ∷ says HP 2 2 900000
    ∷ says FU 1 1 4000000 ∷ says FU 1 2 1000000
    ∷ says AD (adder_key 1 3 1) 3 1500000 ∷ says AD (adder_key 1 3 4) 3 250000
    ∷ says MM (item_key 1 1) 2 200000000 ∷ says MM (item_key 1 1) 3 1000 ∷ says MM (item_key 1 1) 4 25000 ∷ says MM (item_key 1 1) 5 100
    ∷ []

-- 400,000 MJ over 50.0 MW: fuel 32.00, emission 8.00; consumables 1.50; maintenance 0.80
r1-energy : micro_dollars (thermal_energy (as_parameters r1) (as_amounts r1) 1 1) ≡ 42300000
unfolding find computed
r1-energy = refl

-- fuel and emission a micro-dollar dearer: no term rounds to cents by itself
dearer : micro_dollars (thermal_energy (as_parameters r1) (as_amounts (says FU 1 1 4000001 ∷ says FU 1 2 1000001 ∷ r1)) 1 1) ≡ 42300016
unfolding find computed
dearer = refl

-- fuel 2,000.00, emission 500.00, maintenance 800.00
r1-start : micro_dollars (start_cost (as_parameters r1) (as_amounts r1) 1) ≡ 3300000000
unfolding find computed
r1-start = refl

-- fuel 400.00, emission 100.00
r1-no-load : micro_dollars (no_load_cost (as_parameters r1) (as_amounts r1) 1) ≡ 500000000
unfolding find computed
r1-no-load = refl

r1-reserve : micro_dollars (adders (as_amounts r1) 1 4) ≡ 250000
unfolding find computed
r1-reserve = refl

-- 20,000 mg at 100.00 per kg and factor 1.5: 3.00; prorated start-up 0.25
unfoldable pub nuclear : List Entry
nuclear = says RS 0 2 1500 ∷ says RS 0 5 20000 ∷ says FU 1 1 100000000 ∷ says AD (adder_key 1 5 1) 3 250000 ∷ []

nuclear-sum : micro_dollars (nuclear_energy (as_parameters nuclear) (as_amounts nuclear) 1) ≡ 3250000
unfolding nuclear find computed
nuclear-sum = refl

-- fuel 0.00005 dearer: 3,000,001.5 go up
nuclear-half : micro_dollars (nuclear_energy (as_parameters nuclear) (as_amounts (says FU 1 1 100000050 ∷ nuclear)) 1) ≡ 3250002
unfolding nuclear find computed
nuclear-half = refl

-- 1,000 kWh at 20.00 and 3,000 at -5.00, fuel 750,000, efficiency 800 (M8); three hours of 205.50, 106.40 and 302.50 (M6)
unfoldable pub storage : List Entry
storage =
    says RS 0 1 800 ∷ says RS 0 6 3000 ∷ says RS 0 7 800 ∷ says RS 0 8 3
    ∷ says FU 1 1 750000
    ∷ says CH 1 1 (price 2000) ∷ says CH 1 2 1000 ∷ says CH 2 1 (owed 500) ∷ says CH 2 2 3000
    ∷ says HR 1 1 (price 20550) ∷ says HR 2 1 (price 10640) ∷ says HR 3 1 (price 30250)
    ∷ []

charging : micro_dollars (charging_cost (as_parameters storage) (as_amounts storage)) ≡ 1250000
unfolding storage find computed
charging = refl

short-run : micro_dollars (short_run_cost (as_parameters storage) (as_amounts storage) 1) ≡ 2500000
unfolding storage find computed
short-run = refl

-- 4,000 kWh at 0.00 in the last of the 2,016 intervals: half of it
last-interval : micro_dollars (charging_cost (as_parameters (says CH 2016 2 4000 ∷ storage)) (as_amounts (says CH 2016 1 (price 0) ∷ storage))) ≡ 625000
unfolding storage find computed
last-interval = refl

-- and at 10.00: 5,000,000 + 40,000,000 over 8,000 kWh
last-price : micro_dollars (charging_cost (as_parameters (says CH 2016 2 4000 ∷ storage)) (as_amounts (says CH 2016 1 (price 1000) ∷ storage))) ≡ 5625000
unfolding storage find computed
last-price = refl

-- a battery that didn't charge: energies of 0, fuel 750,000, efficiency 800, and an LC of 2.00
unfoldable pub idle : List Entry
idle = says CH 1 2 0 ∷ says CH 2 2 0 ∷ says LC 0 0 2000000 ∷ storage

idle-charging : micro_dollars (charging_cost (as_parameters idle) (as_amounts idle)) ≡ 2000000
unfolding idle storage find computed
idle-charging = refl

-- it joins before fuel is added and the efficiency step: (2,000,000 + 750,000) × 1,000 / 800
idle-short-run : micro_dollars (short_run_cost (as_parameters idle) (as_amounts idle) 1) ≡ 3437500
unfolding idle storage find computed
idle-short-run = refl

-- without LC the cost stays 0
idle-without : micro_dollars (charging_cost (as_parameters idle) (as_amounts storage)) ≡ 0
unfolding idle storage find computed
idle-without = refl

-- where energy was charged, LC is not used, even where the cost of charging is 0
charged-with-last : micro_dollars (charging_cost (as_parameters storage) (as_amounts (says LC 0 0 2000000 ∷ storage))) ≡ 1250000
unfolding storage find computed
charged-with-last = refl

charged-for-nothing : micro_dollars (charging_cost (as_parameters storage) (as_amounts (says LC 0 0 2000000 ∷ says CH 1 1 (owed 2000) ∷ storage))) ≡ 0
unfolding storage find computed
charged-for-nothing = refl

opportunity : micro_dollars (opportunity_cost (as_parameters storage) (as_amounts storage)) ≡ 204800000
unfolding storage find computed
opportunity = refl

-- a window of four whose second hour is the lowest, which doesn't count; nor does an hour behind the window
unfoldable pub longer : List Entry
longer = says RS 0 8 4 ∷ says HR 2 1 (owed 500) ∷ says HR 4 1 (price 10640) ∷ says HR 5 1 (price 99999) ∷ storage

longer-opportunity : micro_dollars (opportunity_cost (as_parameters longer) (as_amounts longer)) ≡ 204800000
unfolding longer storage find computed
longer-opportunity = refl

-- "their sum, 0 if below 0"
owed-opportunity : micro_dollars (opportunity_cost (as_parameters storage) (as_amounts (says HR 1 1 (owed 50000) ∷ storage))) ≡ 0
unfolding storage find computed
owed-opportunity = refl

-- the greater of the two
storage-sum : micro_dollars (storage_energy (as_parameters storage) (as_amounts storage) 1) ≡ 204800000
unfolding storage find computed
storage-sum = refl

-- equal prices count each: the two highest of 10.00, 30.00, 30.00 and -5.00
equal-prices : sum_highest 2 (price 1000 ∷ price 3000 ∷ price 3000 ∷ owed 500 ∷ []) ≡ price 3000 + price 3000
unfolding computed
equal-prices = refl

-- and at each place from the top
places : (from_top 1 (5 ∷ 9 ∷ 9 ∷ 1 ∷ []) ≡ 9) × (from_top 2 (5 ∷ 9 ∷ 9 ∷ 1 ∷ []) ≡ 9) × (from_top 3 (5 ∷ 9 ∷ 9 ∷ 1 ∷ []) ≡ 5)
    × (from_top 4 (5 ∷ 9 ∷ 9 ∷ 1 ∷ []) ≡ 1)
unfolding computed
places = (refl, refl, refl, refl)

-- a window of 149, so place 2 from the top of 30.00, 35.00 and, at the window's end, 40.00; consumables 0.25
unfoldable pub hydro : List Entry
hydro =
    says RS 0 8 149 ∷ says FP 3 1 (price 3000) ∷ says FP 7 1 (price 3500) ∷ says FP 149 1 (price 4000) ∷ says FP 150 1 (price 99999) ∷ says AD
    (adder_key 1 3 1) 3 250000 ∷ []

hydro-sum : micro_dollars (hydro_energy (as_parameters hydro) (as_amounts hydro) 1) ≡ 35250000
unfolding hydro find computed
hydro-sum = refl

-- place 3 of 40.00 twice and 30.00: each counts
hydro-equal : micro_dollars (hydro_energy (as_parameters (says RS 0 8 150 ∷ hydro))
    (as_amounts (says FP 7 1 (price 4000) ∷ says FP 150 1 (price 0) ∷ hydro)) 1) ≡ 30250000
unfolding hydro find computed
hydro-equal = refl

-- a price below 0 counts as 0
hydro-owed : micro_dollars (hydro_energy (as_parameters hydro) (as_amounts (says FP 3 1 (owed 100) ∷ says FP 7 1 (owed 500) ∷ hydro)) 1) ≡ 250000
unfolding hydro find computed
hydro-owed = refl

-- ---- terms with a fraction

-- a unit whose every term is half a micro-dollar: a rise of 1 MJ/h over 0.2 MW, heats of 5 MJ, fuel and emission 100, two items at a cent
unfoldable pub halves : List Entry
halves =
    says RS 0 2 1000 ∷ says RS 0 3 5 ∷ says RS 0 4 5 ∷ says HP 2 1 2 ∷ says HP 2 2 1 ∷ says FU 1 1 100 ∷ says FU 1 2 100
    ∷ says MM (item_key 1 1) 2 1 ∷ says MM (item_key 1 1) 3 2 ∷ says MM (item_key 1 1) 4 100000 ∷ says MM (item_key 1 1) 5 50
    ∷ says MM (item_key 1 2) 2 1 ∷ says MM (item_key 1 2) 3 2 ∷ says MM (item_key 1 2) 4 100000 ∷ says MM (item_key 1 2) 5 50
    ∷ []

-- fuel, emission and both items go up, each by itself
halves-energy : micro_dollars (thermal_energy (as_parameters halves) (as_amounts halves) 1 1) ≡ 4
unfolding halves find computed
halves-energy = refl

halves-start : micro_dollars (start_cost (as_parameters halves) (as_amounts halves) 1) ≡ 4
unfolding halves find computed
halves-start = refl

halves-no-load : micro_dollars (no_load_cost (as_parameters halves) (as_amounts halves) 1) ≡ 2
unfolding halves find computed
halves-no-load = refl

-- fuel and emission at 99 are less than a half, and go down
less-than-halves : micro_dollars (thermal_energy (as_parameters halves) (as_amounts (says FU 1 1 99 ∷ says FU 1 2 99 ∷ halves)) 1 1) ≡ 2
unfolding halves find computed
less-than-halves = refl

-- a battery whose terms have thirds and quarters: 1 kWh at 20.00 and 2 kWh at 20.01; three hours of 315.20, 205.50 and 106.41
unfoldable pub thirds : List Entry
thirds =
    says CH 1 1 (price 2000) ∷ says CH 1 2 1 ∷ says CH 2 1 (price 2001) ∷ says CH 2 2 2
    ∷ says HR 1 1 (price 31520) ∷ says HR 2 1 (price 20550) ∷ says HR 3 1 (price 10641)
    ∷ storage

-- 60,020,000 / 3 is 20,006,667; (20,006,667 + 750,000) × 1,000 / 800 = 25,945,833.75
short-run-quarters : micro_dollars (short_run_cost (as_parameters thirds) (as_amounts thirds) 1) ≡ 25945834
unfolding thirds storage find computed
short-run-quarters = refl

-- 627,110,000 / 3
opportunity-thirds : micro_dollars (opportunity_cost (as_parameters thirds) (as_amounts thirds)) ≡ 209036667
unfolding thirds storage find computed
opportunity-thirds = refl
