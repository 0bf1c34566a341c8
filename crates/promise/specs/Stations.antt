-- The stations and offers of the marked cases, a station on a river, an idle battery, one that charged, and R1 with dated fuel, with third-party payments and
-- with two owners, in the papers' numbers and, through the table, as bytes.
use Rattle.std.specs.Prelude.{List, [], ◌∷◌, ◌++◌, ℕ, zero, suc, ◌+◌, ◌*◌}
use Rattle.records.specs.Table.{RS, HP, FU, AD, MM, RQ, HR, CH, TH, FP, LC, AO, FV, AV}
use Rattle.records.specs.Made.{minus, made, made_from}

-- ---- "Case R1 (thermal, hour 0, profile 1, all issues 1)"

-- its records, with those of its fuel; its first adder is given
abbrev pub r1_fuelled : List (List ℕ) → ℕ → List (List ℕ)
r1_fuelled fuels adder =
    made RS 1 (1 ∷ 1000 ∷ 1000 ∷ 500000 ∷ 100000 ∷ 0 ∷ 0 ∷ 0 ∷ 0 ∷ [])  -- capacity 100.0, factor 1,000, start heat, no-load heat
    ∷ made HP 1 (1 ∷ 500 ∷ 500000 ∷ [])  -- 50.0 MW 500,000
    ∷ made HP 1 (2 ∷ 1000 ∷ 900000 ∷ [])  -- 100.0 MW 900,000
    ∷ fuels
    ++ (made AD 1 (1 ∷ 3 ∷ 1 ∷ adder ∷ [])  -- consumables, energy
    ∷ made AD 1 (1 ∷ 3 ∷ 4 ∷ 250000 ∷ [])  -- consumables, reserve
    ∷ made MM 1 (1 ∷ 1 ∷ 200000000 ∷ 1000 ∷ 25000 ∷ 100 ∷ [])  -- C, W, T, S
    ∷ [])

-- with one fuel, and emission 1,000,000
abbrev pub r1_with : ℕ → ℕ → List (List ℕ)
r1_with fuel adder = r1_fuelled (made FU 1 (1 ∷ fuel ∷ 1000000 ∷ []) ∷ []) adder

-- fuel 4,000,000 and the adder 1,500,000
abbrev pub r1 : List (List ℕ)
r1 = r1_with 4000000 1500000

-- R1 with a dearer fuel and an adder that is a cent higher
abbrev pub r1_raised : List (List ℕ)
r1_raised = r1_with 4100000 1510000

-- R1 with thresholds for condition 1 and energy: percent 50, margin 25.00, floor 0
abbrev pub r1_tested : List (List ℕ)
r1_tested = r1 ++ (made TH 1 (1 ∷ 1 ∷ 50 ∷ 2500 ∷ 0 ∷ []) ∷ [])

-- "profile 1 energy 1 0.0 100.0 42.30 start 3300.00 no-load 500.00 reserve 0.25", a line each
abbrev pub r1_five : List ℕ
r1_five =
    112 ∷ 114 ∷ 111 ∷ 102 ∷ 105 ∷ 108 ∷ 101 ∷ 32 ∷ 49 ∷ 10  -- profile 1
    ∷ 101 ∷ 110 ∷ 101 ∷ 114 ∷ 103 ∷ 121 ∷ 32 ∷ 49 ∷ 32 ∷ 48 ∷ 46 ∷ 48 ∷ 32 ∷ 49 ∷ 48 ∷ 48 ∷ 46 ∷ 48 ∷ 32 ∷ 52 ∷ 50 ∷ 46 ∷ 51 ∷ 48 ∷ 10  -- energy 1 0.0 100.0 42.30
    ∷ 115 ∷ 116 ∷ 97 ∷ 114 ∷ 116 ∷ 32 ∷ 51 ∷ 51 ∷ 48 ∷ 48 ∷ 46 ∷ 48 ∷ 48 ∷ 10  -- start 3300.00
    ∷ 110 ∷ 111 ∷ 45 ∷ 108 ∷ 111 ∷ 97 ∷ 100 ∷ 32 ∷ 53 ∷ 48 ∷ 48 ∷ 46 ∷ 48 ∷ 48 ∷ 10  -- no-load 500.00
    ∷ 114 ∷ 101 ∷ 115 ∷ 101 ∷ 114 ∷ 118 ∷ 101 ∷ 32 ∷ 48 ∷ 46 ∷ 50 ∷ 53 ∷ 10  -- reserve 0.25
    ∷ []

-- these, and a last line with a digit: "The report ends with `retired N`"
abbrev pub r1_retired : ℕ → List ℕ
r1_retired digit = r1_five ++ (114 ∷ 101 ∷ 116 ∷ 105 ∷ 114 ∷ 101 ∷ 100 ∷ 32 ∷ digit ∷ 10 ∷ [])

-- R1's report: "Report comparisons include the new line from then on, `retired 0` too."
abbrev pub r1_lines : List ℕ
r1_lines = r1_retired 48

-- ---- the battery of M5 to M9: charge 300.0, capacity 80.0, efficiency 800, window 3, fuel 750,000

-- with its records of prices and charging
abbrev pub battery_with : List (List ℕ) → List (List ℕ)
battery_with l = made RS 1 (3 ∷ 800 ∷ 0 ∷ 0 ∷ 0 ∷ 0 ∷ 3000 ∷ 800 ∷ 3 ∷ []) ∷ made FU 1 (1 ∷ 750000 ∷ 0 ∷ []) ∷ l

-- M6's hours 205.50, 106.40, 302.50; M8's charging of 1,000 kWh at 20.00 and 3,000 at -5.00
abbrev pub m6 : List (List ℕ)
m6 =
    battery_with
    (made HR 1 (1 ∷ 20550 ∷ [])
    ∷ made HR 1 (2 ∷ 10640 ∷ [])
    ∷ made HR 1 (3 ∷ 30250 ∷ [])
    ∷ made CH 1 (1 ∷ 2000 ∷ 1000 ∷ [])
    ∷ made CH 1 (2 ∷ minus 500 ∷ 3000 ∷ [])
    ∷ [])

-- M7's hours 315.20, 205.50, 106.40
abbrev pub m7 : List (List ℕ)
m7 = battery_with (made HR 1 (1 ∷ 31520 ∷ []) ∷ made HR 1 (2 ∷ 20550 ∷ []) ∷ made HR 1 (3 ∷ 10640 ∷ []) ∷ [])

-- M9: hour 3 as issue 7, and behind it as issue 6
abbrev pub m9 : List (List ℕ)
m9 =
    battery_with
    (made HR 1 (1 ∷ 20550 ∷ [])
    ∷ made HR 1 (2 ∷ 10640 ∷ [])
    ∷ made HR 7 (3 ∷ 30250 ∷ [])
    ∷ made HR 6 (3 ∷ 99999 ∷ [])
    ∷ [])

-- ---- document 02, request 1: a station on a river, capacity 50.0, window 50, consumables 0.25

-- places 1 to n of a forecast, 1.00 at place 1, 2.00 at place 2 and so on, each some cents dearer
unfoldable pub forecast : ℕ → ℕ → List (List ℕ)
forecast dearer zero = []
forecast dearer (suc n) = made FP 1 (suc n ∷ (suc n * 100 + dearer) ∷ []) ∷ forecast dearer n

-- with n places of it
abbrev pub river_with : ℕ → ℕ → List (List ℕ)
river_with dearer n =
    made RS 1 (4 ∷ 500 ∷ 0 ∷ 0 ∷ 0 ∷ 0 ∷ 0 ∷ 0 ∷ 50 ∷ []) ∷ made FU 1 (1 ∷ 0 ∷ 0 ∷ []) ∷ made AD 1 (1 ∷ 3 ∷ 1 ∷ 250000 ∷ []) ∷ forecast dearer n

-- all 50
abbrev pub river : List (List ℕ)
river = river_with 0 50

-- ---- document 02, request 2: the battery of M5 to M9, idle for a week, at hours of 1.00

-- with its last charging cost as issue 7, and behind it an older one, 90.00, as issue 6
abbrev pub idle_with : ℕ → List (List ℕ)
idle_with cost =
    battery_with
    (made HR 1 (1 ∷ 100 ∷ [])
    ∷ made HR 1 (2 ∷ 100 ∷ [])
    ∷ made HR 1 (3 ∷ 100 ∷ [])
    ∷ made LC 7 (cost ∷ [])
    ∷ made LC 6 (90000000 ∷ [])
    ∷ [])

-- M8's charging cost, 1.25
abbrev pub idle : List (List ℕ)
idle = idle_with 1250000

-- ---- document 02, request 6: the battery of M5 to M9 with M8's charging in the first and the last interval of the week, at hours of 1.00

-- interval 2,016 as issue 7, and behind it as issue 6, 500 kWh at 90.00
abbrev pub week_with : ℕ → List (List ℕ)
week_with price =
    battery_with
    (made HR 1 (1 ∷ 100 ∷ [])
    ∷ made HR 1 (2 ∷ 100 ∷ [])
    ∷ made HR 1 (3 ∷ 100 ∷ [])
    ∷ made CH 1 (1 ∷ 2000 ∷ 1000 ∷ [])
    ∷ made CH 7 (2016 ∷ price ∷ 3000 ∷ [])
    ∷ made CH 6 (2016 ∷ 9000 ∷ 500 ∷ [])
    ∷ [])

-- its price -5.00
abbrev pub week : List (List ℕ)
week = week_with (minus 500)

-- ---- document 02, request 8: R1 with fuel of a first hour, emission 1,000,000 throughout

-- fuel 6.00 from hour 100 on, as issue 2
abbrev pub dearer : List ℕ
dearer = made_from FV 2 100 (1 ∷ 6000000 ∷ 1000000 ∷ [])

-- R1 and, behind its records, that
abbrev pub r1_dearer : List (List ℕ)
r1_dearer = r1 ++ (dearer ∷ [])

-- fuel 4.00; as issue 2 it is 5.00 from hour 200 on, and as issue 3 a price from hour 100 on, which hides issue 2
abbrev pub dated_with : ℕ → List (List ℕ)
dated_with fuel =
    r1_fuelled
    (made FU 1 (1 ∷ 4000000 ∷ 1000000 ∷ [])
    ∷ made_from FV 2 200 (1 ∷ 5000000 ∷ 1000000 ∷ [])
    ∷ made_from FV 3 100 (1 ∷ fuel ∷ 1000000 ∷ [])
    ∷ [])
    1500000

-- 6.00
abbrev pub dated_fuel : List (List ℕ)
dated_fuel = dated_with 6000000

-- no fuel before hour 10, and then a price
abbrev pub late_with : ℕ → List (List ℕ)
late_with fuel = r1_fuelled (made_from FV 1 10 (1 ∷ fuel ∷ 1000000 ∷ []) ∷ []) 1500000

-- 4.00
abbrev pub late_fuel : List (List ℕ)
late_fuel = late_with 4000000

-- a battery with an emission price, which counts until a higher issue without one comes
abbrev pub unfit_until : ℕ → List (List ℕ)
unfit_until hour =
    made RS 1 (3 ∷ 800 ∷ 0 ∷ 0 ∷ 0 ∷ 0 ∷ 800 ∷ 800 ∷ 1 ∷ [])
    ∷ made FU 1 (1 ∷ 0 ∷ 1 ∷ [])
    ∷ made_from FV 2 hour (1 ∷ 0 ∷ 0 ∷ [])
    ∷ made HR 1 (1 ∷ 0 ∷ [])
    ∷ []

-- ---- document 02, request 10: R1 with third-party payments, which is cost 4

-- for energy and for start in two issues each, with amounts of energy's second and start's first; for no-load from hour 50 on; and for reserve in profile 2,
-- which is requested for hour 60
abbrev pub paid_with : ℕ → ℕ → List (List ℕ)
paid_with second first =
    r1
    ++ (made AD 2 (1 ∷ 4 ∷ 1 ∷ second ∷ [])
    ∷ made AD 1 (1 ∷ 4 ∷ 1 ∷ 7000000 ∷ [])
    ∷ made AD 1 (1 ∷ 4 ∷ 2 ∷ first ∷ [])
    ∷ made_from AV 2 0 (1 ∷ 4 ∷ 2 ∷ 9000000 ∷ [])
    ∷ made_from AV 1 50 (1 ∷ 4 ∷ 3 ∷ 8000000 ∷ [])
    ∷ made AD 1 (2 ∷ 4 ∷ 4 ∷ 6000000 ∷ [])
    ∷ made FU 1 (2 ∷ 4000000 ∷ 1000000 ∷ [])
    ∷ made RQ 1 (1 ∷ 60 ∷ 60 ∷ 2 ∷ [])
    ∷ [])

-- 5.00 and 3.00
abbrev pub paid : List (List ℕ)
paid = paid_with 5000000 3000000

-- ---- document 02, request 12: R1 with two owners

-- consumables for energy with an amount of each owner, of owner 2 as issue 7 and behind it an older one, 9.00, as issue 6; and a third-party payment of owner
-- 2, for energy
abbrev pub shared_with : ℕ → ℕ → ℕ → List (List ℕ)
shared_with first second payment =
    r1
    ++ (made AO 1 (1 ∷ 1 ∷ 3 ∷ 1 ∷ first ∷ [])
    ∷ made AO 7 (2 ∷ 1 ∷ 3 ∷ 1 ∷ second ∷ [])
    ∷ made AO 6 (2 ∷ 1 ∷ 3 ∷ 1 ∷ 9000000 ∷ [])
    ∷ made AO 1 (2 ∷ 1 ∷ 4 ∷ 1 ∷ payment ∷ [])
    ∷ [])

-- 0.10, 0.70 and 5.00
abbrev pub shared : List (List ℕ)
shared = shared_with 100000 700000 5000000
