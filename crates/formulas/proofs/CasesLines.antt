-- Worked profiles, all the lines of a station of each technology, and document 002's weeks.
use mathlib.Core.Path.{◌≡◌, refl}
use mathlib.Core.List.{List, [], ◌∷◌, map}
use Prim.Native.Nat.{ℕ, ◌*◌}
use Rattle.records.specs.Table.{RS, HP, FU, AD, MM, RQ, CH, LC}
use Rattle.station.specs.Parameters.{adder_key, item_key}
use Rattle.formulas.specs.Levels.{profile, retired, lines, shown_as, shown}
use Rattle.formulas.specs.Memo.{Week, calculated, last_non_zero, memo_cost, to_send}
use Rattle.formulas.proofs.Computed.{computed}
use Rattle.formulas.proofs.Cases.{Entry, says, owed, find, as_parameters, as_amounts, nuclear, storage, idle, hydro, thirds}

-- ---- the profile

-- request 2 asks for profile 3 from hour 5 to 9, request 7 for profile 4 from hour 9 to 12, request 9 is withdrawn
requests : List Entry
requests =
    says RQ 2 0 2 ∷ says RQ 2 1 5 ∷ says RQ 2 2 9 ∷ says RQ 2 3 3
    ∷ says RQ 7 0 7 ∷ says RQ 7 1 9 ∷ says RQ 7 2 12 ∷ says RQ 7 3 4
    ∷ says RQ 9 0 9 ∷ says RQ 9 1 0 ∷ says RQ 9 2 100
    ∷ []

profiles : (profile (as_parameters requests) 4 ≡ 1) × (profile (as_parameters requests) 5 ≡ 3) × (profile (as_parameters requests) 9 ≡ 4)
    × (profile (as_parameters requests) 12 ≡ 4) × (profile (as_parameters requests) 13 ≡ 1)
unfolding requests find computed
profiles = (refl, refl, refl, refl, refl)

-- ---- all the lines of a station

-- 11.11 dollars times the level's number: costs 1 to 4 of a profile and level, of which cost 4's 0.01 joins nothing
abbrev four_costs : ℕ → ℕ → List Entry → List Entry
four_costs p v l =
    says AD (adder_key p 1 v) 3 (10000000 * v) ∷ says AD (adder_key p 2 v) 3 (1000000 * v)
    ∷ says AD (adder_key p 3 v) 3 (100000 * v) ∷ says AD (adder_key p 4 v) 3 (10000 * v)
    ∷ l

-- an item of maintenance
abbrev item : ℕ → ℕ → ℕ → ℕ → ℕ → List Entry → List Entry
item key c w h s l = says MM key 2 c ∷ says MM key 3 w ∷ says MM key 4 h ∷ says MM key 5 s ∷ l

-- a thermal unit with three points, whose request 16 asks for profile 2 in hours 5 to 9; items 1 and 8 of that profile, and all its adders
unit : List Entry
unit =
    four_costs 2 1 (four_costs 2 2 (four_costs 2 3 (four_costs 2 4
    (item (item_key 2 1) 200000000 1000 25000 100
    (item (item_key 2 8) 30000000 500 20000 50
    (says RS 0 0 1 ∷ says RS 0 1 1000 ∷ says RS 0 2 1500 ∷ says RS 0 3 500000 ∷ says RS 0 4 100000
    ∷ says HP 1 0 1 ∷ says HP 1 1 500 ∷ says HP 1 2 500000
    ∷ says HP 2 0 2 ∷ says HP 2 1 800 ∷ says HP 2 2 740000
    ∷ says HP 3 0 3 ∷ says HP 3 1 1000 ∷ says HP 3 2 940000
    ∷ says FU 2 1 4000000 ∷ says FU 2 2 1000000
    ∷ says RQ 16 0 16 ∷ says RQ 16 1 5 ∷ says RQ 16 2 9 ∷ says RQ 16 3 2
    ∷ []))))))

-- fuel 48.00 and 60.00, emission 8.00 and 10.00, adders 11.10, maintenance 1.10; the start has 875.00 of it
unit_lines : map shown (lines (as_parameters unit) (as_amounts unit) 5)
    ≡ shown_as 1 1 0 800 6820 ∷ shown_as 1 2 800 1000 8220 ∷ shown_as 2 0 0 0 439720 ∷ shown_as 3 0 0 0 73330 ∷ shown_as 4 0 0 0 4440 ∷ []
unfolding unit find computed
unit_lines = refl

-- third-party payments of profile 2 at levels 1 and 4 and of profile 1 at level 2, and another cost of profile 2
payments : List Entry
payments = says AD (adder_key 2 4 1) 0 2 ∷ says AD (adder_key 2 4 4) 0 2 ∷ says AD (adder_key 1 4 2) 0 1 ∷ says AD (adder_key 2 3 2) 0 2 ∷ []

payments-retired : (retired (as_parameters payments) 2 ≡ 2) × (retired (as_parameters payments) 1 ≡ 1) × (retired (as_parameters payments) 3 ≡ 0)
unfolding payments find computed
payments-retired = (refl, refl, refl)

-- profile 1, at hour 10, has no cost at all
unit-behind : map shown (lines (as_parameters unit) (as_amounts unit) 10)
    ≡ shown_as 1 1 0 800 0 ∷ shown_as 1 2 800 1000 0 ∷ shown_as 2 0 0 0 0 ∷ shown_as 3 0 0 0 0 ∷ shown_as 4 0 0 0 0 ∷ []
unfolding unit find computed
unit-behind = refl

-- "nuclear level 1 only": fuel 3.00, prorated start-up 0.25, maintenance 0.80
reactor : List Entry
reactor = item (item_key 1 1) 200000000 1000 25000 0 (says RS 0 0 2 ∷ says RS 0 1 9000 ∷ nuclear)

reactor-lines : map shown (lines (as_parameters reactor) (as_amounts reactor) 0) ≡ shown_as 1 1 0 9000 405 ∷ []
unfolding reactor nuclear find computed
reactor-lines = refl

-- "storage 1 and 4"
storage-lines : map shown (lines (as_parameters (says RS 0 0 3 ∷ storage)) (as_amounts (says AD (adder_key 1 3 4) 3 250000 ∷ storage)) 0)
    ≡ shown_as 1 1 0 800 20480 ∷ shown_as 4 0 0 0 25 ∷ []
unfolding storage find computed
storage-lines = refl

-- and hydroelectric, with an item of 0.80
river : List Entry
river = says RS 0 0 4 ∷ says RS 0 1 500 ∷ says AD (adder_key 1 3 4) 3 100000 ∷ item (item_key 1 1) 200000000 1000 25000 0 hydro

river-lines : map shown (lines (as_parameters river) (as_amounts river) 0) ≡ shown_as 1 1 0 500 3605 ∷ shown_as 4 0 0 0 10 ∷ []
unfolding river hydro find computed
river-lines = refl

-- ---- document 002's weeks: charged at 1.25, then for nothing, then idle

abbrev week : List Entry → Week
week l = record { parameters = as_parameters l; amounts = as_amounts l }

for-nothing : List Entry
for-nothing = says CH 1 1 (owed 2000) ∷ storage

-- the idle week has the last cost that wasn't 0, a charged one its own, even one of 0
memo-weeks : (memo_cost (week idle) (week for-nothing ∷ week storage ∷ []) ≡ 1250000)
    × (memo_cost (week for-nothing) (week storage ∷ []) ≡ 0)
    × (memo_cost (week storage) (week thirds ∷ []) ≡ 1250000)
    × (memo_cost (week idle) [] ≡ 0)
unfolding idle for-nothing thirds storage calculated last_non_zero memo_cost find computed
memo-weeks = (refl, refl, refl, refl)

-- what each leaves to send: its own cost, or where that is 0 the LC that it had
memo-sends : (to_send (week thirds ∷ week storage ∷ []) ≡ 20006667) × (to_send (week (says LC 0 0 7 ∷ for-nothing) ∷ week storage ∷ []) ≡ 7) × (to_send [] ≡ 0)
unfolding for-nothing thirds storage to_send find computed
memo-sends = (refl, refl, refl)
