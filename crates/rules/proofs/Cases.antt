-- Worked answers, of whole small dossiers at the edge of each rule; which technologies a record of each mark fits; X, and a forecast at its edge.
use mathlib.Core.Path.{◌≡◌, refl}
use mathlib.Core.Bool.{true, cond, ◌&&◌, ◌||◌}
use mathlib.Core.List.{List, [], ◌∷◌, ◌++◌, map}
use Prim.Native.Nat.{ℕ, zero, suc, ◌*◌}
use lib.Dec.{leb, eqb}
use Rattle.lists.specs.Lists.{Each, done, also, joined}
use Rattle.records.specs.Answers.{Answer, Accepted, Refused}
use Rattle.records.specs.Table.{thermal, nuclear, storage, hydro, RS, HP, FU, AD, MM, RQ, HR, CH, TH, FP, LC, FV, AV, MV}
use Rattle.records.specs.Made.{made, made_from}
use Rattle.station.specs.Parameters.{Parameters}
use Rattle.rules.specs.Curve.{full_hours}
use Rattle.rules.specs.Fit.{fits}
use Rattle.rules.specs.Answer.{unsupported, answer}
use Rattle.rules.proofs.Computed.{computed}

-- ---- whole dossiers

-- a dossier's records, and its answer
record Case : Type 0 where
  dossier : List (List ℕ)
  wanted : Answer

abbrev case : List (List ℕ) → Answer → Case
case l a = record { dossier = l; wanted = a }

abbrev Answers : List Case → Type 0
Answers l = Each (λ c. answer (joined c.dossier) ≡ c.wanted) l

-- the fuel of a profile
abbrev fuelled : ℕ → List ℕ
fuelled p = made FU 1 (p ∷ 0 ∷ 0 ∷ [])

-- the same from an hour on, 19 bytes
abbrev fuelled_from : ℕ → ℕ → List ℕ
fuelled_from h p = made_from FV 1 h (p ∷ 0 ∷ 0 ∷ [])

-- a thermal unit without its points and fuel, 31 bytes
abbrev unit : ℕ → List ℕ
unit capacity = made RS 1 (1 ∷ capacity ∷ 1000 ∷ 0 ∷ 0 ∷ 0 ∷ 0 ∷ 0 ∷ 0 ∷ [])

abbrev point : ℕ → ℕ → ℕ → List ℕ
point n output heat = made HP 1 (n ∷ output ∷ heat ∷ [])

-- 100.0 MW with fuel, 46 bytes, and its points, 13 bytes each
abbrev curve : List (List ℕ) → List (List ℕ)
curve l = unit 1000 ∷ fuelled 1 ∷ l

-- n points on a line
unfoldable pub straight : ℕ → List (List ℕ)
straight zero = []
straight (suc n) = point (suc n) (suc n * 10) (suc n * 100) ∷ straight n

-- "7 for thermal, points fewer than 2, not numbered from 1 without gap, output not rising, heat falling, slope falling, or last output not the capacity"
abbrev curves : List Case
curves =
    case (curve (point 1 1000 0 ∷ [])) (Refused 7 59)  -- one point
    ∷ case (curve (point 1 500 9 ∷ point 2 1000 9 ∷ [])) Accepted  -- two, and heat that stays
    ∷ case (curve (point 1 500 9 ∷ point 2 1000 8 ∷ [])) (Refused 7 72)  -- heat falls
    ∷ case (curve (point 2 1000 9 ∷ point 3 1000 9 ∷ [])) (Refused 7 72)  -- no point 1
    ∷ case (curve (point 1 500 0 ∷ point 2 1000 0 ∷ point 3 1000 0 ∷ [])) (Refused 7 85)  -- output stays at the end
    ∷ case (curve (point 1 100 100 ∷ point 2 200 200 ∷ point 3 1000 1000 ∷ [])) Accepted  -- a slope that stays
    ∷ case (curve (point 1 0 0 ∷ point 2 900 900 ∷ point 3 1000 1010 ∷ [])) Accepted  -- it rises from 1 to 1.1, though heat rises by less
    ∷ case (curve (point 1 500 0 ∷ point 2 800 300 ∷ point 3 900 500 ∷ point 4 1000 650 ∷ [])) (Refused 7 98)  -- slopes 1, 2 and 1.5, though heat over output rises
    ∷ case (curve (point 1 500 0 ∷ point 2 999 0 ∷ [])) (Refused 7 72)  -- ends below the capacity
    ∷ case (curve (point 1 500 0 ∷ point 2 1001 0 ∷ [])) (Refused 7 72)  -- and above it
    ∷ case (unit 210 ∷ fuelled 1 ∷ straight 21) Accepted  -- all 21 points
    ∷ []

pub curves-answered : Answers curves
unfolding straight computed
curves-answered = also refl (also refl (also refl (also refl (also refl (also refl (also refl (also refl (also refl (also refl (also refl done))))))))))

-- a nuclear station without fuel, 31 bytes
abbrev reactor : List ℕ
reactor = made RS 1 (2 ∷ 1000 ∷ 1000 ∷ 0 ∷ 0 ∷ 1 ∷ 0 ∷ 0 ∷ 0 ∷ [])

abbrev request : ℕ → ℕ → List ℕ
request n profile = made RQ 1 (n ∷ 0 ∷ 0 ∷ profile ∷ [])

-- "8 no FU for profile 1 or for one named in a current RQ"; "8 is met by FU or FV of any hour"
abbrev fuels : List Case
fuels =
    case (reactor ∷ fuelled 1 ∷ []) Accepted
    ∷ case (reactor ∷ fuelled 2 ∷ []) (Refused 8 46)  -- none for profile 1
    ∷ case (reactor ∷ fuelled 1 ∷ request 1 2 ∷ []) (Refused 8 62)  -- none for profile 2, which request 1 names
    ∷ case (reactor ∷ fuelled 1 ∷ request 16 2 ∷ []) (Refused 8 62)  -- or request 16
    ∷ case (reactor ∷ fuelled 1 ∷ request 16 0 ∷ []) Accepted  -- which is withdrawn
    ∷ case (reactor ∷ fuelled 1 ∷ fuelled 2 ∷ request 16 2 ∷ []) Accepted
    ∷ case (reactor ∷ fuelled_from 4294967295 1 ∷ []) Accepted  -- the last hour has fuel
    ∷ case (reactor ∷ fuelled 1 ∷ fuelled_from 200 2 ∷ request 16 2 ∷ []) Accepted  -- request 16 is of hour 0
    ∷ case (reactor ∷ fuelled_from 0 2 ∷ []) (Refused 8 50)
    ∷ []

pub fuels-answered : Answers fuels
unfolding computed
fuels-answered = also refl (also refl (also refl (also refl (also refl (also refl (also refl (also refl (also refl done))))))))

-- a battery of 80.0 MW without fuel, 31 bytes
abbrev battery : ℕ → ℕ → List ℕ
battery charge window = made RS 1 (3 ∷ 800 ∷ 0 ∷ 0 ∷ 0 ∷ 0 ∷ charge ∷ 800 ∷ window ∷ [])

abbrev hour : ℕ → List ℕ
hour n = made HR 1 (n ∷ 0 ∷ [])

-- "9 for storage, X is 0 or above the window, or a window hour missing"
abbrev windows : List Case
windows =
    case (battery 799 1 ∷ fuelled 1 ∷ hour 1 ∷ []) (Refused 9 57)  -- X is 0
    ∷ case (battery 800 1 ∷ fuelled 1 ∷ hour 1 ∷ []) Accepted  -- 1, as the window
    ∷ case (battery 1600 1 ∷ fuelled 1 ∷ hour 1 ∷ []) (Refused 9 57)  -- 2, one above it
    ∷ case (battery 800 2 ∷ fuelled 1 ∷ hour 1 ∷ []) (Refused 9 57)  -- the window's last hour missing, though X is 1
    ∷ []

pub windows-answered : Answers windows
unfolding computed
windows-answered = also refl (also refl (also refl (also refl done)))

-- ---- "then 4 to 9", and which record is refused

-- a hydroelectric station with a window of 50 and no forecast, 31 bytes
abbrev river : List ℕ
river = made RS 1 (4 ∷ 500 ∷ 0 ∷ 0 ∷ 0 ∷ 0 ∷ 0 ∷ 0 ∷ 50 ∷ [])

abbrev last_cost : List ℕ
last_cost = made LC 1 (0 ∷ [])

abbrev turns : List Case
turns =
    case (fuelled 1 ∷ fuelled 1 ∷ []) (Refused 4 15)  -- 4 before 5
    ∷ case (fuelled 1 ∷ []) (Refused 5 15)  -- 5 before 6: no record fits where there is no technology
    ∷ case (unit 1000 ∷ last_cost ∷ []) (Refused 6 31)  -- 6 before 7 and 8
    ∷ case (unit 1000 ∷ []) (Refused 7 31)  -- 7 before 8
    ∷ case (battery 800 1 ∷ []) (Refused 8 31)  -- 8 before 9
    ∷ case (river ∷ []) (Refused 8 31)  -- and before 17
    ∷ case (river ∷ fuelled 1 ∷ []) (Refused 17 46)
    ∷ case (reactor ∷ fuelled 1 ∷ last_cost ∷ hour 1 ∷ []) (Refused 6 46)  -- the first of two that don't fit
    ∷ case (reactor ∷ fuelled 1 ∷ made FU 2 (1 ∷ 0 ∷ 1 ∷ []) ∷ []) (Refused 6 46)  -- the current one, whose emission isn't 0
    ∷ case (reactor ∷ made FU 2 (1 ∷ 0 ∷ 0 ∷ []) ∷ made FU 1 (1 ∷ 0 ∷ 1 ∷ []) ∷ []) Accepted  -- it isn't current
    ∷ case (reactor ∷ fuelled 1 ∷ made AD 1 (1 ∷ 3 ∷ 4 ∷ 0 ∷ []) ∷ []) (Refused 6 46)  -- by its own key
    ∷ []

pub turns-answered : Answers turns
unfolding computed
turns-answered = also refl (also refl (also refl (also refl (also refl (also refl (also refl (also refl (also refl (also refl (also refl done))))))))))

-- ---- "A key is shared by old and new mark, for 4 as well"; "6 is tried on every record that counts at some hour"

-- fuel of profile 1 with an emission price, which no nuclear station has: issue 1, of hour 0 and of hour 100
abbrev emitting : List ℕ
emitting = made FU 1 (1 ∷ 0 ∷ 1 ∷ [])

abbrev emitting_from : List ℕ
emitting_from = made_from FV 1 100 (1 ∷ 0 ∷ 1 ∷ [])

-- without one: issue 2
abbrev clean_from : ℕ → List ℕ
clean_from h = made_from FV 2 h (1 ∷ 0 ∷ 0 ∷ [])

abbrev dated : List Case
dated =
    case (reactor ∷ fuelled 1 ∷ fuelled_from 100 1 ∷ []) (Refused 4 46)  -- one key and issue, whatever the hours
    ∷ case (reactor ∷ fuelled_from 100 1 ∷ fuelled_from 200 1 ∷ []) (Refused 4 50)
    ∷ case (reactor ∷ fuelled 1 ∷ fuelled_from 100 2 ∷ []) Accepted  -- another key
    ∷ case (reactor ∷ fuelled 1 ∷ clean_from 100 ∷ []) Accepted  -- another issue
    ∷ case (reactor ∷ emitting ∷ clean_from 100 ∷ []) (Refused 6 31)  -- it counts until hour 99
    ∷ case (reactor ∷ emitting ∷ clean_from 1 ∷ []) (Refused 6 31)  -- and at hour 0 alone
    ∷ case (reactor ∷ emitting ∷ clean_from 0 ∷ []) Accepted  -- at no hour: a higher issue is there from the first on
    ∷ case (reactor ∷ emitting_from ∷ clean_from 101 ∷ []) (Refused 6 31)  -- it counts at hour 100
    ∷ case (reactor ∷ emitting_from ∷ clean_from 100 ∷ []) Accepted  -- a higher issue comes with it
    ∷ case (reactor ∷ emitting_from ∷ clean_from 99 ∷ []) Accepted  -- or before it, and a later hour wins nothing
    ∷ case (reactor ∷ fuelled 1 ∷ made_from AV 1 4294967295 (4 ∷ 3 ∷ 4 ∷ 0 ∷ []) ∷ []) (Refused 6 46)  -- of a profile that nothing asks for
    ∷ case (reactor ∷ fuelled 1 ∷ made_from AV 1 9 (4 ∷ 3 ∷ 4 ∷ 0 ∷ []) ∷ made LC 1 (0 ∷ []) ∷ []) (Refused 6 46)  -- the first of two
    ∷ []

pub dated-answered : Answers dated
unfolding computed
dated-answered =
    also refl (also refl (also refl (also refl (also refl (also refl (also refl (also refl (also refl (also refl (also refl (also refl done)))))))))))

-- ---- which technologies a record fits

-- those of some technologies that a record of mark k fits
unfoldable pub fitted : ℕ → List ℕ → List ℕ → List ℕ
fitted k r [] = []
fitted k r (t ∷ l) = cond (fits t k r) (t ∷ fitted k r l) (fitted k r l)

-- a record and its mark, and the technologies that it fits
record Fitting : Type 0 where
  mark : ℕ
  bytes : List ℕ
  wanted : List ℕ

abbrev only : ℕ → List ℕ → List ℕ → Fitting
only k vs w = record { mark = k; bytes = made k 1 vs; wanted = w }

-- the same of a mark with a first hour, 7 here
abbrev only_from : ℕ → List ℕ → List ℕ → Fitting
only_from k vs w = record { mark = k; bytes = made_from k 1 7 vs; wanted = w }

-- RS by the seven fields that not every technology uses
abbrev station : ℕ → ℕ → ℕ → ℕ → ℕ → ℕ → ℕ → List ℕ → Fitting
station factor start_heat no_load_heat fuel charge efficiency window w =
    only RS (1 ∷ 1 ∷ factor ∷ start_heat ∷ no_load_heat ∷ fuel ∷ charge ∷ efficiency ∷ window ∷ []) w

-- "Thermal uses performance factor and both heats; nuclear performance factor and incremental fuel; storage charge, efficiency and window."
abbrev stations : List Fitting
stations =
    station 500 1 1 0 0 0 0 (thermal ∷ [])
    ∷ station 500 0 0 0 0 0 0 (thermal ∷ [])  -- "used ones are above 0, except the heats"
    ∷ station 0 1 1 0 0 0 0 []
    ∷ station 500 0 0 1 0 0 0 (nuclear ∷ [])
    ∷ station 0 0 0 1 0 0 0 []
    ∷ station 500 1 0 1 0 0 0 []  -- "Other such RS fields are 0"
    ∷ station 500 0 1 1 0 0 0 []
    ∷ station 0 0 0 0 1 500 1 (storage ∷ [])
    ∷ station 0 0 0 0 0 500 1 []
    ∷ station 0 0 0 0 1 0 1 []
    ∷ station 0 0 0 0 1 500 0 []
    ∷ station 500 0 0 0 1 500 1 []
    ∷ station 0 0 0 0 0 0 1 (hydro ∷ [])  -- a window is all that hydroelectric has
    ∷ station 0 0 0 0 0 0 0 []
    ∷ []

-- "HP is thermal only; HR and CH storage only. Emission is 0 unless thermal"; "S is 0 unless thermal"; FP is hydroelectric only, LC storage only, and fuel 0
-- at a hydroelectric station
abbrev others : List Fitting
others =
    only HP (1 ∷ 0 ∷ 0 ∷ []) (thermal ∷ [])
    ∷ only HR (1 ∷ 0 ∷ []) (storage ∷ [])
    ∷ only CH (1 ∷ 0 ∷ 0 ∷ []) (storage ∷ [])
    ∷ only FP (1 ∷ 0 ∷ []) (hydro ∷ [])
    ∷ only LC (0 ∷ []) (storage ∷ [])
    ∷ only RQ (1 ∷ 0 ∷ 0 ∷ 0 ∷ []) (thermal ∷ nuclear ∷ storage ∷ hydro ∷ [])
    ∷ only FU (1 ∷ 0 ∷ 0 ∷ []) (thermal ∷ nuclear ∷ storage ∷ hydro ∷ [])
    ∷ only FU (1 ∷ 1 ∷ 0 ∷ []) (thermal ∷ nuclear ∷ storage ∷ [])
    ∷ only FU (1 ∷ 1 ∷ 1 ∷ []) (thermal ∷ [])
    ∷ only MM (1 ∷ 1 ∷ 1 ∷ 1 ∷ 1 ∷ 0 ∷ []) (thermal ∷ nuclear ∷ storage ∷ hydro ∷ [])
    ∷ only MM (1 ∷ 1 ∷ 1 ∷ 1 ∷ 1 ∷ 1 ∷ []) (thermal ∷ [])
    ∷ []

-- "Thermal has all four levels, nuclear level 1 only, storage 1 and 4, for AD and TH alike. Cost 5 is nuclear and level 1."
abbrev levels : List Fitting
levels =
    only AD (1 ∷ 4 ∷ 1 ∷ 1 ∷ []) (thermal ∷ nuclear ∷ storage ∷ hydro ∷ [])
    ∷ only AD (1 ∷ 4 ∷ 2 ∷ 1 ∷ []) (thermal ∷ [])
    ∷ only AD (1 ∷ 4 ∷ 3 ∷ 1 ∷ []) (thermal ∷ [])
    ∷ only AD (1 ∷ 4 ∷ 4 ∷ 1 ∷ []) (thermal ∷ storage ∷ hydro ∷ [])
    ∷ only AD (1 ∷ 5 ∷ 1 ∷ 1 ∷ []) (nuclear ∷ [])
    ∷ only AD (1 ∷ 5 ∷ 4 ∷ 1 ∷ []) []
    ∷ only TH (2 ∷ 1 ∷ 1 ∷ 1 ∷ 1 ∷ []) (thermal ∷ nuclear ∷ storage ∷ hydro ∷ [])
    ∷ only TH (1 ∷ 2 ∷ 1 ∷ 1 ∷ 1 ∷ []) (thermal ∷ [])
    ∷ only TH (1 ∷ 3 ∷ 1 ∷ 1 ∷ 1 ∷ []) (thermal ∷ [])
    ∷ only TH (1 ∷ 4 ∷ 1 ∷ 1 ∷ 1 ∷ []) (thermal ∷ storage ∷ hydro ∷ [])
    ∷ []

-- FV, AV and MV as FU, AD and MM
abbrev later : List Fitting
later =
    only_from FV (1 ∷ 0 ∷ 0 ∷ []) (thermal ∷ nuclear ∷ storage ∷ hydro ∷ [])
    ∷ only_from FV (1 ∷ 1 ∷ 0 ∷ []) (thermal ∷ nuclear ∷ storage ∷ [])
    ∷ only_from FV (1 ∷ 1 ∷ 1 ∷ []) (thermal ∷ [])
    ∷ only_from AV (1 ∷ 4 ∷ 1 ∷ 1 ∷ []) (thermal ∷ nuclear ∷ storage ∷ hydro ∷ [])
    ∷ only_from AV (1 ∷ 4 ∷ 2 ∷ 1 ∷ []) (thermal ∷ [])
    ∷ only_from AV (1 ∷ 4 ∷ 4 ∷ 1 ∷ []) (thermal ∷ storage ∷ hydro ∷ [])
    ∷ only_from AV (1 ∷ 5 ∷ 1 ∷ 1 ∷ []) (nuclear ∷ [])
    ∷ only_from MV (1 ∷ 1 ∷ 1 ∷ 1 ∷ 1 ∷ 0 ∷ []) (thermal ∷ nuclear ∷ storage ∷ hydro ∷ [])
    ∷ only_from MV (1 ∷ 1 ∷ 1 ∷ 1 ∷ 1 ∷ 1 ∷ []) (thermal ∷ [])
    ∷ []

pub records-fit : map (λ c. fitted c.mark c.bytes (thermal ∷ nuclear ∷ storage ∷ hydro ∷ [])) (stations ++ others ++ levels ++ later)
    ≡ map (λ c. c.wanted) (stations ++ others ++ levels ++ later)
unfolding fitted computed
records-fit = refl

-- ---- X, and a forecast

-- charge 300.0, capacity 80.0 (M5)
abbrev charged : Parameters
charged = record { has = λ k n. true; says = λ k n i. cond (eqb i 6) 3000 (cond (eqb i 1) 800 0) }

-- 3.75 hours are 3
pub three-hours : full_hours charged ≡ 3
unfolding full_hours
three-hours = refl

-- a window, and places 1 to n of the forecast
abbrev forecast : ℕ → ℕ → Parameters
forecast window n = record { has = λ k m. eqb k FU || eqb k FP && leb m n; says = λ k m i. cond (eqb k RS && eqb i 0) 4 (cond (eqb k RS && eqb i 8) window 0) }

-- 17 is drawn by a window under 50, or by a place missing
pub forecasts : (unsupported (forecast 50 50) 100 ≡ Accepted) × (unsupported (forecast 49 50) 100 ≡ Refused 17 100) × (unsupported (forecast 51 50) 100 ≡ Refused 17 100)
unfolding computed
forecasts = (refl, refl, refl)
