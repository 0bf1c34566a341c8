-- 7, 8, 9 and 17: what the parameters of an accepted dossier are like.
use Rattle.std.specs.Prelude.{Bool, ◌&&◌, ◌||◌, not, ℕ, ◌+◌, ◌*◌, ◌-◌, ◌/◌, leb, ltb, eqb}
use Rattle.lists.specs.Tests.{all_to, count_to}
use Rattle.records.specs.Table.{thermal, storage, hydro, HP, FU, RQ, HR, FP}
use Rattle.station.specs.Parameters.{Parameters, technology, capacity, charge, window, output, heat, requested}

-- how many points there are: "21 points and 22"
unfoldable pub points : Parameters → ℕ
points s = count_to 21 (s.has HP)

-- what a curve rises by from point i to the next
unfoldable pub rise : (ℕ → ℕ) → ℕ → ℕ
rise f i = f (i + 1) - f i

-- none of "points fewer than 2, not numbered from 1 without gap, output not rising, heat falling, slope falling, or last output not the capacity"; slopes are
-- compared by multiplying across
unfoldable pub curve_holds : Parameters → ℕ → Bool
curve_holds s n =
    leb 2 n && all_to n (s.has HP)
    && all_to (n - 1) (λ i. ltb (output s i) (output s (i + 1)) && leb (heat s i) (heat s (i + 1)))
    && all_to (n - 2) (λ i. leb (rise (heat s) i * rise (output s) (i + 1)) (rise (heat s) (i + 1) * rise (output s) i))
    && eqb (output s n) (capacity s)

-- what 7 asks: "7 for thermal", the curve
unfoldable pub curve_fits : Parameters → Bool
curve_fits s = not (eqb (technology s) thermal) || curve_holds s (points s)

-- not "8 no FU for profile 1 or for one named in a current RQ"; 0 names none; of hydroelectric too "FU is still needed"; "8 is met by FU or FV of any hour"
unfoldable pub fuel_holds : Parameters → Bool
fuel_holds s = s.has FU 1 && all_to 16 (λ n. not (s.has RQ n) || eqb (requested s n) 0 || s.has FU (requested s n))

-- "X being state of charge / capacity without fraction"; "X stays whole"; "X and request 1's place still drop theirs"
unfoldable pub full_hours : Parameters → ℕ
full_hours s = charge s / capacity s

-- not "X is 0 or above the window, or a window hour missing"
unfoldable pub hours_hold : Parameters → Bool
hours_hold s = ltb 0 (full_hours s) && leb (full_hours s) (window s) && all_to (window s) (s.has HR)

-- what 9 asks: "9 for storage", the window
unfoldable pub window_fits : Parameters → Bool
window_fits s = not (eqb (technology s) storage) || hours_hold s

-- the window is no "window under 50", and there is no "missing place"
unfoldable pub places_hold : Parameters → Bool
places_hold s = leb 50 (window s) && all_to (window s) (s.has FP)

-- what 17 asks: for hydroelectric, the forecast
unfoldable pub forecast_fits : Parameters → Bool
forecast_fits s = not (eqb (technology s) hydro) || places_hold s
