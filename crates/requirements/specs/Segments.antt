-- How code looks for 7: along the curve once; for 8: request by request. No paper speaks of this; the laws `segments-curve` and
-- `fuel-whole` tie it to `curve_holds` and `fuel_holds`.
use Rattle.std.specs.Prelude.{Bool, cond, ◌&&◌, ◌||◌, not, ℕ, ◌+◌, ◌*◌, ◌-◌, ltb, leb, eqb}
use Rattle.records.specs.Table.{HP, FU, RQ}
use Rattle.station.specs.Parameters.{Parameters, output, heat, requested}
use Rattle.rules.specs.Curve.{rise}

-- what a curve rises by up to point i, 0 at the first
unfoldable pub last_rise : (ℕ → ℕ) → ℕ → ℕ
last_rise f i = cond (eqb i 1) 0 (rise f (i - 1))

-- the next point is there, its output above and its heat no lower, and the slope to it no lower than the last one
unfoldable pub segment_holds : Parameters → ℕ → Bool
segment_holds s i =
    s.has HP (i + 1) && ltb (output s i) (output s (i + 1)) && leb (heat s i) (heat s (i + 1))
    && leb (last_rise (heat s) i * rise (output s) i) (rise (heat s) i * last_rise (output s) i)

-- request n is absent or withdrawn, or its profile has an FU or FV
abbrev pub fuelled : Parameters → ℕ → Bool
fuelled s n = not (s.has RQ n) || eqb (requested s n) 0 || s.has FU (requested s n)
