-- The levels in a profile, of the records that the index at hand has. The law `lines-held` ties them to an hour's.
use Rattle.std.specs.Prelude.{List, ℕ}
use Rattle.station.specs.Parameters.{technology}
use Rattle.lookup.specs.Parts.{parameters_held, amounts_held}
use Rattle.formulas.specs.Levels.{Line, lines_of}
use Rattle.arrays.specs.declared.HourLevels.{HourLevels}
use Rattle.arrays.specs.Packed.{packed}

-- line by line
abbrev pub lines_held : List ℕ → List ℕ → ℕ → List Line
lines_held d ix p = lines_of (parameters_held d ix) (amounts_held d ix) p

-- in arrays
abbrev pub packed_held : List ℕ → List ℕ → ℕ → HourLevels
packed_held d ix p = packed (technology (parameters_held d ix)) p (lines_held d ix p)
