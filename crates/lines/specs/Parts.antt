-- The report in the parts that code writes, from the levels as code hands them over. The laws `report-is` and `packed-is` tie it to `report`.
use Rattle.std.specs.Prelude.{Bool, cond, List, [], ◌++◌, ℕ, length}
use Rattle.rules.specs.Fit.{start, no_load, reserve}
use Rattle.arrays.specs.declared.HourLevels.{HourLevels}
use Rattle.arrays.specs.Packed.{Arrays, laminations_from, single_of, unpacked}
use Rattle.layout.specs.Written.{Written}
use Rattle.layout.specs.Report.{amount_line, level_lines, report_text, short_for, buffer_with, written}

-- the whole, with so many payments retired
unfoldable pub packed_report : HourLevels → ℕ → List ℕ
packed_report r k = report_text r.profile (unpacked r) k

-- what writing it into n bytes tells, and what it leaves of a buffer
abbrev pub written_of : HourLevels → ℕ → ℕ → Written
written_of r k n = written (short_for (packed_report r k) n) (length (packed_report r k))

abbrev pub buffer_of : HourLevels → ℕ → List ℕ → List ℕ
buffer_of r k b = buffer_with (short_for (packed_report r k) (length b)) (packed_report r k) b

-- the first n energy lines
abbrev pub lamination_lines : Arrays → ℕ → List ℕ
lamination_lines r n = level_lines (laminations_from r 0 n)

-- a line with a word and a level that may be held or not
abbrev pub held_line : Bool → List ℕ → ℕ → List ℕ
held_line held word x = cond held (amount_line word x) []

-- the start, no-load and reserve lines that technology t holds
unfoldable pub other_lines : ℕ → ℕ → ℕ → ℕ → List ℕ
other_lines t x y z = level_lines (single_of t start x) ++ level_lines (single_of t no_load y) ++ level_lines (single_of t reserve z)
