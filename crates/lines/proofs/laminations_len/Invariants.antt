use mathlib.Core.Path.{◌≡◌}
use lib.ListN.{length}
use Rattle.arrays.specs.Packed.{in_arrays}
use Rattle.lines.specs.Parts.{lamination_lines}
use Rattle.lines.proofs.laminations_len.Given as goal

-- `lines::laminations_len` meets its contract. The loop's invariant: `len` is the length of the lines passed.

abbrev pub invariant-loop-i : goal.invariant-loop-i
invariant-loop-i l = l.len ≡ length (lamination_lines (in_arrays l.from l.to l.cents l.count) l.i)
