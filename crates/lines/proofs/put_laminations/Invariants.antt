use mathlib.Core.Path.{◌≡◌}
use lib.ListN.{length}
use Rattle.text.proofs.Over.{Wrote}
use Rattle.arrays.specs.Packed.{in_arrays}
use Rattle.lines.specs.Parts.{lamination_lines}
use Rattle.lines.proofs.put_laminations.Given as goal

-- `lines::put_laminations` meets its contract. The loop's invariant: the lines passed stand at the front of the buffer.

abbrev pub invariant-loop-i : goal.invariant-loop-i
invariant-loop-i l =
    (length l.buf ≡ length l.initial.buf) × Wrote (lamination_lines (in_arrays l.from l.to l.cents l.count) l.i) l.initial.buf l.at l.buf
