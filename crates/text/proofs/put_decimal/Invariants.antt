use mathlib.Core.Path.{◌≡◌}
use mathlib.Core.List.{◌++◌}
use lib.ListN.{drop}
use Rattle.text.specs.Text.{over, decimal}
use Rattle.text.proofs.Decimal.{last_digits}
use Rattle.text.proofs.put_decimal.Given as goal

-- `text::put_decimal` meets its contract. The loop's invariant: the digits that are left, and the buffer behind their places, are
-- what the buffer shall hold.

abbrev pub invariant-loop-i : goal.invariant-loop-i
invariant-loop-i l = last_digits l.i l.m ++ drop l.i l.buf ≡ over (decimal l.n) l.initial.buf
