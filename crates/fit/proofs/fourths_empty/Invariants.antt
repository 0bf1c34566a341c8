use mathlib.Core.Path.{◌≡◌}
use lib.Dec.{eqb}
use Rattle.fit.specs.BySlots.{fourths_empty}
use Rattle.fit.proofs.fourths_empty.Given as goal

abbrev pub invariant-loop-i : goal.invariant-loop-i
invariant-loop-i l = eqb l.any 0 ≡ fourths_empty l.index l.j l.i
