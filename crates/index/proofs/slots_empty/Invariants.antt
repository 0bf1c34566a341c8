use mathlib.Core.Path.{◌≡◌}
use lib.Dec.{eqb}
use Rattle.index.specs.Slots.{slots_empty}
use Rattle.index.proofs.slots_empty.Given as goal

abbrev pub invariant-loop-v : goal.invariant-loop-v
invariant-loop-v l = eqb l.any 0 ≡ slots_empty l.index l.j l.v-index
