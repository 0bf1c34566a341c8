use mathlib.Core.Path.{◌≡◌}
use Rattle.index.specs.Slots.{slots_full}
use Rattle.index.proofs.slots_full.Given as goal

abbrev pub invariant-loop-v : goal.invariant-loop-v
invariant-loop-v l = l.all ≡ slots_full l.index l.j l.v-index
