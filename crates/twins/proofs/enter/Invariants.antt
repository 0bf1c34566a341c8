use mathlib.Core.Path.{◌≡◌}
use Prim.Native.Nat.{◌<◌, ◌-◌, ◌+◌, ◌*◌}
use lib.ListN.{length, get_or}
use Rattle.twins.proofs.Way.{Way}
use Rattle.twins.proofs.enter.Given as goal

-- The invariant: the way as far as `at`, at which `node` stands. The measure: links lead on.

abbrev pub invariant-loop-node : goal.invariant-loop-node
invariant-loop-node l = (l.at < l.roots + 2 * l.count + 2) × (l.node ≡ get_or l.links l.at 0) × Way l.roots l.links l.ids l.x l.at l.left

abbrev pub decreases-loop-node : goal.decreases-loop-node
decreases-loop-node l = length l.links - l.at
