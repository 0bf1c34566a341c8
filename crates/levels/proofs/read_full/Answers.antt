-- What was read so far and what one read adds are what the reader loses.
use Rattle.std.proofs.Common.{arith}
use Rattle.levels.proofs.Reading.{nothing-taken, more-taken}
use Rattle.levels.proofs.read_full.Goals as goal

pub loop-filled-init : goal.loop-filled-init
loop-filled-init g c = (omega arith, nothing-taken _)

pub loop-filled-preserved : goal.loop-filled-preserved
loop-filled-preserved g c = (
  c.in_ok-n.ensures.fits,
  more-taken _ _ _ _ _ _ _ c.in_ok-n.ensures.front c.loop-filled.invariant.1 c.in_ok-n.ensures.bytes,
)
