use Rattle.conduct.proofs.Turns.{length-holds, length-fails}
use Rattle.conduct.proofs.refusals.length_refusal.Goals as goal

pub returns-then-n : goal.returns-then-n
returns-then-n c = length-holds c.args.offer.now c.if-n.true

pub returns-else-n : goal.returns-else-n
returns-else-n c = length-fails c.args.offer.now c.if-n.false
