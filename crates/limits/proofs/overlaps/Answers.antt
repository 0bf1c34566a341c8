use Rattle.verdicts.proofs.Limits.{overlap-tests}
use Rattle.limits.proofs.overlaps.Goals as goal

-- `overlaps` meets its contract.

pub returns : goal.returns
returns c = overlap-tests c.args.low c.args.high c.args.from c.args.to
