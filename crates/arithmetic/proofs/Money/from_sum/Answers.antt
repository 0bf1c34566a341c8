use Rattle.formulas.specs.Exact.{cents}
use Rattle.arithmetic.proofs.Money.from_sum.Goals as goal

pub returns : goal.returns
unfolding cents
returns c = c.share.ensures.0
