use Rattle.verdicts.proofs.Limits.{below-zero, below-level, in-cents}
use Rattle.limits.specs.Thresholds.{fails_at}
use Rattle.limits.proofs.fails.Goals as goal

pub returns-then-price-lt-BIAS : goal.returns-then-price-lt-BIAS
unfolding fails_at
returns-then-price-lt-BIAS c = below-zero _ _ _ _ _ c.if-price-lt-BIAS.true

pub returns-then-cents-level : goal.returns-then-cents-level
unfolding fails_at
returns-then-cents-level c = below-level _ _ _ _ c.args.price c.if-cents-level.true

pub returns : goal.returns
unfolding fails_at
returns c =
    let a = c.args in
    rw c.limit.ensures (in-cents a.level a.t.percent a.t.margin a.t.floor a.price c.if-price-lt-BIAS.false)
