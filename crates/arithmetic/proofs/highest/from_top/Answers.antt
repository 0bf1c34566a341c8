use mathlib.Core.Path.{sym}
use Rattle.arithmetic.proofs.Selection.{threshold-place}
use Rattle.arithmetic.proofs.highest.from_top.Goals as goal

pub returns : goal.returns
returns c =
    (sym (threshold-place _ _ c.args.s.now c.requires.0 c.price_threshold.ensures.0), c.price_threshold.ensures.1, c.price_threshold.ensures.2)
