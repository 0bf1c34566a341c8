use mathlib.Core.Path.{ap, ◌∙◌}
use Rattle.formulas.specs.Exact.{cents}
use Rattle.arrays.proofs.Single.{sum-amount}
use Rattle.reference.proofs.single_level.Goals as goal

pub returns : goal.returns
returns c =
    let a = c.requires in
    c.from_sum-money.ensures ∙ ap cents c.single_sum.ensures ∙ sum-amount _ _ _ _ a.4 a.5 a.3
