use mathlib.Core.Path.{ap, ◌∙◌}
use mir.Facts.{to_z-of_z}
use Rattle.verdicts.specs.Verdict.{on_price}
use Rattle.conduct.proofs.Outer.{unwrapped}
use Rattle.conduct.proofs.price_test.Goals as goal

pub returns : goal.returns
returns c =
    unwrapped c.price_tested.result c.unwrap_or_else.ensures ∙ c.price_tested.ensures ∙ ap (on_price _ _ _ _) (to_z-of_z c.ranges.price)
