use mathlib.Core.Path.{refl, sym, ◌∙◌}
use Rattle.limits.specs.Thresholds.{single_shown}
use Rattle.limits.proofs.single_test.Goals as goal

pub returns-then-fails : goal.returns-then-fails
unfolding single_shown
returns-then-fails c = rw (sym c.fails.ensures ∙ c.if-fails.true) refl

pub returns-else-fails : goal.returns-else-fails
unfolding single_shown
returns-else-fails c = rw (sym c.fails.ensures ∙ c.if-fails.false) refl
