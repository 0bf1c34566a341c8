use mathlib.Core.Path.{◌∙◌}
use Rattle.conduct.proofs.Outer.{unwrapped}
use Rattle.conduct.proofs.energy_test.Goals as goal

pub returns : goal.returns
returns c = unwrapped c.energy_tested.result c.unwrap_or_else.ensures ∙ c.energy_tested.ensures
