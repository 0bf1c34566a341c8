use mathlib.Core.Path.{◌∙◌}
use Rattle.rules.proofs.ByMark.{fits-mm}
use Rattle.trials.proofs.mm_fits.Goals as goal

pub returns : goal.returns
returns c = c.hours_fit.ensures ∙ fits-mm _ _ c.requires
