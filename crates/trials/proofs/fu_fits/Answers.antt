use mathlib.Core.Path.{◌∙◌}
use Rattle.rules.proofs.ByMark.{fits-fu}
use Rattle.trials.proofs.fu_fits.Goals as goal

pub returns : goal.returns
returns c = c.fuel_fits.ensures ∙ fits-fu _ _ c.requires
