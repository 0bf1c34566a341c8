use mathlib.Core.Path.{sym}
use Rattle.trials.proofs.Laws.{is-asked, not-asked}
use Rattle.trials.proofs.is_valued.Goals as goal

pub returns-in-FU : goal.returns-in-FU
returns-in-FU c = sym (is-asked _ c.in-FU.is)

pub returns-in_default : goal.returns-in_default
returns-in_default c =
    let d = c.in_default in
    sym (not-asked _ d.not-FU d.not-MM d.not-FV d.not-MV)
