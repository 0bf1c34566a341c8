use mathlib.Core.Path.{sym, ◌∙◌}
use Rattle.records.specs.Dossier.{records}
use Rattle.fit.proofs.Unfit.{values-accepted}
use Rattle.acceptance.proofs.unfit_dated.Goals as goal

pub returns-then-values_fit : goal.returns-then-values_fit
returns-then-values_fit c =
    values-accepted c.args.t (records c.args.d.now) (c.requires.4 c.if-not-slots.false)
    (sym c.values_fit.ensures ∙ c.if-values_fit.true)
