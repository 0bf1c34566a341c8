use mathlib.Core.Path.{◌∙◌}
use Rattle.records.specs.Dossier.{records}
use Rattle.station.specs.Parameters.{parameters}
use Rattle.requirements.proofs.Always.{technology-always}
use Rattle.requirements.proofs.Curve.{curve-none, curve-short, curve-whole}
use Rattle.requirements.proofs.curve_fits.Goals as goal

pub returns-then-technology-ne1 : goal.returns-then-technology-ne1
returns-then-technology-ne1 c =
    curve-none (parameters (records c.args.d.now)) _ (c.technology.ensures.0 ∙ technology-always c.requires) c.if-technology-ne1.true

pub returns-then-n-lt2 : goal.returns-then-n-lt2
returns-then-n-lt2 c =
    curve-short (parameters (records c.args.d.now)) _ (c.technology.ensures.0 ∙ technology-always c.requires) c.if-technology-ne1.false _
    c.points_of-n.ensures.0 c.if-n-lt2.true

pub returns : goal.returns
returns c =
    curve-whole (parameters (records c.args.d.now)) _ (c.technology.ensures.0 ∙ technology-always c.requires) c.if-technology-ne1.false _
    c.points_of-n.ensures.0 c.curve_holds.ensures
