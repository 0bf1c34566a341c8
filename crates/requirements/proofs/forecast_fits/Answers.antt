use mathlib.Core.Path.{◌∙◌}
use Rattle.records.specs.Dossier.{records}
use Rattle.station.specs.Parameters.{parameters}
use native.Mathlib.Omega.{arith}
use Rattle.index.specs.Slots.{slot}
use Rattle.lookup.proofs.Held.{whole-indexed}
use Rattle.requirements.proofs.Always.{technology-always, window-always}
use Rattle.requirements.proofs.Window.{forecast-none, forecast-whole, places-told}
use Rattle.requirements.proofs.forecast_fits.Goals as goal

pub returns-then-technology-ne4 : goal.returns-then-technology-ne4
returns-then-technology-ne4 c =
    let h = whole-indexed c.requires.0 in
    forecast-none (parameters (records c.args.d.now)) _ (c.technology.ensures.0 ∙ technology-always h) c.if-technology-ne4.true

pub returns : goal.returns
returns c =
    let h = whole-indexed c.requires.0 in
    forecast-whole (parameters (records c.args.d.now)) _ (c.technology.ensures.0 ∙ technology-always h) c.if-technology-ne4.false
    (c.window-window.ensures.0 ∙ window-always h)
    (c.slots_full.ensures ∙ places-told _ _ c.requires.0 c.requires.1 _ c.slot_fp.ensures c.window-window.ensures.1)

pub technology-requires : goal.technology-requires
technology-requires c = whole-indexed c.requires.0

pub window-window-requires : goal.window-window-requires
window-window-requires c = whole-indexed c.requires.0

pub slots_full-requires : goal.slots_full-requires
unfolding slot
slots_full-requires c = (omega (arith, c.slot_fp.ensures), omega arith)
