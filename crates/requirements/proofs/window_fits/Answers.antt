use mathlib.Core.Path.{sym, ◌∙◌}
use Prim.Native.Nat.{◌≤◌}
use native.Mathlib.Omega.{arith}
use Rattle.records.specs.Dossier.{records}
use Rattle.station.specs.Parameters.{parameters}
use Rattle.index.specs.Slots.{slot}
use Rattle.lookup.proofs.Held.{whole-indexed}
use Rattle.parameters.proofs.Always.{full-hours-always}
use Rattle.parameters.proofs.Station.{storage-window}
use Rattle.requirements.proofs.Always.{technology-always, window-always}
use Rattle.requirements.proofs.Window.{window-none, window-whole, hours-told}
use Rattle.requirements.proofs.window_fits.Goals as goal

pub returns-then-technology-ne3 : goal.returns-then-technology-ne3
returns-then-technology-ne3 c =
    let h = whole-indexed c.requires.0 in
    window-none (parameters (records c.args.d.now)) _ (c.technology.ensures.0 ∙ technology-always h) c.if-technology-ne3.true

pub slots_full-requires : goal.slots_full-requires
unfolding slot
slots_full-requires c = (omega (arith, c.slot_hr.ensures), omega arith)

pub returns : goal.returns
returns c =
    let h = whole-indexed c.requires.0 in
    let t = c.technology.ensures.0 ∙ technology-always h in
    let w = c.window-window.ensures.0 ∙ window-always h in
    let high : c.window-window.result ≤ 168 = omega (arith, storage-window _ _ h (sym t ∙ c.if-technology-ne3.false), w) in
    window-whole (parameters (records c.args.d.now)) _ t c.if-technology-ne3.false (c.full_hours-hours.ensures ∙ full-hours-always h) w
    (c.slots_full.ensures ∙ hours-told _ _ c.requires.0 c.requires.1 _ c.slot_hr.ensures high)

pub technology-requires : goal.technology-requires
technology-requires c = whole-indexed c.requires.0

pub full_hours-hours-requires : goal.full_hours-hours-requires
full_hours-hours-requires c = whole-indexed c.requires.0

pub window-window-requires : goal.window-window-requires
window-window-requires c = whole-indexed c.requires.0
