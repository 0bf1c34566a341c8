use Rattle.rules.proofs.Draws.{draws-7, draws-8, draws-9, draws-17, draws-none}
use mathlib.Core.Path.{sym, ◌∙◌}
use Rattle.lookup.proofs.Held.{whole-indexed}
use Rattle.requirements.proofs.unsupported_of.Goals as goal

pub returns-then-not-curve_fits : goal.returns-then-not-curve_fits
returns-then-not-curve_fits c = draws-7 _ _ (sym c.if-not-curve_fits.true ∙ c.curve_fits.ensures)

pub returns-then-not-fuel_holds : goal.returns-then-not-fuel_holds
returns-then-not-fuel_holds c =
    draws-8 _ _ (sym c.if-not-curve_fits.false ∙ c.curve_fits.ensures)
    (sym c.if-not-fuel_holds.true ∙ c.fuel_holds.ensures)

pub returns-then-not-window_fits : goal.returns-then-not-window_fits
returns-then-not-window_fits c =
    draws-9 _ _ (sym c.if-not-curve_fits.false ∙ c.curve_fits.ensures)
    (sym c.if-not-fuel_holds.false ∙ c.fuel_holds.ensures)
    (sym c.if-not-window_fits.true ∙ c.window_fits.ensures)

pub returns-then-not-forecast_fits : goal.returns-then-not-forecast_fits
returns-then-not-forecast_fits c =
    draws-17 _ _ (sym c.if-not-curve_fits.false
    ∙ c.curve_fits.ensures)
    (sym c.if-not-fuel_holds.false ∙ c.fuel_holds.ensures)
    (sym c.if-not-window_fits.false ∙ c.window_fits.ensures)
    (sym c.if-not-forecast_fits.true ∙ c.forecast_fits.ensures)

pub returns : goal.returns
returns c =
    draws-none _ _ (sym c.if-not-curve_fits.false
    ∙ c.curve_fits.ensures)
    (sym c.if-not-fuel_holds.false ∙ c.fuel_holds.ensures)
    (sym c.if-not-window_fits.false ∙ c.window_fits.ensures)
    (sym c.if-not-forecast_fits.false ∙ c.forecast_fits.ensures)

pub curve_fits-requires : goal.curve_fits-requires
curve_fits-requires c = whole-indexed c.requires.0
