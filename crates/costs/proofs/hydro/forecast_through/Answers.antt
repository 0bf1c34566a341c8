use mathlib.Core.Path.{ap, ◌∙◌}
use Prim.Native.Nat.{ℕ, ◌-◌, ◌/◌}
use native.Mathlib.Omega.{arith}
use Rattle.records.specs.Dossier.{records}
use Rattle.station.specs.Parameters.{amounts, place_price}
use Rattle.formulas.specs.Sums.{list_to, from_top}
use Rattle.formulas.specs.Levels.{forecast_place, forecast_price}
use Rattle.costs.proofs.hydro.forecast_through.Goals as goal

pub returns : goal.returns
unfolding forecast_price forecast_place
returns c =
    let m = amounts (records c.args.d.now) in
    let e = c.price_from_top-price.ensures.0 ∙ ap (λ (w : ℕ). from_top (w / 50) (list_to w (place_price m))) c.requires.2 in
    (c.saturating_sub.ensures ∙ ap (λ (x : ℕ). x - 2147483648) e, omega (arith, c.saturating_sub.ensures, c.price_from_top-price.ensures.1))
