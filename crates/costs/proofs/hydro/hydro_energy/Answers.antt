use mathlib.Core.Path.{refl, sym, ◌∙◌}
use native.Mathlib.Omega.{arith}
use Rattle.lists.specs.Tests.{among}
use Rattle.records.specs.Table.{table, RS}
use Rattle.records.specs.Record.{datable}
use Rattle.lookup.proofs.Held.{says-always}
use Rattle.costs.proofs.Always.{forecast-always}
use Rattle.costs.proofs.Costs.{hydro-costs}
use Rattle.costs.proofs.hydro.hydro_energy.Goals as goal

pub forecast_price-price-requires : goal.forecast_price-price-requires
unfolding datable among table
forecast_price-price-requires c =
    let p = c.requires in
    (p.0, c.window.ensures.0 ∙ says-always p.0 RS 0 refl 8, omega (arith, p.3, c.window.ensures.0), c.window.ensures.1)

pub returns : goal.returns
returns c =
    hydro-costs _ _ _ (c.forecast_price-price.ensures.0 ∙ sym (forecast-always c.requires.0))
    c.additions.ensures.0
