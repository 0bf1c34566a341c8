-- What is worked out of kinds without first hours is the same of the index at hand and of the dossier.
use mathlib.Core.Path.{◌≡◌, refl}
use mathlib.Core.Bool.{cond}
use mathlib.Core.List.{List}
use Prim.Native.Nat.{ℕ, ◌*◌, ◌-◌, ◌/◌}
use lib.Dec.{eqb}
use Rattle.records.specs.Table.{table, RS, CH, FP, LC}
use Rattle.records.specs.Record.{datable}
use Rattle.lookup.specs.Parts.{Indexed, parameters_held, amounts_held}
use Rattle.lookup.proofs.Held.{says-always, of-always}
use Rattle.lists.specs.Sums.{sum_to}
use Rattle.lists.specs.Tests.{among}
use Rattle.formulas.specs.Sums.{list_to, from_top}
use Rattle.formulas.specs.Exact.{whole, share}
use Rattle.formulas.specs.Levels.{parameters_in, amounts_in, total_energy, charging_sum, charging_cost, forecast_place, forecast_price}

module _ {d ix : List ℕ} (h : Indexed d ix) where
  pub charging-always : charging_cost (parameters_held d ix) (amounts_held d ix) ≡ charging_cost (parameters_in d) (amounts_in d)
  unfolding charging_cost charging_sum total_energy datable among table
  charging-always =
      λ j. cond (eqb (sum_to 2016 (λ n. says-always h CH n refl 2 j)) 0) (whole (of-always h LC 0 refl 0 j))
      (share ((sum_to 2016 (λ n. of-always h CH n refl 1 j * says-always h CH n refl 2 j) - 2147483648 * sum_to 2016
      (λ n. says-always h CH n refl 2 j)) * 10000) (sum_to 2016 (λ n. says-always h CH n refl 2 j)))

  pub forecast-always : forecast_price (parameters_held d ix) (amounts_held d ix) ≡ forecast_price (parameters_in d) (amounts_in d)
  unfolding forecast_price forecast_place datable among table
  forecast-always = λ j. from_top (says-always h RS 0 refl 8 j / 50) (list_to (says-always h RS 0 refl 8 j) (λ n. of-always h FP n refl 1 j)) - 2147483648
