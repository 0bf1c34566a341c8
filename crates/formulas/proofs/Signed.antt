-- Sums of prices that are held plus 2^31 are the signed sums, stopped at 0: whatever is paid, less whatever is received.
use mathlib.Core.Path.{◌≡◌, refl, ap}
use Prim.Native.Nat.{ℕ, zero, suc, ◌+◌, ◌*◌, ◌-◌}
use native.Mathlib.Omega.{arith}
use Rattle.fields.specs.Numbers.{bias}
use Rattle.station.specs.Parameters.{Parameters, Amounts, window, charge_price, charge_energy, place_price}
use Rattle.lists.specs.Sums.{sum_to}
use Rattle.formulas.specs.Sums.{list_to, from_top}
use Rattle.formulas.specs.Levels.{total_energy, charging_sum, forecast_place, forecast_price}

-- a held price is the bias and what is paid, less what is received
split-sum : (held paid received energy : ℕ → ℕ) → ((k : ℕ) → held k + received k ≡ bias + paid k) → (n : ℕ)
    → sum_to n (λ k. held k * energy k) + sum_to n (λ k. received k * energy k) ≡ bias * sum_to n energy + sum_to n (λ k. paid k * energy k)
unfolding sum_to
split-sum held paid received energy h zero = refl
split-sum held paid received energy h (suc n) =
    let z : (held (suc n) + received (suc n)) * energy (suc n) ≡ (bias + paid (suc n)) * energy (suc n) = ap (λ (x : ℕ). x * energy (suc n)) (h (suc n)) in
    omega (arith, z, split-sum held paid received energy h n)

pub charging-signed : (s : Parameters) (m : Amounts) (paid received : ℕ → ℕ) → ((k : ℕ) → charge_price m k + received k ≡ bias + paid k)
    → charging_sum s m ≡ sum_to 2016 (λ k. paid k * charge_energy s k) - sum_to 2016 (λ k. received k * charge_energy s k)
unfolding charging_sum total_energy
charging-signed s m paid received h = omega (arith, split-sum (charge_price m) paid received (charge_energy s) h 2016)

-- the forecast's price is the signed one, stopped at 0
pub forecast-signed : (s : Parameters) (m : Amounts) (paid received : ℕ)
    → from_top (forecast_place s) (list_to (window s) (place_price m)) + received ≡ bias + paid → forecast_price s m ≡ paid - received
unfolding forecast_price
forecast-signed s m paid received h = omega (arith, h)
