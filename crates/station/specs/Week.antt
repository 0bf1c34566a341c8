-- "Charging week in one pass": the prices and energies of the week's intervals, and their sums.
use Rattle.std.specs.Prelude.{◌≡◌, List, ℕ, ◌*◌, ◌≤◌, ℤ, get_or}
use Rattle.lists.specs.Sums.{sum_to, up_to}
use Rattle.fields.specs.Numbers.{unbiased}
use Rattle.records.specs.Table.{CH}
use Rattle.records.specs.Record.{told}
use Rattle.records.specs.Dossier.{records}
use Rattle.station.specs.Current.{lookup}
use Rattle.station.specs.Parameters.{parameters, amounts, charge_price, charge_energy}

-- "each of the 2,016 intervals"
abbrev pub intervals : ℕ
intervals = 2_016

-- the price of interval n, in cents: "what the lookup by key gives", "both 0 where there is none"
unfoldable pub week_price : List ℕ → ℕ → ℤ
week_price d n = unbiased (told CH 1 (lookup d CH n))

-- its energy, in kWh: "what the lookup by key gives", "both 0 where there is none"
unfoldable pub week_energy : List ℕ → ℕ → ℕ
week_energy d n = told CH 2 (lookup d CH n)

-- the prices of the week, interval 1 first: "the dossier is read once into prices and energies", "at each interval"
unfoldable pub week_prices : List ℕ → List ℤ
week_prices d = up_to intervals (week_price d)

-- its energies: "the dossier is read once into prices and energies", "at each interval"
unfoldable pub week_energies : List ℕ → List ℕ
week_energies d = up_to intervals (week_energy d)

-- "the week's sum": price × energy, the price plus 2^31, and energy, added up, and how high they reach; the laws `price-of-week` and `energy-of-week` say
-- that these are the week's
pub record WeekSums (d : List ℕ) (cost energy : ℕ) : Type 0 where
  pub cost-sum : cost ≡ sum_to intervals (λ n. charge_price (amounts (records d)) n * charge_energy (parameters (records d)) n)
  pub energy-sum : energy ≡ sum_to intervals (charge_energy (parameters (records d)))
  pub cost-high : cost ≤ 2147683648 * energy
  pub energy-high : energy ≤ 2016000000

-- the same of a list of two sums
abbrev pub WeekIn : List ℕ → List ℕ → Type 0
WeekIn d l = WeekSums d (get_or l 0 0) (get_or l 1 0)
