-- "Charging week in one pass": the week of an accepted dossier, interval by interval, and the charging cost, which is the week's.
use Rattle.std.specs.Prelude.{◌≡◌, cond, List, [], ◌∷◌, ◌++◌, ℕ, ◌*◌, ◌-◌, ◌%◌, ◌≤◌, eqb, ℤ, pos, negsuc, ◌+ℤ◌, ◌*ℤ◌, length, get_or, drop}
use Rattle.fields.specs.Numbers.{number, bytes_of, signed}
use Rattle.station.specs.Current.{lookup_bytes}
use Rattle.station.specs.InForce.{Query}
use Rattle.station.specs.Parameters.{last_cost}
use Rattle.station.specs.Week.{week_prices, week_energies}
use Rattle.rules.specs.Answer.{IsAccepted}
use Rattle.rules.specs.Week.{prices_after, energies_after}
use Rattle.formulas.specs.Sums.{sum_of}
use Rattle.formulas.specs.Exact.{Sum, whole, share}
use Rattle.formulas.specs.Levels.{amounts_in, parameters_at, amounts_at, charging_cost}

-- ---- an interval

-- the part that the lookup gives for interval n: by the letters CH, and n in two bytes
abbrev pub part_of : List ℕ → ℕ → List ℕ
part_of d n = lookup_bytes d (67 ∷ 72 ∷ []) (bytes_of 2 n)

-- the price in a part: the four bytes from byte 8 on, with their sign, modulo 2^32 where they are no bytes; 0 in an empty part
abbrev pub price_in : List ℕ → ℤ
price_in r = signed (number 8 4 r % 4294967296)

-- the energy in a part: the four bytes from byte 12 on; 0 in an empty part
abbrev pub energy_in : List ℕ → ℕ
energy_in r = number 12 4 r

-- ---- the charging cost of some prices and energies

-- price × energy, added up
unfoldable pub paid_for : List ℤ → List ℕ → ℤ
paid_for [] es = pos 0
paid_for (p ∷ ps) [] = pos 0
paid_for (p ∷ ps) (e ∷ es) = p *ℤ pos e +ℤ paid_for ps es

-- 0 if below 0
abbrev pub or_zero : ℤ → ℕ
or_zero (pos n) = n
or_zero (negsuc n) = 0

-- energy, added up
abbrev pub charged : List ℕ → ℕ
charged es = sum_of (λ e. e) es

-- "sum of price × energy over intervals, 0 if below 0, × 10,000 / total energy", and the last cost where total energy is 0
abbrev pub cost_of_week : List ℤ → List ℕ → ℕ → Sum
cost_of_week ps es last = cond (eqb (charged es) 0) (whole last) (share (or_zero (paid_for ps es) * 10000) (charged es))

-- ---- the claim

-- "In an accepted dossier they equal, at each interval, what the lookup by key gives": interval n is at place n - 1, and both are 0 where the part is empty;
-- so it is in lent lists of 2,016 places or more, after the call; and the charging cost, for every query, is that of these prices and
-- energies, and of LC
pub record LookedUp (d : List ℕ) : Type 0 where
  pub prices-many : length (week_prices d) ≡ 2016
  pub energies-many : length (week_energies d) ≡ 2016
  pub price : (n : ℕ) → 1 ≤ n → n ≤ 2016 → get_or (week_prices d) (n - 1) (pos 0) ≡ price_in (part_of d n)
  pub energy : (n : ℕ) → 1 ≤ n → n ≤ 2016 → get_or (week_energies d) (n - 1) 0 ≡ energy_in (part_of d n)
  pub no-price : (n : ℕ) → 1 ≤ n → n ≤ 2016 → part_of d n ≡ [] → get_or (week_prices d) (n - 1) (pos 0) ≡ pos 0
  pub no-energy : (n : ℕ) → 1 ≤ n → n ≤ 2016 → part_of d n ≡ [] → get_or (week_energies d) (n - 1) 0 ≡ 0
  pub prices-after : (ps : List ℤ) (es : List ℕ) → 2016 ≤ length ps → 2016 ≤ length es → prices_after d ps es ≡ week_prices d ++ drop 2016 ps
  pub energies-after : (ps : List ℤ) (es : List ℕ) → 2016 ≤ length ps → 2016 ≤ length es → energies_after d ps es ≡ week_energies d ++ drop 2016 es
  pub cost : (q : Query) → charging_cost (parameters_at d q) (amounts_at d q) ≡ cost_of_week (week_prices d) (week_energies d) (last_cost (amounts_in d))

-- the week of every accepted dossier
abbrev pub WeekLookedUp : Type 0
WeekLookedUp = (d : List ℕ) → IsAccepted d → LookedUp d
