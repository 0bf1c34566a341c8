-- The formulas over numbers that were read are the paper's.
use mathlib.Core.Path.{◌≡◌, refl}
use mathlib.Core.Bool.{cond}
use Prim.Native.Nat.{ℕ, ◌+◌, ◌*◌}
use native.Mathlib.Omega.{arith}
use lib.Dec.{eqb}
use Rattle.lists.specs.Sums.{sum_to}
use Rattle.station.specs.Parameters.{Parameters, Amounts, factor, start_heat, no_load_heat, incremental_fuel, output, heat, fuel, emission, adder, own_adder}
use Rattle.rules.specs.Fit.{start, no_load}
use Rattle.rules.specs.Curve.{rise}
use Rattle.formulas.specs.Exact.{quotient, micro_dollars}
use Rattle.formulas.specs.Levels.{adders, additions, start_maintenance, thermal_energy, heat_cost, start_cost, no_load_cost, nuclear_energy, forecast_price}
use Rattle.formulas.specs.Levels.{hydro_energy, third_party}

-- the costs of a level, the common ones and the owners' summed apart
pub all-adders : (m : Amounts) (p v : ℕ) {a b : ℕ} → a ≡ sum_to 5 (λ i. cond (eqb i third_party) 0 (adder m p i v))
    → b ≡ sum_to 5 (λ i. cond (eqb i third_party) 0 (own_adder m 1 p i v + own_adder m 2 p i v)) → a + b ≡ micro_dollars (adders m p v)
unfolding micro_dollars adders sum_to
all-adders m p v e f = omega (arith, e, f)

module _ (s : Parameters) (m : Amounts) (p : ℕ) {f e k : ℕ} (fuel-is : f ≡ fuel m p) (emission-is : e ≡ emission m p) (factor-is : k ≡ factor s) where
  pub heat-costs : (h : ℕ) {r : ℕ} → r ≡ quotient (h * f * k) 1000000 + quotient (h * e) 1000 → r ≡ micro_dollars (heat_cost s m p h)
  unfolding micro_dollars heat_cost
  heat-costs h g = rw (g, fuel-is, emission-is, factor-is) refl

  pub thermal-costs : (i : ℕ) {h o r more : ℕ} → h ≡ rise (heat s) i → o ≡ rise (output s) i
      → r ≡ quotient (h * f * k) (100000 * o) + quotient (h * e) (100 * o)
      → more ≡ micro_dollars (additions s m p) → r + more ≡ micro_dollars (thermal_energy s m p i)
  unfolding micro_dollars thermal_energy
  thermal-costs i a b g t = rw (g, t, a, b, fuel-is, emission-is, factor-is) refl

module _ (s : Parameters) (m : Amounts) (p : ℕ) where
  pub start-costs : {h x a t : ℕ} → h ≡ start_heat s → x ≡ micro_dollars (heat_cost s m p h) → a ≡ micro_dollars (adders m p start)
      → t ≡ micro_dollars (start_maintenance s m p) → x + a + t ≡ micro_dollars (start_cost s m p)
  unfolding micro_dollars start_cost
  start-costs e f g k = rw (f, g, k, e) refl

  pub no_load-costs : {h x a : ℕ} → h ≡ no_load_heat s → x ≡ micro_dollars (heat_cost s m p h) → a ≡ micro_dollars (adders m p no_load)
      → x + a ≡ micro_dollars (no_load_cost s m p)
  unfolding micro_dollars no_load_cost
  no_load-costs e f g = rw (f, g, e) refl

  pub nuclear-costs : {u f k q a : ℕ} → u ≡ incremental_fuel s → f ≡ fuel m p → k ≡ factor s → q ≡ quotient (u * f * k) 1000000000
      → a ≡ micro_dollars (additions s m p) → q + a ≡ micro_dollars (nuclear_energy s m p)
  unfolding micro_dollars nuclear_energy
  nuclear-costs e f g q a = rw (q, e, f, g, a) refl

  pub hydro-costs : {x a : ℕ} → x ≡ forecast_price s m → a ≡ micro_dollars (additions s m p) → x * 10000 + a ≡ micro_dollars (hydro_energy s m p)
  unfolding micro_dollars hydro_energy
  hydro-costs e a = rw (e, a) refl
