use borrow.Author.Tests.{eq-eqb, ne_eqb}
use mathlib.Core.List.{List}
use mathlib.Core.Path.{◌≡◌, ap, ap₂, sym, ◌∙◌}
use Prim.Native.Nat.{ℕ, ◌*◌, ◌-◌}
use native.Mathlib.Omega.{arith}
use lib.ListN.{get_or}
use Rattle.station.specs.Week.{WeekSums}
use Rattle.formulas.specs.Exact.{quotient, micro_dollars}
use Rattle.formulas.specs.Levels.{parameters_in, total_energy, charging_sum, charging_cost}
use Rattle.formulas.proofs.Rounding.{quotient_le}
use Rattle.costs.proofs.storage.charging_cost.Goals as goal

-- the second of the sums is the energy of the formula
energy-is : {d : List ℕ} {sum energy : ℕ} → WeekSums d sum energy → energy ≡ total_energy (parameters_in d)
unfolding total_energy
energy-is w = w.energy-sum

pub returns-then-energy-eq0 : goal.returns-then-energy-eq0
unfolding micro_dollars charging_cost
returns-then-energy-eq0 c = (
  rw (eq-eqb (total_energy _) 0 (sym (energy-is c.requires.2) ∙ c.if-energy-eq0.true)) c.last_cost.ensures.0,
  c.last_cost.ensures.1,
)

pub returns : goal.returns
unfolding micro_dollars charging_cost charging_sum
returns c =
    let s = c.requires.2 in
    let e = energy-is s in
    let x = c.saturating_sub-sum.result in
    let y = get_or c.args.sums.now 1 0 in (
      rw (ne_eqb (total_energy _) 0 (λ z. c.if-energy-eq0.false (e ∙ z)))
          (c.share.ensures.0
          ∙ ap₂ quotient (ap (λ (z : ℕ). z * 10000) (c.saturating_sub-sum.ensures ∙ ap₂ (λ (m n : ℕ). m - 2147483648 * n) s.cost-sum e)) e),
      omega (arith, c.share.ensures.0, quotient_le (x * 10000) y 2000000000 (omega (arith, c.saturating_sub-sum.ensures, s.cost-high))),
    )
