use mathlib.Core.Path.{ap, ap₂, ◌∙◌}
use Prim.Native.Nat.{ℕ, ◌*◌, ◌-◌}
use Rattle.lookup.specs.Parts.{held}
use Rattle.station.specs.Parameters.{amounts, hour_price}
use Rattle.formulas.specs.Sums.{list_to, sum_highest}
use Rattle.formulas.specs.Exact.{quotient, micro_dollars}
use Rattle.formulas.specs.Levels.{highest_sum, opportunity_cost}
use Rattle.costs.proofs.storage.opportunity_cost.Goals as goal

pub returns : goal.returns
unfolding micro_dollars opportunity_cost highest_sum
returns c =
    let h = c.full_hours-hours.ensures in
    let e = c.highest_sum-highest.ensures.0 ∙ ap₂
    (λ (n w : ℕ). sum_highest n (list_to w (hour_price (amounts (held c.args.d.now c.args.index.now))))) h
    c.window-window.ensures.0 in
    c.share.ensures.0 ∙ ap₂ quotient (ap (λ (z : ℕ). z * 10000) (c.saturating_sub-sum.ensures ∙ ap₂ (λ (x y : ℕ). x - 2147483648 * y) e h)) h
