use mathlib.Core.Path.{ap, ap₂, sym, ◌∙◌}
use Prim.Native.Nat.{ℕ, ◌+◌, ◌*◌}
use Rattle.formulas.specs.Exact.{quotient, micro_dollars}
use Rattle.formulas.specs.Levels.{short_run_cost}
use Rattle.costs.proofs.Always.{charging-always}
use Rattle.costs.proofs.storage.short_run_cost.Goals as goal

pub returns : goal.returns
unfolding micro_dollars short_run_cost
returns c =
    let q = c.share.ensures.0 ∙ ap₂ quotient (ap₂ (λ (x y : ℕ). (x + y) * 1000)
    (c.charging_cost.ensures.0
    ∙ sym (ap micro_dollars (charging-always c.requires.0))) c.fuel.ensures.0)
    c.efficiency-efficiency.ensures.0 in
    ap₂ (λ (x y : ℕ). x + y) q c.additions.ensures.0
