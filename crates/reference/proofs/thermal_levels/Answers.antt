use mathlib.Core.Path.{refl, ap, sym, ◌∙◌}
use Prim.Native.Nat.{ℕ, ◌-◌}
use Rattle.parameters.proofs.Always.{points-always}
use Rattle.formulas.specs.Exact.{cents}
use Rattle.arrays.proofs.Packed.{thermal-packed}
use Rattle.reference.proofs.thermal_levels.Goals as goal

pub returns : goal.returns
returns c =
    thermal-packed _ _ _ c.requires.3 refl (c.lamination_count-count.ensures.0 ∙ sym (ap (λ (x : ℕ). x - 1)
    (points-always c.requires.0)))
    c.laminations.ensures.0 c.laminations.ensures.1 c.laminations.ensures.2
    (c.from_sum-start.ensures ∙ ap cents c.start_cost.ensures)
    (c.from_sum-noload.ensures ∙ ap cents c.no_load_cost.ensures)
    (c.from_sum-reserve.ensures ∙ ap cents c.adders.ensures.0)
