use mathlib.Core.Path.{refl, ap, ◌∙◌}
use Prim.Native.Nat.{ℕ, min}
use lib.ListN.{get_or}
use Rattle.limits.specs.Thresholds.{least_of}
use Rattle.limits.proofs.Laminations.{least-next}
use Rattle.limits.proofs.least_level.Goals as goal

pub loop-i-init : goal.loop-i-init
unfolding least_of
loop-i-init c = refl

pub loop-i-preserved : goal.loop-i-preserved
loop-i-preserved c =
    let i = c.loop-i in
    let l = c.args.cents.now in
    c.min-least.ensures ∙ ap (λ (x : ℕ). min x (get_or l i.i 0)) i.invariant ∙ least-next l i.i
