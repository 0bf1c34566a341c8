use mathlib.Core.Path.{◌≡◌, ◌∙◌}
use Prim.Native.Nat.{◌-◌, ◌/◌}
use native.Mathlib.Omega.{arith}
use lib.ListN.{length}
use Rattle.station.specs.Parameters.{capacity}
use Rattle.lookup.specs.Parts.{parameters_held}
use Rattle.verdicts.specs.Test.{quantity}
use Rattle.verdicts.specs.Refusals.{above_capacity}
use Rattle.limits.proofs.Turns.{all_left}
use Rattle.conduct.proofs.Turns.{above-end, within-capacity}
use Rattle.conduct.proofs.refusals.capacity_refusal.Goals as goal

pub returns-then-pairs-eq0 : goal.returns-then-pairs-eq0
returns-then-pairs-eq0 c =
    let a = c.args in
    let s = parameters_held a.d.now a.index.now in
    let n = length a.offer.now / 6 in
    above-end s a.offer.now n 0 (omega (arith, c.if-pairs-eq0.true)) ∙ all_left (above_capacity s a.offer.now 0) n

pub returns-then-quantity_at-capacity : goal.returns-then-quantity_at-capacity
returns-then-quantity_at-capacity c =
    let o = c.args.offer.now in
    let e : c.capacity-capacity.result ≡ capacity (parameters_held c.args.d.now c.args.index.now) = c.capacity-capacity.ensures.0 in
    let f : c.quantity_at.result ≡ quantity o (length o / 6 - 1) = c.quantity_at.ensures in
    within-capacity o (length o / 6) c.requires.2 (parameters_held c.args.d.now c.args.index.now) (omega (arith, e, f, c.if-quantity_at-capacity.true))
