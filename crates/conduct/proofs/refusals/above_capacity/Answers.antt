use mathlib.Core.Path.{◌∙◌}
use Prim.Native.Nat.{◌/◌}
use native.Mathlib.Omega.{arith}
use lib.ListN.{length}
use Rattle.lookup.specs.Parts.{parameters_held}
use Rattle.conduct.proofs.Turns.{above-stop, above-next, above-end}
use Rattle.conduct.proofs.refusals.above_capacity.Goals as goal

pub returns-then-capacity-quantity_at : goal.returns-then-capacity-quantity_at
returns-then-capacity-quantity_at c =
    let i = c.loop-k in
    let a = c.args in
    above-stop (parameters_held a.d.now a.index.now) a.offer.now (length a.offer.now / 6) i.k _ _
    c.loop-k-test.true c.capacity-capacity.ensures.0 c.quantity_at.ensures c.if-capacity-quantity_at.true
    ∙ i.invariant.1

pub loop-k-preserved : goal.loop-k-preserved
loop-k-preserved c =
    let i = c.loop-k in
    let a = c.args in (
      omega arith,
      above-next (parameters_held a.d.now a.index.now) a.offer.now (length a.offer.now / 6) i.k _ _
          c.loop-k-test.true c.capacity-capacity.ensures.0 c.quantity_at.ensures c.if-capacity-quantity_at.false
          ∙ i.invariant.1,
    )

pub returns : goal.returns
returns c =
    let i = c.loop-k in
    let a = c.args in
    above-end (parameters_held a.d.now a.index.now) a.offer.now (length a.offer.now / 6) i.k c.loop-k-test.false ∙ i.invariant.1
