use mathlib.Core.Path.{refl, ◌∙◌}
use Prim.Native.Nat.{◌/◌}
use native.Mathlib.Omega.{arith}
use lib.ListN.{length}
use Rattle.arrays.specs.Packed.{laminations_from, in_arrays}
use Rattle.verdicts.specs.Test.{before}
use Rattle.limits.specs.Thresholds.{offer_shown}
use Rattle.limits.proofs.Turns.{all_left, before-next}
use Rattle.limits.proofs.Laminations.{pair-stop, pair-next, pair_end}
use Rattle.limits.proofs.offer_test.Goals as goal

pub loop-k-init : goal.loop-k-init
unfolding before
loop-k-init c = (omega (arith, c.requires.1), refl, all_left (offer_shown _ _ _ 0) _)

-- in each goal, r is what the arrays tell

pub returns-in-Some : goal.returns-in-Some
returns-in-Some c =
    let i = c.loop-k in
    let a = c.args in
    let o = a.offer.now in
    let r = in_arrays a.from.now a.to.now a.cents.now a.count in
    pair-stop a.t r o (length o / 6) i.k _ c.loop-k-test.true i.invariant.1
    c.quantity_at-high.ensures c.price_at-price.ensures.0 c.failing_lamination.ensures c.in-Some.is
    ∙ i.invariant.2

pub loop-k-preserved : goal.loop-k-preserved
loop-k-preserved c =
    let i = c.loop-k in
    let a = c.args in
    let o = a.offer.now in
    let r = in_arrays a.from.now a.to.now a.cents.now a.count in (
      omega arith,
      c.quantity_at-high.ensures ∙ before-next o i.k,
      pair-next a.t r o (length o / 6) i.k _ c.loop-k-test.true i.invariant.1
          c.quantity_at-high.ensures c.price_at-price.ensures.0 c.failing_lamination.ensures c.in_default.is
          ∙ i.invariant.2,
    )

pub returns : goal.returns
returns c =
    let i = c.loop-k in
    let a = c.args in
    let o = a.offer.now in
    let r = in_arrays a.from.now a.to.now a.cents.now a.count in
    pair_end a.t (laminations_from r 0 a.count) o (length o / 6) i.k c.loop-k-test.false ∙ i.invariant.2
