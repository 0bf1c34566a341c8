use mathlib.Core.Path.{refl, sym, ◌∙◌}
use Prim.Native.Nat.{◌/◌}
use native.Mathlib.Omega.{arith}
use lib.ListN.{length}
use Rattle.verdicts.specs.Test.{before}
use Rattle.verdicts.specs.Refusals.{price_before, malformed}
use Rattle.limits.proofs.Turns.{all_left, before-next}
use Rattle.conduct.proofs.Turns.{price_before-next, malformed-stop, malformed-next, malformed-end}
use Rattle.conduct.proofs.refusals.malformed.Goals as goal

pub loop-k-init : goal.loop-k-init
unfolding before price_before
loop-k-init c = (omega (arith, c.requires), refl, refl, all_left (malformed _ 0) _)

pub returns-then-not-pair_holds : goal.returns-then-not-pair_holds
returns-then-not-pair_holds c =
    let i = c.loop-k in
    let o = c.args.offer.now in
    malformed-stop o (length o / 6) i.k i.low i.last _ _ c.loop-k-test.true i.invariant.1 i.invariant.2
    c.quantity_at-high.ensures c.price_at-price.ensures.0
    (sym c.pair_holds.ensures ∙ c.if-not-pair_holds.true)
    ∙ i.invariant.3

pub loop-k-preserved : goal.loop-k-preserved
loop-k-preserved c =
    let i = c.loop-k in
    let o = c.args.offer.now in (
      omega arith,
      c.quantity_at-high.ensures ∙ before-next o i.k,
      c.price_at-price.ensures.0 ∙ price_before-next o i.k,
      malformed-next o (length o / 6) i.k i.low i.last _ _ c.loop-k-test.true i.invariant.1 i.invariant.2
          c.quantity_at-high.ensures c.price_at-price.ensures.0
          (sym c.pair_holds.ensures ∙ c.if-not-pair_holds.false)
          ∙ i.invariant.3,
    )

pub returns : goal.returns
returns c =
    let i = c.loop-k in
    let o = c.args.offer.now in
    malformed-end o (length o / 6) i.k c.loop-k-test.false ∙ i.invariant.3
