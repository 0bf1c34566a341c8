use mathlib.Core.Path.{refl}
use Prim.Native.Nat.{◌≤◌, ◌-◌}
use native.Mathlib.Omega.{arith}
use lib.ListN.{length}
use borrow.Author.Tests.{eq-eqb}
use Rattle.fit.specs.BySlots.{values_fit}
use Rattle.fit.proofs.Values.{ask-first, ask-last, ask-within, ask-stops, ask-next}
use Rattle.fit.proofs.values_fit.Goals.{After-length_of-at}
use Rattle.fit.proofs.values_fit.Goals as goal

-- a turn's record lies within the dossier
its : (c : After-length_of-at) → (1 ≤ c.length_of-at.result) × (c.length_of-at.result ≤ length c.args.d.now - c.loop-at.at)
its c =
    ask-within c.args.t c.args.d.now c.if-t-eq1.false c.loop-at.at c.loop-at-test.true c.loop-at.invariant.1
    c.mark_at-mark.ensures c.length_of-at.ensures

pub returns-then-t-eq1 : goal.returns-then-t-eq1
unfolding values_fit
returns-then-t-eq1 c = rw (eq-eqb _ 1 c.if-t-eq1.true) refl

pub loop-at-init : goal.loop-at-init
loop-at-init c = (omega arith, ask-first c.args.t c.args.d.now c.requires.0)

pub returns-then-not-value_fits : goal.returns-then-not-value_fits
returns-then-not-value_fits c =
    let a = c.args in
    ask-stops a.t a.d.now c.if-t-eq1.false c.loop-at.at c.loop-at-test.true c.loop-at.invariant.1
    c.mark_at-mark.ensures refl c.value_fits.ensures c.if-not-value_fits.true

pub loop-at-preserved : goal.loop-at-preserved
loop-at-preserved c = (
  omega (arith, its (goal.at.loop-at-preserved c).After-length_of-at),
  ask-next c.args.t c.args.d.now c.if-t-eq1.false c.loop-at.at c.loop-at-test.true c.loop-at.invariant.1
      c.mark_at-mark.ensures c.length_of-at.ensures c.value_fits.ensures c.if-not-value_fits.false,
)

pub returns : goal.returns
returns c =
    let a = c.args in
    ask-last a.t a.d.now c.if-t-eq1.false c.loop-at.at c.loop-at-test.false c.loop-at.invariant.1

pub overflow_add-at : goal.overflow_add-at
overflow_add-at c = omega (arith, its (goal.at.overflow_add-at c).After-length_of-at)

pub loop-at-smaller : goal.loop-at-smaller
loop-at-smaller c = omega (arith, its (goal.at.loop-at-smaller c).After-length_of-at)
