use mathlib.Core.Path.{ap}
use native.Mathlib.Omega.{arith}
use Rattle.trials.specs.declared.Tried.{Tried}
use Rattle.counting.proofs.Loops.{hour-low, later, behind, fitted, unfitted}
use Rattle.counting.proofs.step.Goals as goal

pub returns-then-least-hour : goal.returns-then-least-hour
returns-then-least-hour c =
    let a = c.args in (
      later a.t a.d.now a.s a.x c.since_at-hour.ensures c.least_of-least.ensures (omega (arith, c.if-least-hour.true)),
      hour-low a.t a.d.now a.s a.x c.since_at-hour.ensures c.least_of-least.ensures c.since_at-hour.type_inv,
    )

pub returns-then-found-at : goal.returns-then-found-at
returns-then-found-at c =
    let a = c.args in (
      behind a.t a.d.now a.s a.x c.since_at-hour.ensures c.least_of-least.ensures (omega (arith, c.if-least-hour.false))
          (omega (arith, c.if-found-at.true)),
      hour-low a.t a.d.now a.s a.x c.since_at-hour.ensures c.least_of-least.ensures c.since_at-hour.type_inv,
    )

pub returns-then-f : goal.returns-then-f
returns-then-f c =
    let a = c.args in (
      fitted a.t a.d.now a.s a.x c.since_at-hour.ensures c.least_of-least.ensures (omega (arith, c.if-least-hour.false))
          (ap (λ (f : Tried). f.fits) c.tried_at-f.ensures) c.if-f.true,
      hour-low a.t a.d.now a.s a.x c.since_at-hour.ensures c.least_of-least.ensures c.since_at-hour.type_inv,
    )

pub returns : goal.returns
returns c =
    let a = c.args in (
      unfitted a.t a.d.now a.s a.x c.since_at-hour.ensures c.least_of-least.ensures (omega (arith, c.if-least-hour.false))
          (ap (λ (f : Tried). f.fits) c.tried_at-f.ensures) c.if-f.false (omega (arith, c.if-found-at.false)),
      hour-low a.t a.d.now a.s a.x c.since_at-hour.ensures c.least_of-least.ensures c.since_at-hour.type_inv,
    )
