use Prim.Native.Nat.{ℕ, ◌≤◌, ◌-◌}
use native.Mathlib.Omega.{arith}
use mathlib.Core.List.{List}
use mathlib.Core.Path.{◌≡◌, ap}
use lib.ListN.{length, take, drop}
use Rattle.records.specs.Record.{mark, size}
use Rattle.rules.specs.Fit.{fits}
use Rattle.trials.specs.declared.Tried.{Tried}
use Rattle.fit.proofs.Search.{begin, finish, slot-below, no-hour, its-length, refuses, goes_on}
use Rattle.fit.proofs.first_unfit.Goals.{After-tried_at-f}
use Rattle.fit.proofs.first_unfit.Goals as goal

-- what stands at a turn's place, the turn's record first
abbrev rest_of : After-tried_at-f → List ℕ
rest_of c = take (length c.args.d.now - c.loop-at.at) (drop c.loop-at.at c.args.d.now)

its-size : (c : After-tried_at-f) → c.tried_at-f.result.len ≡ size (mark (rest_of c))
its-size c = ap (λ (x : Tried). x.len) c.tried_at-f.ensures

its-fit : (c : After-tried_at-f) → c.tried_at-f.result.fits ≡ fits c.args.t (mark (rest_of c)) (rest_of c)
its-fit c = ap (λ (x : Tried). x.fits) c.tried_at-f.ensures

-- the record lies within the dossier
its : (c : After-tried_at-f) → (1 ≤ c.tried_at-f.result.len) × (c.tried_at-f.result.len ≤ length c.args.d.now - c.loop-at.at)
its c =
    its-length c.args.t c.args.d.now c.args.index.now c.requires.0 c.requires.2 c.loop-at.at c.loop-at-test.true
    c.loop-at.invariant.1 (its-size c)

pub loop-at-init : goal.loop-at-init
loop-at-init c = (omega arith, begin c.args.t c.args.d.now c.args.index.now c.requires.0 c.requires.1 c.requires.2)

pub tried_at-f-requires : goal.tried_at-f-requires
tried_at-f-requires c = c.requires.3

pub not_fit-requires : goal.not_fit-requires
not_fit-requires c =
    let u = (goal.at.not_fit-requires c).After-tried_at-f in (
      slot-below c.args.t c.args.d.now c.args.index.now c.requires.0 c.requires.2 c.loop-at.at c.loop-at-test.true
          c.loop-at.invariant.1 (its-size u),
      omega (arith, its u, its-size u, c.requires.0.short),
      no-hour c.args.t c.args.d.now c.args.index.now c.requires.0 c.requires.2 c.loop-at.at c.loop-at-test.true
          c.loop-at.invariant.1 (its-size u),
    )

pub returns-then-not_fit : goal.returns-then-not_fit
returns-then-not_fit c =
    let u = (goal.at.returns-then-not_fit c).After-tried_at-f in
    refuses c.args.t c.args.d.now c.args.index.now c.requires.0 c.requires.2 c.loop-at.at c.loop-at-test.true
    c.loop-at.invariant.1 (its-size u) (its-fit u) c.not_fit.ensures c.if-not_fit.true

pub overflow_add-at : goal.overflow_add-at
overflow_add-at c = omega (arith, its (goal.at.overflow_add-at c).After-tried_at-f)

pub loop-at-smaller : goal.loop-at-smaller
loop-at-smaller c = omega (arith, its (goal.at.loop-at-smaller c).After-tried_at-f)

pub loop-at-preserved : goal.loop-at-preserved
loop-at-preserved c =
    let u = (goal.at.loop-at-preserved c).After-tried_at-f in (
      omega (arith, its u),
      goes_on c.args.t c.args.d.now c.args.index.now c.requires.0 c.requires.2 c.loop-at.at c.loop-at-test.true
          c.loop-at.invariant.1 (its-size u) (its-fit u) c.not_fit.ensures c.if-not_fit.false,
    )

pub returns : goal.returns
returns c =
    let a = c.args in
    finish a.t a.d.now a.index.now c.loop-at.at c.loop-at-test.false c.loop-at.invariant.1
