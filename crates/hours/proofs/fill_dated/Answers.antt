use native.Mathlib.Omega.{arith}
use mathlib.Core.Path.{◌≡◌, refl}
use mathlib.Core.List.{List}
use Prim.Native.Nat.{ℕ, ◌≤◌, ◌<◌, ◌-◌}
use lib.ListN.{length, take, drop}
use Rattle.records.specs.Record.{mark, size}
use Rattle.hours.proofs.Loop.{Left, begin, finish, known, its-size, its-least, slot-in, turns}
use Rattle.hours.proofs.fill_dated.Goals as goal

pub loop-at-init : goal.loop-at-init
loop-at-init c = (omega arith, refl, begin _ _ _ c.requires.2)

pub returns-then-rest-lt-SHORTEST : goal.returns-then-rest-lt-SHORTEST
returns-then-rest-lt-SHORTEST c =
    absurd (its-least _ _ _ _ _ c.loop-at-test.true c.loop-at.invariant.2 c.if-rest-lt-SHORTEST.true)

pub put_record-at-requires : goal.put_record-at-requires
put_record-at-requires c =
    let t = c.loop-at-test.true in (
      known _ _ _ _ _ t c.loop-at.invariant.2,
      omega (arith, slot-in _ _ _ _ _ t c.loop-at.invariant.2, c.loop-at.invariant.1, c.requires.0),
      c.requires.1,
      omega (arith, t, c.requires.1),
    )

-- how long the record is
its-length : (h : ℕ) (d ix₀ ix : List ℕ) (p : ℕ) {n : ℕ} → p < length d → Left h d ix₀ p ix → n ≡ size (mark (take (length d - p) (drop p d)))
    → (1 ≤ n) × (n ≤ length d - p)
its-length h d ix₀ ix p t l e = rw e (its-size h d ix₀ ix p t l)

pub overflow_add-at : goal.overflow_add-at
overflow_add-at c = omega (arith, its-length _ _ _ _ _ c.loop-at-test.true c.loop-at.invariant.2 c.put_record-at.ensures.0)

pub loop-at-smaller : goal.loop-at-smaller
loop-at-smaller c = omega (arith, its-length _ _ _ _ _ c.loop-at-test.true c.loop-at.invariant.2 c.put_record-at.ensures.0)

pub loop-at-preserved : goal.loop-at-preserved
loop-at-preserved c =
    let p = c.put_record-at in (
      omega (arith, its-length _ _ _ _ _ c.loop-at-test.true c.loop-at.invariant.2 p.ensures.0),
      omega (arith, p.auto, c.loop-at.invariant.1),
      turns _ _ _ _ _ c.loop-at-test.true c.loop-at.invariant.2 p.ensures.0 p.ensures.1,
    )

pub returns : goal.returns
returns c =
    let a = c.args in
    finish a.hour a.d.now a.index.now c.loop-at.index c.loop-at.at c.loop-at-test.false c.loop-at.invariant.2
