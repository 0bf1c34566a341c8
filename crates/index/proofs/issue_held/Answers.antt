use mathlib.Core.Path.{ap}
use Prim.Native.Nat.{ℕ, ◌+◌}
use native.Mathlib.Omega.{arith}
use lib.Dec.{ltb, eqb}
use lib.ListN.{length}
use borrow.Author.Tests.{ltb-false}
use Rattle.lists.proofs.Tests.{or-false-right}
use Rattle.index.specs.Slots.{held_issue}
use Rattle.index.proofs.issue_held.Goals as goal

pub returns-then-q-d : goal.returns-then-q-d
unfolding held_issue
returns-then-q-d c = simp c.if-q-d.true

pub u32_at-requires : goal.u32_at-requires
u32_at-requires c =
    let a = c.args in
    omega (
      arith,
      c.requires,
      ltb-false (length a.d.now) (a.v + 5)
          (or-false-right (eqb a.v 0) (ltb (length a.d.now) (a.v + 5)) c.if-q-d.false),
    )

pub returns : goal.returns
unfolding held_issue
returns c = simp c.if-q-d.false (ap (λ (x : ℕ). x + 1) c.u32_at.ensures)
