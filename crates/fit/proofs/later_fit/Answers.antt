use mathlib.Core.Path.{refl}
use Prim.Native.Nat.{ℕ}
use native.Mathlib.Omega.{arith}
use borrow.Author.Tests.{lt-ltb}
use Rattle.fit.specs.BySlots.{owners_fit}
use Rattle.fit.proofs.later_fit.Goals as goal

pub returns-then-top-lt166 : goal.returns-then-top-lt166
unfolding owners_fit
returns-then-top-lt166 c =
    let m : ℕ = c.args.top in
    rw (lt-ltb m 334 (omega (arith, c.if-top-lt166.true)), lt-ltb m 166 c.if-top-lt166.true) refl
