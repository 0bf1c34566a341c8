-- A price without the 2^31 that it is held with, in the 64-bit steps of the code.
use mathlib.Core.Path.{◌≡◌, refl, ap}
use mathlib.Core.Bool.{Bool, true, false, cond}
use Prim.Native.Nat.{ℕ, suc, ◌-◌, ◌<◌}
use native.Mathlib.Omega.{arith}
use lib.Dec.{ltb}
use lib.IntN.{pos, negsuc, ◌-ℤ◌}
use mir.Syntax.{w32, w64}
use mir.Val.{SFits, to_z, of_z}
use mir.Facts.{to_z-of_z, to_z_pos}
use borrow.Author.Tests.{ltb-true, ltb-false}
use Rattle.fields.specs.Numbers.{unbiased}

module _ (x : ℕ) (h : x < 4294967296) where
  difference : to_z w64 x -ℤ pos 2147483648 ≡ unbiased x
  unfolding unbiased
  difference = rw (to_z_pos w64 {n = x} (omega arith)) (go (ltb x 2147483648) refl)
    where
      go : (b : Bool) → ltb x 2147483648 ≡ b → cond b (negsuc (2147483648 - suc x)) (pos (x - 2147483648))
          ≡ cond b (negsuc (2147483647 - x)) (pos (x - 2147483648))
      go true e = ap negsuc (omega (arith, ltb-true x 2147483648 e))
      go false e = refl

  pub cents-fit : SFits w32 (unbiased x)
  unfolding unbiased
  cents-fit = go (ltb x 2147483648) refl
    where
      go : (b : Bool) → ltb x 2147483648 ≡ b → SFits w32 (cond b (negsuc (2147483647 - x)) (pos (x - 2147483648)))
      go true e = record { sfits = omega arith }
      go false e = record { sfits = omega (arith, ltb-false x 2147483648 e) }

  wider : SFits w64 (unbiased x)
  unfolding unbiased
  wider = go (ltb x 2147483648) refl
    where
      go : (b : Bool) → ltb x 2147483648 ≡ b → SFits w64 (cond b (negsuc (2147483647 - x)) (pos (x - 2147483648)))
      go true e = record { sfits = omega arith }
      go false e = record { sfits = omega (arith, ltb-false x 2147483648 e) }

  pub difference-fits : SFits w64 (to_z w64 x -ℤ pos 2147483648)
  difference-fits = rw difference wider

  pub narrowed : to_z w64 (of_z w64 (to_z w64 x -ℤ pos 2147483648)) ≡ unbiased x
  narrowed = rw difference (to_z-of_z wider)
