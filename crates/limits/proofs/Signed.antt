-- A signed 32-bit number plus 2^31, in the 64-bit steps of the code.
use mathlib.Core.Path.{◌≡◌, refl, ap}
use Prim.Native.Nat.{suc, ◌<◌}
use native.Mathlib.Omega.{arith}
use lib.IntN.{ℤ, pos, negsuc, ◌+ℤ◌}
use mir.Syntax.{w32, w64}
use mir.Val.{SFits, to_z, of_z}
use mir.Facts.{to_z-of_z}
use borrow.Author.Tests.{le-ltb}
use Rattle.fields.specs.Numbers.{biased_of}

pub wider : (y : ℤ) → SFits w32 y → SFits w64 y
wider (pos n) f = record { sfits = omega (arith, f.sfits) }
wider (negsuc n) f = record { sfits = omega (arith, f.sfits) }

pub biased_of-lt : (y : ℤ) → SFits w32 y → biased_of y < 4294967296
unfolding biased_of
biased_of-lt (pos n) f = omega (arith, f.sfits)
biased_of-lt (negsuc n) f = omega arith

module _ (y : ℤ) (f : SFits w32 y) where
  sum_is : to_z w64 (of_z w64 (to_z w32 (of_z w32 y))) +ℤ to_z w64 2147483648 ≡ pos (biased_of y)
  unfolding biased_of
  sum_is = rw (to_z-of_z f, to_z-of_z (wider y f)) (go y f)
    where
      go : (z : ℤ) → SFits w32 z → z +ℤ pos 2147483648 ≡ pos (biased_of z)
      go (pos n) g = refl
      go (negsuc n) g = rw (le-ltb 2147483648 (suc n) (omega (arith, g.sfits))) (ap pos (omega arith))

  held_fits : SFits w64 (pos (biased_of y))
  held_fits = record { sfits = omega (arith, biased_of-lt y f) }

  pub held : to_z w64 (of_z w64 (to_z w64 (of_z w64 (to_z w32 (of_z w32 y))) +ℤ to_z w64 2147483648)) ≡ pos (biased_of y)
  held = rw sum_is (to_z-of_z held_fits)
