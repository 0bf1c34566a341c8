use mathlib.Core.Path.{◌≡◌}
use mathlib.Core.Bool.{Bool, true, false, cond}
use Prim.Native.Nat.{ℕ, ◌*◌}
use native.Mathlib.Omega.{arith}
use mir.Val.{bool_byte}
use Rattle.words.specs.Words.{held_bits}
use Rattle.words.proofs.held_bits.Goals as goal

-- `words::held_bits` meets its contract.

bit : (x : ℕ) (b : Bool) → x * bool_byte b ≡ cond b x 0
bit x true = omega arith
bit x false = omega arith

pub returns : goal.returns
unfolding held_bits
returns c =
    rw (
      c.from-energy.ensures,
      c.level_held.ensures,
      c.from-start.ensures,
      c.level_held-2.ensures,
      c.from-noload.ensures,
      c.level_held-3.ensures,
      c.from-reserve.ensures,
      c.level_held-4.ensures,
    ) (omega (arith, bit 1, bit 2, bit 4, bit 8))
