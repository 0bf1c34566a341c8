use mathlib.Core.Path.{◌≡◌, refl}
use Prim.Native.Nat.{◌^◌, ◌+◌, ◌≤◌}
use native.Mathlib.Omega.{arith}
use Rattle.std.proofs.Math.Nat.{pow-le-pow_right, pow-suc}
use Rattle.std.proofs.Math.Numerals.{add-one}
use lib.Dec.{lit<}
use Rattle.fields.specs.Numbers.{number}
use Rattle.lookup.proofs.key_number.Goals as goal

pub loop-byte-init : goal.loop-byte-init
unfolding number
loop-byte-init c = (refl, lit< tt)

pub overflow_mul-n : goal.overflow_mul-n
overflow_mul-n c =
    let i : c.loop-byte.byte-index ≤ 3 = omega arith in
    let b : 256 ^ c.loop-byte.byte-index ≤ 256 ^ 3 = pow-le-pow_right (lit< tt) i in
    omega arith

pub loop-byte-preserved : goal.loop-byte-preserved
unfolding number
loop-byte-preserved c =
    let l = c.loop-byte in
    let here : 0 + l.byte-index ≡ l.byte-index = omega arith in
    rw add-one
    (rw (here, l.invariant.0, c.from.ensures) refl, rw (pow-suc 256 l.byte-index) (omega (arith, c.type_inv.key l.byte-index, c.from.ensures)))
