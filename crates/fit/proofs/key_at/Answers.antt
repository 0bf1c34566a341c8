use mathlib.Core.Path.{refl}
use native.Mathlib.Omega.{arith}
use Rattle.fields.specs.Numbers.{number}
use Rattle.fit.proofs.Search.{key-most, key-next}
use Rattle.fit.proofs.key_at.Goals as goal

pub loop-i-init : goal.loop-i-init
loop-i-init c = (unfold number in refl, omega arith)

pub overflow_mul-key : goal.overflow_mul-key
overflow_mul-key c = omega (arith, key-most c.loop-i.i (omega arith))

pub overflow_add-key : goal.overflow_add-key
overflow_add-key c = omega (arith, key-most c.loop-i.i (omega arith))

pub loop-i-preserved : goal.loop-i-preserved
loop-i-preserved c = key-next c.args.s.now c.loop-i.i c.loop-i.invariant.0 c.loop-i.invariant.1 c.byte_at.ensures c.byte_at.type_inv
