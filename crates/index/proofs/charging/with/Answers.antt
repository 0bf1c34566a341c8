use native.Mathlib.Nat.{mul-le-mul}
use native.Mathlib.Omega.{arith}
use Rattle.index.proofs.charging.with.Goals as goal

pub overflow_mul-result : goal.overflow_mul-result
overflow_mul-result c = let p = c.requires in record { fits = omega (arith, mul-le-mul p.0 p.1) }

pub overflow_add-result : goal.overflow_add-result
overflow_add-result c = let p = c.requires in record { fits = omega (arith, mul-le-mul p.0 p.1, p.2) }
