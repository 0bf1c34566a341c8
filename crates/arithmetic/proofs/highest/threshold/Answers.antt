use native.Mathlib.Omega.{arith}
use Rattle.arithmetic.proofs.Selection.{threshold-middle}
use Rattle.arithmetic.proofs.highest.threshold.Goals as goal

pub returns-else-count-n : goal.returns-else-count-n
returns-else-count-n c =
    let s = c.args.s.now in
    (threshold-middle _ _ _ s (omega (arith, c.above-count.ensures)) (omega (arith, c.above-count.ensures)), omega arith, omega arith)
