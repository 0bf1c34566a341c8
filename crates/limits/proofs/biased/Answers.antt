use mathlib.Core.Path.{ap}
use native.Mathlib.Omega.{arith}
use lib.IntN.{nat_abs}
use Rattle.limits.proofs.Signed.{biased_of-lt, held}
use Rattle.limits.proofs.biased.Goals as goal

-- `biased` meets its contract: in 64 bits the sum neither wraps nor falls below 0.

pub returns : goal.returns
returns c =
    let e = ap nat_abs (held _ c.ranges.price) in
    (e, omega (arith, e, biased_of-lt _ c.ranges.price))
