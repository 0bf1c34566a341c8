use Prim.Native.Nat.{◌*◌, ◌≤◌}
use native.Mathlib.Nat.{mul-le-mul}
use native.Mathlib.Omega.{arith}
use Rattle.arithmetic.proofs.Selection.{highest-sum}
use Rattle.arithmetic.proofs.highest.highest.Goals as goal

-- the threshold as often as there are hours
times : (c : goal.After-excess) → c.args.n * c.price_threshold-v.result ≤ 168 * 4294967295
times c =
    let a : c.args.n ≤ 168 = omega arith in
    let b : c.price_threshold-v.result ≤ 4294967295 = omega arith in
    mul-le-mul a b

pub returns : goal.returns
returns c =
    let e = highest-sum _ _ c.args.s.now c.price_threshold-v.ensures.0 in
    (omega (arith, e, c.excess.ensures.0), omega (arith, times c))
