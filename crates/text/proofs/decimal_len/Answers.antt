use Prim.Native.Nat.{suc, ◌^◌, ◌<◌, ◌≤◌}
use native.Mathlib.Nat.{pow-suc}
use native.Mathlib.Omega.{arith}
use Rattle.text.proofs.Decimal.{decimal-length, ten-le}
use Rattle.text.proofs.decimal_len.Goals as goal

pub returns : goal.returns
returns c =
    let n = c.args.n in
    let k = c.ilog10.result in
    let low : 0 < k → 10 ^ k ≤ n = λ h. omega (arith, ten-le k h) in
    let high : n < 10 ^ suc k = rw pow-suc (omega arith) in
    omega (arith, decimal-length n k (omega arith) low high)
