-- A number's digits, stored from the last on, each before those that stand already.
use mathlib.Core.Path.{◌≡◌}
use mathlib.Core.List.{List, ◌++◌, append_assoc}
use Prim.Native.Nat.{ℕ, zero, suc, ◌+◌, ◌-◌, ◌/◌, ◌%◌, ◌<◌, ◌≤◌}
use native.Mathlib.Omega.{arith}
use lib.ListN.{length, drop, set}
use Rattle.text.proofs.Decimal.{last_digits}
use Rattle.text.proofs.Over.{stored}

-- w is what the buffer shall hold: a digit stored leaves a tenth of the number to store
pub more : (w buf : List ℕ) (i m v : ℕ) → 0 < i → i ≤ length buf → v ≡ 48 + m % 10 → last_digits i m ++ drop i buf ≡ w
    → last_digits (i - 1) (m / 10) ++ drop (i - 1) (set buf (i - 1) v) ≡ w
unfolding last_digits
more w buf zero m v h q d e = absurd (omega arith)
more w buf (suc i) m v h q d e =
    let k : suc i - 1 ≡ i = omega arith in
    rw (k, stored buf i v (omega arith), d) (simp append_assoc at e)
