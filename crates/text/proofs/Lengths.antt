-- How long a text is, from the lengths of its parts.
use mathlib.Core.Path.{◌≡◌}
use Prim.Native.Nat.{ℕ, ◌+◌, ◌/◌}
use native.Mathlib.Omega.{arith}
use lib.ListN.{length, length-append}
use Rattle.text.specs.Text.{decimal, tenths, hundredths, refusal_line}
use Rattle.text.proofs.Decimal.{decimal-within}

pub tenths-length : (n : ℕ) → length (tenths n) ≡ length (decimal (n / 10)) + 2
unfolding tenths
tenths-length n = simp length-append (omega arith)

pub hundredths-length : (n : ℕ) → length (hundredths n) ≡ length (tenths (n / 10)) + 1
unfolding hundredths
hundredths-length n = simp length-append

pub refusal-length : (n p : ℕ) → length (refusal_line n p) ≡ length (decimal n) + length (decimal p) + 13
unfolding refusal_line
refusal-length n p = simp length-append (omega arith)

-- what says that there is room
pub ruleset lengths = (decimal-within, tenths-length, hundredths-length, refusal-length, length-append)
