-- A text into a buffer that may be too short for it.
use mathlib.Core.Path.{◌≡◌, refl, ap}
use mathlib.Core.List.{List}
use Prim.Native.Nat.{ℕ, ◌<◌, ◌≤◌}
use borrow.Author.Tests.{lt-ltb, le-ltb}
use lib.ListN.{length}
use Rattle.records.specs.Answers.{Accepted, refuse_if, is_accepted, Refused}
use Rattle.text.proofs.Over.{Wrote}
use Rattle.layout.specs.Written.{Written, Bytes}
use Rattle.layout.specs.Report.{short_for, buffer_with, written}

too_short : (text : List ℕ) (n : ℕ) → n < length text → short_for text n ≡ Refused 15 0
unfolding short_for refuse_if
too_short text n h = rw (lt-ltb n (length text) h)

pub long-enough : (text : List ℕ) (n : ℕ) → length text ≤ n → short_for text n ≡ Accepted
unfolding short_for refuse_if
long-enough text n h = rw (le-ltb n (length text) h)

-- what is answered, and what stands after it in a buffer that held e
abbrev pub Put : List ℕ → List ℕ → Written → List ℕ → Type 0
Put text e w b = (w ≡ written (short_for text (length e)) (length text)) × (b ≡ buffer_with (short_for text (length e)) text e)

-- a buffer too short keeps every byte
pub put-none : (text e : List ℕ) → length e < length text → Put text e (Refused 15 0) e
unfolding buffer_with written is_accepted
put-none text e h = rw (too_short text (length e) h) (refl, refl)

pub put_whole : (text e : List ℕ) {n : ℕ} {b : List ℕ} → length text ≤ length e → Wrote text e n b → Put text e (Bytes n) b
unfolding buffer_with written is_accepted
put_whole text e h (p, q) = rw (long-enough text (length e) h) (ap Bytes p, q)
