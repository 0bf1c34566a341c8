-- What the function that prints tells its caller, and what it leaves of a lent buffer: every buffer in which all texts fit will do, and no other.
use Rattle.std.specs.Prelude.{Bool, cond, List, ℕ, ltb, length}
use Rattle.text.specs.Text.{over}
use Rattle.layout.specs.Written.{Written, Bytes}
use Rattle.records.specs.Answers.{Refused}
use Rattle.layout.specs.Report.{longest_report, prints}

-- a buffer that is too short for some text: 15, whatever the input
abbrev pub scant : List ℕ → Bool
scant e = ltb (length e) longest_report

-- the answer to input i with a buffer that holds e
abbrev pub print_answer : List ℕ → List ℕ → Written
print_answer i e = cond (scant e) (Refused 15 0) (Bytes (length (prints i)))

-- and the buffer after it: a refused call writes no byte
abbrev pub buffer_printed : List ℕ → List ℕ → List ℕ
buffer_printed i e = cond (scant e) e (over (prints i) e)
