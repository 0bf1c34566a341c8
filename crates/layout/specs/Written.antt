-- What a report gives its caller.
use Rattle.std.specs.Prelude.{ℕ, Result, Ok}
use Rattle.records.specs.declared.Refusal.{Refusal}

-- how many bytes were written, or a refusal
abbrev pub Written : Type 0
Written = Result ℕ Refusal

-- so many bytes
abbrev pub Bytes : ℕ → Written
Bytes n = Ok n
