-- Answers: accepted, or refused with number and place.
use Rattle.std.specs.Prelude.{Bool, true, false, cond, List, [], ◌∷◌, ℕ, eqb, Result, Ok, Err}
use Rattle.records.specs.declared.Refusal.{Refusal}

-- an answer: nothing, or a refusal
abbrev pub Answer : Type 0
Answer = Result (Unit {0}) Refusal

-- nothing is refused
abbrev pub Accepted : Answer
Accepted = Ok tt

-- refused with number n at place p, whatever would have been answered
abbrev pub Refused : {A : Type 0} → ℕ → ℕ → Result A Refusal
Refused n p = Err (record { number = n; place = p })

-- what an answer that has a value refuses
unfoldable pub refusal_of : {A : Type 0} → Result A Refusal → Answer
refusal_of (Ok x) = Accepted
refusal_of (Err r) = Err r

-- one answer, and where it refuses nothing the next: the order in which refusals are tried
unfoldable pub or_else : Answer → Answer → Answer
or_else (Ok x) b = b
or_else (Err r) b = Err r

-- refused with number n at place p, if a test holds
unfoldable pub refuse_if : Bool → ℕ → ℕ → Answer
refuse_if b n p = cond b (Refused n p) Accepted

-- refused with a number at place p, 0 being none
unfoldable pub drawn : ℕ → ℕ → Answer
drawn n p = cond (eqb n 0) Accepted (Refused n p)

-- whether an answer refuses nothing
unfoldable pub is_accepted : Answer → Bool
is_accepted (Ok x) = true
is_accepted (Err r) = false

-- "An answer is number and place, nothing else": in numbers, as other languages get it, 0 accepted; 2 refused, with the paper's number and place
unfoldable pub answer_numbers : Answer → List ℕ
answer_numbers (Ok x) = 0 ∷ []
answer_numbers (Err r) = 2 ∷ r.number ∷ r.place ∷ []

-- "this paper's number" of an answer, 0 where it refuses nothing
unfoldable pub number_of : Answer → ℕ
number_of (Ok x) = 0
number_of (Err r) = r.number

-- and its place
unfoldable pub place_of : Answer → ℕ
place_of (Ok x) = 0
place_of (Err r) = r.place
