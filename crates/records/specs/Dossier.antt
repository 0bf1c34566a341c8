-- The dossier: its records; which of its bytes are money; 1, 2 and 3 in turn.
use Rattle.std.specs.Prelude.{Bool, false, cond, List, [], ◌∷◌, ℕ, zero, suc, ◌+◌, ◌-◌, ltb, length, take, drop}
use Rattle.records.specs.Answers.{Accepted, Answer, or_else, drawn}
use Rattle.records.specs.Record.{mark, size, fault, money_byte}

-- the first record of what is left of a dossier, as long as its mark says (an unknown mark takes mark and issue, and is refused)
unfoldable pub first_of : List ℕ → List ℕ
first_of s = take (size (mark s)) s

-- what is left after it
unfoldable pub rest_of : List ℕ → List ℕ
rest_of s = drop (size (mark s)) s

-- the records in turn; the first argument is at least how many there are
unfoldable pub records_in : ℕ → List ℕ → List (List ℕ)
records_in zero d = []
records_in (suc f) [] = []
records_in (suc f) (b ∷ d) = first_of (b ∷ d) ∷ records_in f (rest_of (b ∷ d))

-- the records of a dossier, "back to back"
unfoldable pub records : List ℕ → List (List ℕ)
records d = records_in (length d) d

-- whether byte i lies in a money amount, of as many records as the first argument at most
unfoldable pub money_at_in : ℕ → List ℕ → ℕ → Bool
money_at_in zero d i = false
money_at_in (suc f) [] i = false
money_at_in (suc f) (b ∷ d) i =
    cond (ltb i (size (mark (b ∷ d)))) (money_byte (mark (b ∷ d)) i) (money_at_in f (rest_of (b ∷ d)) (i - size (mark (b ∷ d))))

-- whether byte i of a dossier lies in a money amount
unfoldable pub money_at : List ℕ → ℕ → Bool
money_at d i = money_at_in (length d) d i

-- the first record that draws something; the test takes a record's place and the record
unfoldable pub first_drawn : (ℕ → List ℕ → Answer) → ℕ → List (List ℕ) → Answer
first_drawn test p [] = Accepted
first_drawn test p (r ∷ l) = or_else (test p r) (first_drawn test (p + length r) l)

-- "records in turn with 1, 2, 3", the first at place p; "Place: record start for 1 to 4"
unfoldable pub scan : ℕ → List (List ℕ) → Answer
scan p l = first_drawn (λ q r. drawn (fault r) q) p l
