-- How code goes through a dossier: it finds one record at the front of the rest, takes a step with it, and goes on.
-- No paper speaks of this; `walk-is-fold` ties it to the list of records.
use Rattle.std.specs.Prelude.{◌≡◌, cond, List, [], ◌∷◌, ℕ, zero, suc, ◌+◌, ◌≤◌, eqb, length, drop}
use Rattle.records.specs.Record.{mark, size, fault}
use Rattle.records.specs.Dossier.{first_of, rest_of}

-- a record of a mark and length, or a fault
pub data Found : Type 0 where
  Record : ℕ → ℕ → Found
  Faulty : ℕ → Found

-- what is found at the front of the rest of a dossier
unfoldable pub found : List ℕ → Found
found s = cond (eqb (fault (first_of s)) 0) (Record (mark s) (size (mark s))) (Faulty (fault (first_of s)))

-- a step takes the state so far, the place of a record and the record
abbrev pub Step : Type 0 → Type 0
Step A = A → ℕ → List ℕ → A

-- the state after the last record, or the first fault and its place
pub data Walked (A : Type 0) : Type 0 where
  ended : A → Walked A
  stopped : ℕ → ℕ → Walked A

-- over a list of records, the first at place p
unfoldable pub folded : {A : Type 0} → Step A → ℕ → A → List (List ℕ) → A
folded step p a [] = a
folded step p a (r ∷ l) = folded step (p + length r) (step a p r) l

-- over bytes: at most how many records, place, state, the rest
unfoldable pub walk_from : {A : Type 0} → Step A → ℕ → ℕ → A → List ℕ → Walked A
walk_from step zero p a s = ended a
walk_from step (suc f) p a [] = ended a
walk_from step (suc f) p a (b ∷ s) =
    let r = walk_from step f (p + size (mark (b ∷ s))) (step a p (first_of (b ∷ s))) (rest_of (b ∷ s)) in
    cond (eqb (fault (first_of (b ∷ s))) 0) r (stopped (fault (first_of (b ∷ s))) p)

-- over a dossier
unfoldable pub walk : {A : Type 0} → Step A → A → List ℕ → Walked A
walk step a d = walk_from step (length d) 0 a d

-- the loops of the code: from place p with state a the walk gives what it gives of the whole with a₀
abbrev pub Rest : {A : Type 0} → Step A → A → List ℕ → ℕ → A → Type 0
Rest step a₀ d p a = (f : ℕ) × (length d ≤ p + f) × (walk_from step f p a (drop p d) ≡ walk step a₀ d)
