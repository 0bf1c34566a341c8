-- The same declared: what makes a record the current one, what makes it count at some hour, and what it is that no two records are twins.
use Rattle.std.specs.Prelude.{◌≡◌, true, false, List, [], ◌∷◌, ℕ, ◌≤◌, ◌<◌}
use Rattle.lists.specs.Lists.{Each, Member}
use Rattle.records.specs.Record.{kind, since, issue, key_of}
use Rattle.station.specs.Current.{matches, twin}

-- r is current among the records l: one of them, with the kind and key, and none with them has a higher issue
pub record IsCurrent (k n : ℕ) (l : List (List ℕ)) (r : List ℕ) : Type 0 where
  pub member : Member r l
  pub marked : kind r ≡ k
  pub keyed : key_of r ≡ n
  pub highest : Each (λ s. matches k n s ≡ true → issue s ≤ issue r) l

-- r is empty and no record has the kind and key, or r is current
pub data CurrentOf (k n : ℕ) (l : List (List ℕ)) (r : List ℕ) : Type 0 where
  absent : r ≡ [] → Each (λ s. matches k n s ≡ false) l → CurrentOf k n l r
  standing : IsCurrent k n l r → CurrentOf k n l r

-- r counts at some hour among the records all: every higher issue of its kind and key has a later first hour
abbrev pub Counting : List (List ℕ) → List ℕ → Type 0
Counting all r = Each (λ s. matches (kind r) (key_of r) s ≡ true → issue r < issue s → since r < since s) all

-- no record of some is a twin of r
abbrev pub Apart : List ℕ → List (List ℕ) → Type 0
Apart r l = Each (λ s. twin r s ≡ false) l

-- no two records are twins
abbrev pub Distinct : List (List ℕ) → Type 0
Distinct [] = Unit {0}
Distinct (r ∷ l) = Apart r l × Distinct l
