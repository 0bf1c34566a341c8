-- Relations between lists: each element, two lists side by side, one list in another order.
use Rattle.std.specs.Prelude.{Bool, cond, List, [], ◌∷◌, ◌++◌, ℕ}

-- every element has the property
pub data Each {A : Type 0} (P : A → Type 0) : List A → Type 0 where
  done : Each P []
  also : {a : A} {l : List A} → P a → Each P l → Each P (a ∷ l)

-- two lists of one length, related element by element
pub data Pairwise {A : Type 0} (R : A → A → Type 0) : List A → List A → Type 0 where
  none : Pairwise R [] []
  more : {a b : A} {l m : List A} → R a b → Pairwise R l m → Pairwise R (a ∷ l) (b ∷ m)

-- an element stands in a list
pub data Member {A : Type 0} (a : A) : List A → Type 0 where
  here : {l : List A} → Member a (a ∷ l)
  there : {b : A} {l : List A} → Member a l → Member a (b ∷ l)

-- one list is another in some order
pub data Permutation {A : Type 0} : List A → List A → Type 0 where
  empty : Permutation [] []
  keep : (a : A) {l m : List A} → Permutation l m → Permutation (a ∷ l) (a ∷ m)
  swap : (a b : A) (l : List A) → Permutation (a ∷ b ∷ l) (b ∷ a ∷ l)
  then : {l m n : List A} → Permutation l m → Permutation m n → Permutation l n

-- the lists of a list, back to back
unfoldable pub joined : List (List ℕ) → List ℕ
joined [] = []
joined (r ∷ l) = r ++ joined l

-- those elements that a test holds of, in their order
unfoldable pub those : {A : Type 0} → (A → Bool) → List A → List A
those f [] = []
those f (a ∷ l) = let m = those f l in cond (f a) (a ∷ m) m
