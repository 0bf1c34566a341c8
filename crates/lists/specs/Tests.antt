-- Tests of many things at once.
use Rattle.std.specs.Prelude.{Bool, true, false, cond, ◌&&◌, ◌||◌, List, [], ◌∷◌, ℕ, zero, suc, ◌+◌, leb, eqb}

-- whether a test holds at 0, 1, … below n
unfoldable pub all_below : ℕ → (ℕ → Bool) → Bool
all_below zero f = true
all_below (suc n) f = all_below n f && f n

-- whether a test holds at 1, 2, … to n
unfoldable pub all_to : ℕ → (ℕ → Bool) → Bool
all_to zero f = true
all_to (suc n) f = all_to n f && f (suc n)

-- at how many of 1 to n a test holds
unfoldable pub count_to : ℕ → (ℕ → Bool) → ℕ
count_to zero f = 0
count_to (suc n) f = count_to n f + cond (f (suc n)) 1 0

-- whether every test of a list holds
unfoldable pub every : List Bool → Bool
every [] = true
every (b ∷ l) = b && every l

-- whether a test holds of every element
unfoldable pub every_of : {A : Type 0} → (A → Bool) → List A → Bool
every_of f [] = true
every_of f (a ∷ l) = f a && every_of f l

-- whether a number is one of a list
unfoldable pub among : ℕ → List ℕ → Bool
among n [] = false
among n (m ∷ l) = eqb n m || among n l

-- whether a number is at least the one and at most the other
unfoldable pub between : ℕ → ℕ → ℕ → Bool
between lo hi x = leb lo x && leb x hi

-- whether two lists of numbers are the same
unfoldable pub same : List ℕ → List ℕ → Bool
same [] [] = true
same [] (b ∷ m) = false
same (a ∷ l) [] = false
same (a ∷ l) (b ∷ m) = eqb a b && same l m
