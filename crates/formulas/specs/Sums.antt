-- The highest of a list, or its place from the top.
use Rattle.std.specs.Prelude.{cond, List, [], ◌∷◌, ℕ, zero, suc, ◌+◌, max, min, leb, ltb, get_or}

-- f of each element of a list, added up
unfoldable pub sum_of : (ℕ → ℕ) → List ℕ → ℕ
sum_of f [] = 0
sum_of f (x ∷ l) = f x + sum_of f l

-- f n, …, f 1
unfoldable pub list_to : ℕ → (ℕ → ℕ) → List ℕ
list_to zero f = []
list_to (suc n) f = f (suc n) ∷ list_to n f

-- a number put into a list that falls: at each place the greater stays and the lesser moves on
unfoldable pub insert : ℕ → List ℕ → List ℕ
insert x [] = x ∷ []
insert x (y ∷ l) = max x y ∷ insert (min x y) l

-- a list from its highest to its lowest; the laws `falling-falls` and `falling-count` say that it is; "hours 1 to the window, repeated prices counted each",
-- "places 1 to the window with repeated prices counted each"
unfoldable pub falling : List ℕ → List ℕ
falling [] = []
falling (x ∷ l) = insert x (falling l)

-- the sum of the first n
unfoldable pub sum_first : ℕ → List ℕ → ℕ
sum_first zero l = 0
sum_first (suc n) [] = 0
sum_first (suc n) (x ∷ l) = x + sum_first n l

-- the sum of the n highest
unfoldable pub sum_highest : ℕ → List ℕ → ℕ
sum_highest n l = sum_first n (falling l)

-- the number at place n from the top, from 1; 0 where there is no such place
unfoldable pub from_top : ℕ → List ℕ → ℕ
from_top zero l = 0
from_top (suc n) l = get_or (falling l) n 0

-- how many are above v
abbrev pub above : ℕ → List ℕ → ℕ
above v l = sum_of (λ x. cond (ltb v x) 1 0) l

-- how many are v or more
abbrev pub at_least : ℕ → List ℕ → ℕ
at_least v l = sum_of (λ x. cond (leb v x) 1 0) l
