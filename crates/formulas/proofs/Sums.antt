-- Sums and sorting: no lower where no part is lower; and the sort is right.
use mathlib.Core.Path.{◌≡◌, refl, ap, sym, subst, ◌∙◌}
use mathlib.Core.Bool.{Bool, true, false, cond}
use mathlib.Core.List.{List, [], ◌∷◌}
use Prim.Native.Nat.{ℕ, zero, suc, ◌+◌, ◌-◌, ◌≤◌, ◌<◌, max, min}
use native.Mathlib.Nat.{le_refl, le_trans, add-le-add, add_comm, max-eq_left, max-eq_right, min-eq_left, min-eq_right}
use native.Mathlib.Decide.{dec_le}
use native.Mathlib.Numerals.{add-one}
use native.Mathlib.Omega.{arith}
use lib.Dec.{eqb, leb, ltb}
use lib.ListN.{length, get_or}
use borrow.Author.Tests.{eqb-true, lt-ltb, le-ltb, le-leb, lt-leb, eq-eqb, ne_eqb}
use mir.Val.{bool_byte}
use Rattle.lists.specs.Lists.{Each, done, also, Pairwise, none, more, Member, here, there}
use Rattle.lists.specs.Tests.{count_to}
use Rattle.formulas.specs.Sums.{sum_of, list_to, insert, falling, sum_first, sum_highest, from_top, above, at_least}

-- a test as a number
pub one-if : (b : Bool) → bool_byte b ≡ cond b 1 0
one-if true = refl
one-if false = refl

pub one-high : (b : Bool) → bool_byte b ≤ 1
one-high true = omega arith
one-high false = omega arith

pub one-cond : (b : Bool) → cond b 1 0 ≤ 1
one-cond true = omega arith
one-cond false = omega arith

pub max-mono : {a b c d : ℕ} → a ≤ b → c ≤ d → max a c ≤ max b d
max-mono h g = omega arith

pub min-mono : {a b c d : ℕ} → a ≤ b → c ≤ d → min a c ≤ min b d
min-mono h g = omega arith

-- one more turn of a loop that counts, and its end
pub count-more : (f : ℕ → Bool) (n c : ℕ) (b : Bool) → c ≡ count_to n f → b ≡ f (n + 1) → c + bool_byte b ≡ count_to (n + 1) f
unfolding count_to
count-more f n c b e g = rw (add-one n, e, one-if b, rw (add-one n) at g) refl

pub count-ends : (f : ℕ → Bool) (n k c : ℕ) → k ≤ n → n ≤ k → c ≡ count_to n f → c ≡ count_to k f
count-ends f n k c p q e = e ∙ ap (λ (j : ℕ). count_to j f) (omega arith)

pub list_to-mono : (n : ℕ) {f g : ℕ → ℕ} → ((k : ℕ) → f k ≤ g k) → Pairwise ◌≤◌ (list_to n f) (list_to n g)
unfolding list_to
list_to-mono zero h = none
list_to-mono (suc n) h = more (h (suc n)) (list_to-mono n h)

insert-mono : {x y : ℕ} {l m : List ℕ} → x ≤ y → Pairwise ◌≤◌ l m → Pairwise ◌≤◌ (insert x l) (insert y m)
unfolding insert
insert-mono h none = more h none
insert-mono {x = x} {y = y} h (more {a = a} {b = b} g r) = more (max-mono h g) (insert-mono {x = min x a} {y = min y b} (min-mono h g) r)

falling-mono : {l m : List ℕ} → Pairwise ◌≤◌ l m → Pairwise ◌≤◌ (falling l) (falling m)
unfolding falling
falling-mono none = none
falling-mono (more g r) = insert-mono g (falling-mono r)

sum_first-mono : (n : ℕ) {l m : List ℕ} → Pairwise ◌≤◌ l m → sum_first n l ≤ sum_first n m
unfolding sum_first
sum_first-mono zero r = le_refl 0
sum_first-mono (suc n) none = le_refl 0
sum_first-mono (suc n) (more g r) = add-le-add g (sum_first-mono n r)

pub sum_highest-mono : (n : ℕ) {l m : List ℕ} → Pairwise ◌≤◌ l m → sum_highest n l ≤ sum_highest n m
unfolding sum_highest
sum_highest-mono n r = sum_first-mono n (falling-mono r)

get_d-mono : (n : ℕ) {l m : List ℕ} → Pairwise ◌≤◌ l m → get_or l n 0 ≤ get_or m n 0
get_d-mono n none = le_refl 0
get_d-mono zero (more g r) = g
get_d-mono (suc n) (more g r) = get_d-mono n r

pub from_top-mono : (n : ℕ) {l m : List ℕ} → Pairwise ◌≤◌ l m → from_top n l ≤ from_top n m
unfolding from_top
from_top-mono zero r = le_refl 0
from_top-mono (suc n) r = get_d-mono n (falling-mono r)

-- ---- `falling` falls, and keeps each value as often as it stood

abbrev pub Falls : ℕ → List ℕ → Type 0
Falls b [] = Unit {0}
Falls b (x ∷ l) = (x ≤ b) × Falls x l

loosen : {u v : ℕ} (m : List ℕ) → u ≤ v → Falls u m → Falls v m
loosen [] p f = tt
loosen (w ∷ m) p f = (le_trans f.0 p, f.1)

pub insert-falls : (l : List ℕ) (b x : ℕ) → x ≤ b → Falls b l → Falls b (insert x l)
unfolding insert
insert-falls [] b x h f = (h, tt)
insert-falls (y ∷ l) b x h f =
    let g : y ≤ b = f.0 in
    (omega arith, insert-falls l (max x y) (min x y) (omega arith) (loosen l (omega arith) f.1))

-- the highest comes first, and each is at most the one before it
pub falling-falls : (b : ℕ) {l : List ℕ} → Each (λ x. x ≤ b) l → Falls b (falling l)
unfolding falling
falling-falls b done = tt
falling-falls b (also {a = x} {l = l} h e) = insert-falls (falling l) b x h (falling-falls b e)

exchange : (f : ℕ → ℕ) (x y : ℕ) → f (max x y) + f (min x y) ≡ f x + f y
exchange f x y = go (dec_le x y)
  where
    go : Dec (x ≤ y) → f (max x y) + f (min x y) ≡ f x + f y
    go (yes h) = rw (max-eq_right {n = x} {m = y} h, min-eq_left {n = x} {m = y} h) (add_comm (f y) (f x))
    go (no h) = rw (max-eq_left {n = x} {m = y} (omega arith), min-eq_right {n = y} {m = x} (omega arith)) refl

insert-sum : (f : ℕ → ℕ) (x : ℕ) (l : List ℕ) → sum_of f (insert x l) ≡ f x + sum_of f l
unfolding insert sum_of
insert-sum f x [] = refl
insert-sum f x (y ∷ l) = rw (insert-sum f (min x y) l) (omega (arith, exchange f x y))

-- whatever is added up over the elements
pub falling-sum : (f : ℕ → ℕ) (l : List ℕ) → sum_of f (falling l) ≡ sum_of f l
unfolding falling sum_of
falling-sum f [] = refl
falling-sum f (x ∷ l) = rw (insert-sum f x (falling l), falling-sum f l) refl

-- how often a value stands in a list
abbrev pub count : ℕ → List ℕ → ℕ
count v l = sum_of (λ x. cond (eqb x v) 1 0) l

pub falling-count : (v : ℕ) (l : List ℕ) → count v (falling l) ≡ count v l
falling-count v l = falling-sum (λ x. cond (eqb x v) 1 0) l

insert-length : (x : ℕ) (l : List ℕ) → length (insert x l) ≡ suc (length l)
unfolding insert
insert-length x [] = refl
insert-length x (y ∷ l) = ap suc (insert-length (min x y) l)

falling-length : (l : List ℕ) → length (falling l) ≡ length l
unfolding falling
falling-length [] = refl
falling-length (x ∷ l) = insert-length x (falling l) ∙ ap suc (falling-length l)

-- the highest of a list
pub top : List ℕ → ℕ
top [] = 0
top (x ∷ l) = max x (top l)

below_top : (b : ℕ) (l : List ℕ) → top l ≤ b → Each (λ x. x ≤ b) l
unfolding top
below_top b [] h = done
below_top b (x ∷ l) h = also {a = x} (omega arith) (below_top b l (omega arith))

-- from the highest down
pub sorted : (l : List ℕ) → Falls (top l) (falling l)
sorted l = falling-falls (top l) (below_top (top l) l (le_refl _))

-- ---- how many are above a value, and how many are not below it

pub above-head : (v x : ℕ) → v < x → ◌≡◌ {A = ℕ} (cond (ltb v x) 1 0) 1
above-head v x h = rw (lt-ltb v x h) refl

pub above-not : (v x : ℕ) → x ≤ v → ◌≡◌ {A = ℕ} (cond (ltb v x) 1 0) 0
above-not v x h = rw (le-ltb v x h) refl

pub least-head : (v x : ℕ) → v ≤ x → ◌≡◌ {A = ℕ} (cond (leb v x) 1 0) 1
least-head v x h = rw (le-leb v x h) refl

pub least-not : (v x : ℕ) → x < v → ◌≡◌ {A = ℕ} (cond (leb v x) 1 0) 0
least-not v x h = rw (lt-leb v x h) refl

pub falls-above : (b v : ℕ) (l : List ℕ) → Falls b l → b ≤ v → above v l ≡ 0
unfolding sum_of
falls-above b v [] f h = refl
falls-above b v (x ∷ l) f h = omega (arith, above-not v x (omega (arith, f.0)), falls-above x v l f.1 (omega (arith, f.0)))

pub falls-least : (b v : ℕ) (l : List ℕ) → Falls b l → b < v → at_least v l ≡ 0
unfolding sum_of
falls-least b v [] f h = refl
falls-least b v (x ∷ l) f h = omega (arith, least-not v x (omega (arith, f.0)), falls-least x v l f.1 (omega (arith, f.0)))

-- those not below are those above and those that are equal
least-count : (v : ℕ) (l : List ℕ) → at_least v l ≡ above v l + count v l
unfolding sum_of
least-count v [] = refl
least-count v (x ∷ l) = go (dec_le x v) (dec_le v x) (least-count v l)
  where
    equal : x ≡ v → ◌≡◌ {A = ℕ} (cond (eqb x v) 1 0) 1
    equal e = rw (eq-eqb x v e) refl

    other : (x ≡ v → ⊥) → ◌≡◌ {A = ℕ} (cond (eqb x v) 1 0) 0
    other e = rw (ne_eqb x v e) refl

    go : Dec (x ≤ v) → Dec (v ≤ x) → at_least v l ≡ above v l + count v l
        → cond (leb v x) 1 0 + at_least v l ≡ cond (ltb v x) 1 0 + above v l + (cond (eqb x v) 1 0 + count v l)
    go (yes h) (yes g) e = omega (arith, least-head v x g, above-not v x h, equal (omega arith), e)
    go (yes h) (no g) e = omega (arith, least-not v x (omega arith), above-not v x h, other (λ q. omega arith), e)
    go (no h) g e = omega (arith, least-head v x (omega arith), above-head v x (omega arith), other (λ q. omega arith), e)

count-member : (v : ℕ) (l : List ℕ) → 1 ≤ count v l → Member v l
unfolding sum_of
count-member v [] h = absurd (omega arith)
count-member v (x ∷ l) h = go (eqb x v) refl h (count-member v l)
  where
    go : (b : Bool) → eqb x v ≡ b → 1 ≤ cond b 1 0 + count v l → (1 ≤ count v l → Member v l) → Member v (x ∷ l)
    go true e g r = subst (λ y. Member v (y ∷ l)) (sym (eqb-true x v e)) here
    go false e g r = there (r (omega arith))

-- ---- the number at a place from the top: fewer are above it, as many are not below it, and it is one of them

falls-place : (b k : ℕ) (l : List ℕ) → Falls b l → get_or l k 0 ≤ b
falls-place b k [] f = omega arith
falls-place b zero (x ∷ l) f = f.0
falls-place b (suc k) (x ∷ l) f = le_trans (falls-place x k l f.1) f.0

few-above : (b k : ℕ) (l : List ℕ) → Falls b l → above (get_or l k 0) l ≤ k
unfolding sum_of
few-above b k [] f = omega arith
few-above b zero (x ∷ l) f = omega (arith, above-not x x (le_refl x), falls-above x x l f.1 (le_refl x))
few-above b (suc k) (x ∷ l) f = omega (arith, few-above x k l f.1, one-cond (ltb (get_or l k 0) x))

enough-least : (b k : ℕ) (l : List ℕ) → Falls b l → k < length l → suc k ≤ at_least (get_or l k 0) l
unfolding sum_of
enough-least b k [] f h = absurd (omega arith)
enough-least b zero (x ∷ l) f h = omega (arith, least-head x x (le_refl x))
enough-least b (suc k) (x ∷ l) f h = omega (arith, enough-least x k l f.1 (omega arith), least-head (get_or l k 0) x (falls-place x k l f.1))

pub from_top-few : (n : ℕ) (l : List ℕ) → 1 ≤ n → above (from_top n l) l ≤ n - 1
unfolding from_top
from_top-few zero l h = absurd (omega arith)
from_top-few (suc n) l h = omega (arith, falling-sum (λ x. cond (ltb (get_or (falling l) n 0) x) 1 0) l, few-above (top l) n (falling l) (sorted l))

pub from_top-enough : (n : ℕ) (l : List ℕ) → 1 ≤ n → n ≤ length l → n ≤ at_least (from_top n l) l
unfolding from_top
from_top-enough zero l h g = absurd (omega arith)
from_top-enough (suc n) l h g =
    omega (
      arith,
      falling-sum (λ x. cond (leb (get_or (falling l) n 0) x) 1 0) l,
      enough-least (top l) n (falling l) (sorted l) (omega (arith, falling-length l)),
    )

pub from_top-member : (n : ℕ) (l : List ℕ) → 1 ≤ n → n ≤ length l → Member (from_top n l) l
from_top-member n l h g = count-member _ l (omega (arith, least-count (from_top n l) l, from_top-few n l h, from_top-enough n l h g))
