-- Laws of sums and lists over keys.
use mathlib.Core.Path.{◌≡◌, refl, ap, sym, ◌∙◌}
use mathlib.Core.List.{List, [], ◌∷◌, ◌++◌}
use Prim.Native.Nat.{ℕ, zero, suc, ◌+◌, ◌*◌, ◌≤◌, ◌<◌}
use native.Mathlib.Nat.{le_refl, add-le-add, mul-le-mul_right}
use native.Mathlib.Decide.{ℕ_discrete, dec_lt}
use native.Mathlib.Numerals.{add-one}
use native.Mathlib.Omega.{arith}
use lib.Arith.{lt_of_le-ne}
use lib.ListN.{length, get_or, length-append, get_or-append}
use lib.Seq.{get_or-append_seam}
use Rattle.lists.specs.Lists.{Pairwise, none, more}
use Rattle.lists.specs.Sums.{sum_to, up_to}

pub sum_to-mono : (n : ℕ) {f g : ℕ → ℕ} → ((k : ℕ) → f k ≤ g k) → sum_to n f ≤ sum_to n g
unfolding sum_to
sum_to-mono zero h = le_refl 0
sum_to-mono (suc n) h = add-le-add (sum_to-mono n h) (h (suc n))

-- parts that are 0 add nothing
pub sum_to-zeros : (f : ℕ → ℕ) (n m : ℕ) → ((i : ℕ) → i < m → f (suc (n + i)) ≡ 0) → sum_to (n + m) f ≡ sum_to n f
unfolding sum_to
sum_to-zeros f n zero h =
    let e : n + 0 ≡ n = omega arith in
    rw e refl
sum_to-zeros f n (suc m) h =
    let e : n + suc m ≡ suc (n + m) = omega arith in
    rw (e, h m (omega arith), sum_to-zeros f n m (λ i q. h i (omega arith))) (omega arith)

-- parts that are the same
pub sum_to-same : (n : ℕ) (f g : ℕ → ℕ) → ((k : ℕ) → 1 ≤ k → k ≤ n → f k ≡ g k) → sum_to n f ≡ sum_to n g
unfolding sum_to
sum_to-same zero f g h = refl
sum_to-same (suc n) f g h = rw (sum_to-same n f g (λ k a b. h k a (omega arith)), h (suc n) (omega arith) (omega arith)) refl

-- parts of b at most
pub sum_to-within : (n b : ℕ) (f : ℕ → ℕ) → ((k : ℕ) → 1 ≤ k → k ≤ n → f k ≤ b) → sum_to n f ≤ n * b
unfolding sum_to
sum_to-within zero b f h = omega arith
sum_to-within (suc n) b f h = omega (arith, sum_to-within n b f (λ k x y. h k x (omega arith)), h (suc n) (omega arith) (omega arith))

-- products whose first factor is b at most
pub sum_to-scaled : (n b : ℕ) (f g : ℕ → ℕ) → ((k : ℕ) → 1 ≤ k → k ≤ n → f k ≤ b) → sum_to n (λ k. f k * g k) ≤ b * sum_to n g
unfolding sum_to
sum_to-scaled zero b f g h = omega arith
sum_to-scaled (suc n) b f g h =
    omega (arith, sum_to-scaled n b f g (λ k x y. h k x (omega arith)), mul-le-mul_right (g (suc n)) (h (suc n) (omega arith) (omega arith)))

-- a part is no more than the whole
pub sum_to-part : (n m : ℕ) (f : ℕ → ℕ) → 1 ≤ m → m ≤ n → f m ≤ sum_to n f
unfolding sum_to
sum_to-part zero m f a b = absurd (omega arith)
sum_to-part (suc n) m f a b = go (ℕ_discrete m (suc n)) (sum_to-part n m f a)
  where
    go : Dec (m ≡ suc n) → (m ≤ n → f m ≤ sum_to n f) → f m ≤ sum_to n f + f (suc n)
    go (yes z) i = rw z (omega arith)
    go (no z) i = omega (arith, i (omega (arith, lt_of_le-ne b z)))

-- one part in another's place
pub sum_to-replaced : (n m : ℕ) (f g : ℕ → ℕ) → 1 ≤ m → m ≤ n → ((k : ℕ) → 1 ≤ k → k ≤ n → (k ≡ m → ⊥) → f k ≡ g k)
    → sum_to n f + g m ≡ sum_to n g + f m
unfolding sum_to
sum_to-replaced zero m f g a b h = absurd (omega arith)
sum_to-replaced (suc n) m f g a b h = go (ℕ_discrete m (suc n)) (λ c. sum_to-replaced n m f g a c (λ k u v. h k u (omega arith)))
  where
    go : Dec (m ≡ suc n) → (m ≤ n → sum_to n f + g m ≡ sum_to n g + f m) → sum_to n f + f (suc n) + g m ≡ sum_to n g + g (suc n) + f m
    go (yes z) i = rw (z, sum_to-same n f g (λ k c d. h k c (omega arith) (λ w. omega arith))) (omega arith)
    go (no z) i = omega (arith, i (omega (arith, lt_of_le-ne b z)), h (suc n) (omega arith) (omega arith) (λ w. z (sym w)))

-- one more turn of a loop that sums, and its end
pub sum_more : (f : ℕ → ℕ) (n s x : ℕ) → s ≡ sum_to n f → x ≡ f (n + 1) → s + x ≡ sum_to (n + 1) f
unfolding sum_to
sum_more f n s x e g = rw (add-one n, e, rw (add-one n) at g) refl

pub sum-ends : (f : ℕ → ℕ) (n k s : ℕ) → k ≤ n → n ≤ k → s ≡ sum_to n f → s ≡ sum_to k f
sum-ends f n k s p q e = e ∙ ap (λ (j : ℕ). sum_to j f) (omega arith)

-- ---- lists over the keys 1 to n

pub up_to-length : {A : Type 0} (f : ℕ → A) (n : ℕ) → length (up_to n f) ≡ n
unfolding up_to
up_to-length f zero = refl
up_to-length f (suc n) = rw (length-append (up_to n f) (f (suc n) ∷ []), up_to-length f n) (omega arith)

-- key k + 1 stands at place k
pub up_to-at : {A : Type 0} (f : ℕ → A) (n k : ℕ) (z : A) → k < n → get_or (up_to n f) k z ≡ f (suc k)
unfolding up_to
up_to-at f zero k z h = absurd (omega arith)
up_to-at f (suc n) k z h = go (dec_lt k n) (up_to-at f n k z)
  where
    go : Dec (k < n) → (k < n → get_or (up_to n f) k z ≡ f (suc k)) → get_or (up_to n f ++ (f (suc n) ∷ [])) k z ≡ f (suc k)
    go (yes p) i = get_or-append (up_to n f) (f (suc n) ∷ []) z k (rw (up_to-length f n) p) ∙ i p
    go (no p) i =
        let e : k ≡ n = omega arith in
        rw e (ap (λ (j : ℕ). get_or (up_to n f ++ (f (suc n) ∷ [])) j z) (sym (up_to-length f n)) ∙ get_or-append_seam (up_to n f) (f (suc n)) [] z)

behind : {A : Type 0} {R : A → A → Type 0} {l m : List A} {a b : A} → Pairwise R l m → R a b → Pairwise R (l ++ (a ∷ [])) (m ++ (b ∷ []))
behind none r = more r none
behind (more q p) r = more q (behind p r)

-- what is related key by key is related place by place
pub up_to-pairwise : {A : Type 0} (R : A → A → Type 0) (f g : ℕ → A) → ((k : ℕ) → R (f k) (g k)) → (n : ℕ) → Pairwise R (up_to n f) (up_to n g)
unfolding up_to
up_to-pairwise R f g h zero = none
up_to-pairwise R f g h (suc n) = behind (up_to-pairwise R f g h n) (h (suc n))
