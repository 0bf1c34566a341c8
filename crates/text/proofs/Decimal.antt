-- That `decimal` is a number's decimal text: it reads back as the number, is made of digits, starts with no zero but that of 0,
-- and has a byte for each digit. All of it for numbers of at most 20 digits, as each u64 is.
use mathlib.Core.Path.{◌≡◌, refl, sym, ap, ◌∙◌}
use mathlib.Core.Bool.{Bool, true, false}
use mathlib.Core.Logic.{⊎_elim}
use mathlib.Core.List.Memᴰ
use mathlib.Core.List.{List, [], ◌++◌, foldl, foldl-append, Memᴰ}
use Prim.Native.Nat.{ℕ, zero, suc, ◌+◌, ◌-◌, ◌*◌, ◌/◌, ◌%◌, ◌^◌, ◌<◌, ◌≤◌}
use native.Mathlib.Nat.{pow-suc, one-le-pow}
use native.Mathlib.Numerals.{add-one}
use native.Mathlib.Omega.{arith}
use borrow.Author.Tests.{lt-ltb, le-ltb, ltb-true, ltb-false}
use lib.Dec.{ltb}
use lib.ListN.{length, get_or, length-append, get_or-append}
use Rattle.text.specs.Text.{digit, decimal_in, decimal}

-- a test is true or false
split : {P : Type 0} (b : Bool) → (b ≡ true → P) → (b ≡ false → P) → P
split true p q = p refl
split false p q = q refl

tenth-below : (f n : ℕ) → n < 10 ^ suc f → n / 10 < 10 ^ f
tenth-below f n h = omega (arith, rw pow-suc at h)

-- what holds of one digit, and of a text with one digit more, holds of every number's text
module _ (P : ℕ → List ℕ → Type 0) (one : (n : ℕ) → n < 10 → P n (digit n))
    (more : (n : ℕ) (t : List ℕ) → 10 ≤ n → P (n / 10) t → P n (t ++ digit (n % 10))) where
  by_digits : (f n : ℕ) → n < 10 ^ suc f → P n (decimal_in (suc f) n)
  unfolding decimal_in
  by_digits zero n h = rw (lt-ltb n 10 h) (one n h)
  by_digits (suc f) n h =
      split (ltb n 10) (λ e. rw e (one n (ltb-true n 10 e)))
      (λ e. rw e (more n (decimal_in (suc f) (n / 10)) (ltb-false n 10 e) (by_digits f (n / 10) (tenth-below (suc f) n h))))

-- room for one digit more changes no text
wider : (f n : ℕ) → n < 10 ^ suc f → decimal_in (suc (suc f)) n ≡ decimal_in (suc f) n
unfolding decimal_in
wider zero n h = rw (lt-ltb n 10 h)
wider (suc f) n h =
    split (ltb n 10) (λ e. rw e)
    (λ e. rw e (ap (λ (t : List ℕ). t ++ digit (n % 10)) (wider f (n / 10) (tenth-below (suc f) n h))))

-- a number below 10 is its digit
pub decimal-one : (n : ℕ) → n < 10 → decimal n ≡ digit n
unfolding decimal decimal_in
decimal-one n h = rw (lt-ltb n 10 h)

-- any other is the text of its tenth, and then its last digit
pub decimal-more : (n : ℕ) → 10 ≤ n → n < 10 ^ 20 → decimal n ≡ decimal (n / 10) ++ digit (n % 10)
unfolding decimal decimal_in
decimal-more n t h =
    rw (le-ltb n 10 t) (ap (λ (t : List ℕ). t ++ digit (n % 10)) (sym (wider 18 (n / 10) (tenth-below 19 n h))))

within : (f n : ℕ) → (1 ≤ length (decimal_in (suc f) n)) × (length (decimal_in (suc f) n) ≤ suc f)
unfolding decimal_in
within zero n = split (ltb n 10) (λ e. rw e (omega arith)) (λ e. rw e (omega arith))
within (suc f) n =
    split (ltb n 10) (λ e. rw e (omega arith)) (λ e. simp (e, length-append) (omega (arith, within f (n / 10))))

-- a text has 1 to 20 bytes
pub decimal-within : (n : ℕ) → (1 ≤ length (decimal n)) × (length (decimal n) ≤ 20)
unfolding decimal
decimal-within = within 19

-- that the text of a number of k + 1 digits is k + 1 bytes long
Long : ℕ → List ℕ → Type 0
Long n t = (k : ℕ) → (0 < k → 10 ^ k ≤ n) → n < 10 ^ suc k → length t ≡ suc k

long-one : (n : ℕ) → n < 10 → Long n (digit n)
unfolding Long
long-one n h zero p q = refl
long-one n h (suc k) p q = absurd (omega (arith, rw pow-suc at (p (omega arith)), one-le-pow k 10 (omega arith)))

long-more : (n : ℕ) (t : List ℕ) → 10 ≤ n → Long (n / 10) t → Long n (t ++ digit (n % 10))
unfolding Long
long-more n t h l zero p q = absurd (omega arith)
long-more n t h l (suc k) p q =
    let b : 10 ^ k ≤ n / 10 = omega (arith, rw pow-suc at (p (omega arith))) in
    simp length-append (omega (arith, l k (λ z. b) (tenth-below (suc k) n q)))

pub decimal-length : (n k : ℕ) → n < 10 ^ 20 → (0 < k → 10 ^ k ≤ n) → n < 10 ^ suc k → length (decimal n) ≡ suc k
unfolding decimal Long
decimal-length n k h = by_digits Long long-one long-more 19 n h k

-- the number that a text of digits stands for
unfoldable pub value : List ℕ → ℕ
value = foldl (λ (v b : ℕ). v * 10 + (b - 48)) 0

-- a number's text stands for the number
pub decimal-value : (n : ℕ) → n < 10 ^ 20 → value (decimal n) ≡ n
unfolding decimal value
decimal-value =
    by_digits (λ (n : ℕ) (t : List ℕ). value t ≡ n) (λ n h. omega arith)
    (λ n t h e. foldl-append (λ (v b : ℕ). v * 10 + (b - 48)) 0 t (digit (n % 10)) ∙ omega arith) 19

-- each of its bytes is a digit's
pub decimal-digits : (b n : ℕ) → n < 10 ^ 20 → Memᴰ b (decimal n) → (48 ≤ b) × (b < 58)
unfolding decimal
decimal-digits b =
    by_digits (λ (n : ℕ) (t : List ℕ). Memᴰ b t → (48 ≤ b) × (b < 58))
    (λ n h m. omega (arith, Memᴰ.eq_of_singleton m))
    (λ n t h p m. ⊎_elim p (λ m. omega (arith, Memᴰ.eq_of_singleton m)) (Memᴰ.append_cases t m)) 19

-- its first byte is 48, the digit 0, for the number 0 alone
pub decimal-no-leading-zero : (n : ℕ) → n < 10 ^ 20 → get_or (decimal n) 0 0 ≡ 48 → n ≡ 0
unfolding decimal
decimal-no-leading-zero n h =
    (by_digits (λ (n : ℕ) (t : List ℕ). (1 ≤ length t) × (get_or t 0 0 ≡ 48 → n ≡ 0))
    (λ n h. (omega arith, λ e. omega arith))
    (λ n t h p. (
      simp length-append (omega arith),
      λ e. omega (arith, p.1 (rw (get_or-append t (digit (n % 10)) 0 0 p.0) at e)),
    )) 19 n h).1

-- ---- the last digits of a number, as many as there are places for

unfoldable pub last_digits : ℕ → ℕ → List ℕ
last_digits zero n = []
last_digits (suc k) n = last_digits k (n / 10) ++ digit (n % 10)

-- in its own length they are all of it
pub decimal-digits_all : (n : ℕ) → n < 10 ^ 20 → last_digits (length (decimal n)) n ≡ decimal n
unfolding decimal last_digits
decimal-digits_all n h =
    by_digits (λ (m : ℕ) (t : List ℕ). last_digits (length t) m ≡ t)
    (λ m p. ap digit (omega arith))
    (λ m t p e. rw (length-append t (digit (m % 10)), add-one) (rw e refl)) 19 n h

-- a power of ten that is not the first is at least ten
pub ten-le : (k : ℕ) → 0 < k → 10 ≤ 10 ^ k
ten-le zero h = absurd (omega arith)
ten-le (suc k) h = rw pow-suc (omega (arith, one-le-pow k 10 (omega arith)))
