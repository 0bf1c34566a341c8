-- Laws of numbers in bytes.
use mathlib.Core.Path.{◌≡◌, refl, ap, sym, ◌∙◌}
use mathlib.Core.Bool.{Bool, true, false, cond}
use mathlib.Core.List.{List, [], ◌∷◌}
use Prim.Native.Nat.{ℕ, zero, suc, ◌+◌, ◌*◌, ◌-◌, ◌/◌, ◌^◌, ◌%◌, ◌≤◌, ◌<◌}
use native.Mathlib.Nat.{pow-suc, add-zero, zero-add, add-suc, suc-add, add_assoc}
use native.Mathlib.Omega.{arith}
use lib.Dec.{ltb}
use lib.IntN.{pos, negsuc, ◌+ℤ◌}
use lib.ListN.{get_or, drop}
use lib.Seq.{get_or-drop}
use borrow.Author.Tests.{ltb-true, ltb-false, lt-ltb, le-ltb}
use Rattle.lists.specs.Lists.{Each, done, also}
use Rattle.fields.specs.Numbers.{number, bytes_onto, bytes_of, bias, biased, biased_of, unbiased, signed}

-- alike in its bytes, a number is the same
pub number_same : (o w : ℕ) (r s : List ℕ) → ((i : ℕ) → o ≤ i → i < o + w → get_or r i 0 ≡ get_or s i 0) → number o w r ≡ number o w s
unfolding number
number_same o zero r s h = refl
number_same o (suc w) r s h =
    rw (number_same o w r s (λ i a b. h i a (omega arith)), h (o + w) (omega arith) (omega arith)) refl

-- what is behind the first n bytes, read in place
pub number-drop : (n o w : ℕ) (r : List ℕ) → number o w (drop n r) ≡ number (n + o) w r
unfolding number
number-drop n o zero r = refl
number-drop n o (suc w) r = rw (number-drop n o w r, get_or-drop n r (o + w) 0, add_assoc n o w) refl

pub number-nil : (o w : ℕ) → number o w [] ≡ 0
unfolding number
number-nil o zero = refl
number-nil o (suc w) = rw (number-nil o w) refl

abbrev pub Byte : ℕ → Type 0
Byte b = b < 256

byte_at : {r : List ℕ} → Each Byte r → (i : ℕ) → get_or r i 0 < 256
byte_at done i = omega arith
byte_at (also h e) zero = h
byte_at (also h e) (suc i) = byte_at e i

-- w bytes give a number below 256^w
pub number_lt : (o w : ℕ) {r : List ℕ} → Each Byte r → number o w r < 256 ^ w
unfolding number
number_lt o zero h = omega arith
number_lt o (suc w) {r} h = rw (pow-suc) (omega (arith, number_lt o w h, byte_at h (o + w)))

-- ---- a number in bytes, and read again

onto-behind : (w n i : ℕ) (l : List ℕ) → get_or (bytes_onto w n l) (w + i) 0 ≡ get_or l i 0
unfolding bytes_onto
onto-behind zero n i l = rw (zero-add i) refl
onto-behind (suc w) n i l = rw (suc-add w i, ← add-suc w i) (onto-behind w (n / 256) (suc i) ((n % 256) ∷ l))

number-onto : (w n : ℕ) (l : List ℕ) → n < 256 ^ w → number 0 w (bytes_onto w n l) ≡ n
unfolding number bytes_onto
number-onto zero n l h = omega arith
number-onto (suc w) n l h =
    let z : n < 256 ^ w * 256 = rw (pow-suc) at h in
    let b : get_or (bytes_onto w (n / 256) ((n % 256) ∷ l)) w 0 ≡ n % 256 = rw (add-zero w) at (onto-behind w (n / 256) 0 ((n % 256) ∷ l)) in
    rw (number-onto w (n / 256) ((n % 256) ∷ l) (omega arith), zero-add w, b) (omega arith)

-- a number that fits w bytes is what its bytes give
pub number-bytes_of : (w n : ℕ) → n < 256 ^ w → number 0 w (bytes_of w n) ≡ n
unfolding bytes_of
number-bytes_of w n h = number-onto w n [] h

-- ---- signs

-- the law of the sign: what is held is the signed number that two's complement gives, a whole number of lib.IntN, plus 2^31
pub signed-biased : (n : ℕ) → n < 4294967296 → signed n +ℤ pos bias ≡ pos (biased n)
unfolding biased signed
signed-biased n h = go (ltb n 2147483648) refl
  where
    go : (b : Bool) → ltb n 2147483648 ≡ b → cond b (pos n) (negsuc (4294967295 - n)) +ℤ pos 2147483648 ≡ pos ((n + 2147483648) % 4294967296)
    go true e = ap pos (omega (arith, ltb-true n 2147483648 e))
    go false e =
        rw (le-ltb 2147483648 (suc (4294967295 - n)) (omega (arith, ltb-false n 2147483648 e)))
        (ap pos (omega (arith, ltb-false n 2147483648 e)))

-- and the same of a price that is given as a signed number: what is held of it is what is held of its bytes
pub biased_of-signed : (n : ℕ) → n < 4294967296 → biased_of (signed n) ≡ biased n
unfolding biased biased_of signed
biased_of-signed n h = go (ltb n 2147483648) refl
  where
    go : (b : Bool) → ltb n 2147483648 ≡ b → biased_of (cond b (pos n) (negsuc (4294967295 - n))) ≡ (n + 2147483648) % 4294967296
    go true e = omega (arith, ltb-true n 2147483648 e)
    go false e = omega (arith, ltb-false n 2147483648 e)

-- the other way
pub unbiased-biased : (n : ℕ) → n < 4294967296 → unbiased (biased n) ≡ signed n
unfolding biased unbiased signed
unbiased-biased n h = go (ltb n 2147483648) refl
  where
    go : (b : Bool) → ltb n 2147483648 ≡ b
        → cond (ltb ((n + 2147483648) % 4294967296) 2147483648) (negsuc (2147483647 - (n + 2147483648) % 4294967296)) (pos
        ((n + 2147483648) % 4294967296 - 2147483648))
        ≡ cond b (pos n) (negsuc (4294967295 - n))
    go true e =
        let z : (n + 2147483648) % 4294967296 ≡ n + 2147483648 = omega (arith, ltb-true n 2147483648 e) in
        rw (z, le-ltb (n + 2147483648) 2147483648 (omega arith)) (ap pos (omega arith))
    go false e =
        let z : (n + 2147483648) % 4294967296 ≡ n - 2147483648 = omega (arith, ltb-false n 2147483648 e) in
        rw (z, lt-ltb (n - 2147483648) 2147483648 (omega arith)) (ap negsuc (omega (arith, ltb-false n 2147483648 e)))

pub biased_of-unbiased : (n : ℕ) → biased_of (unbiased n) ≡ n
unfolding biased_of unbiased
biased_of-unbiased n = go (ltb n 2147483648) refl
  where
    go : (b : Bool) → ltb n 2147483648 ≡ b → biased_of (cond b (negsuc (2147483647 - n)) (pos (n - 2147483648))) ≡ n
    go true e = omega (arith, ltb-true n 2147483648 e)
    go false e = omega (arith, ltb-false n 2147483648 e)

-- ---- wide numbers from narrow ones

-- the number of w + v bytes: that of the first w, shifted, and that of the last v
pub number-join : (o w v : ℕ) (r : List ℕ) → number o (w + v) r ≡ number o w r * 256 ^ v + number (o + w) v r
unfolding number
number-join o w zero r = rw (add-zero w) (omega arith)
number-join o w (suc v) r = rw (add-suc w v, pow-suc, number-join o w v r, ← add_assoc o w v) (omega arith)

pub number-one : (o : ℕ) (r : List ℕ) → get_or r o 0 ≡ number o 1 r
unfolding number
number-one o r = rw (add-zero o) (omega arith)

pub number-two : (o : ℕ) (r : List ℕ) → get_or r o 0 * 256 + get_or r (o + 1) 0 ≡ number o 2 r
number-two o r = sym (number-join o 1 1 r ∙ rw (← number-one o r, ← number-one (o + 1) r) refl)

pub number-four : (o : ℕ) (r : List ℕ) → number o 2 r * 65536 + number (o + 2) 2 r ≡ number o 4 r
number-four o r = sym (number-join o 2 2 r)

pub number-eight : (o : ℕ) (r : List ℕ) → number o 4 r * 4294967296 + number (o + 4) 4 r ≡ number o 8 r
number-eight o r = sym (number-join o 4 4 r)
