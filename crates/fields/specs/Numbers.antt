-- Numbers in bytes.
use Rattle.std.specs.Prelude.{cond, List, [], ◌∷◌, ℕ, zero, suc, ◌+◌, ◌*◌, ◌-◌, ◌/◌, ◌%◌, ltb, ℤ, pos, negsuc, get_or}

-- "Fields are big-endian and unsigned": the number in the w bytes from byte o on, the first the highest; a byte past the end counts as 0
unfoldable pub number : ℕ → ℕ → List ℕ → ℕ
number o zero r = 0
number o (suc w) r = number o w r * 256 + get_or r (o + w) 0

-- the other way: a number's w bytes, before those of a list
unfoldable pub bytes_onto : ℕ → ℕ → List ℕ → List ℕ
bytes_onto zero n l = l
bytes_onto (suc w) n l = bytes_onto w (n / 256) ((n % 256) ∷ l)

-- a number in w bytes
unfoldable pub bytes_of : ℕ → ℕ → List ℕ
bytes_of w n = bytes_onto w n []

-- "prices marked s are 4-byte two's complement": the signed number that four bytes mean, given the number that they are without a sign
unfoldable pub signed : ℕ → ℤ
signed n = cond (ltb n 2147483648) (pos n) (negsuc (4294967295 - n))

-- Signed numbers are held plus 2^31, so that they compare and add up as whole numbers that are never negative.
-- The laws `signed-biased` and `biased_of-signed` say that nothing else is meant by it.
abbrev pub bias : ℕ
bias = 2147483648

-- four bytes' signed number plus the bias, given the number that they are without a sign
unfoldable pub biased : ℕ → ℕ
biased n = (n + 2147483648) % 4294967296

-- a signed 32-bit number plus the bias
unfoldable pub biased_of : ℤ → ℕ
biased_of (pos n) = n + 2147483648
biased_of (negsuc n) = 2147483647 - n

-- the signed number that is held plus the bias; the law `unbiased-biased` says that it is the one that four bytes mean
unfoldable pub unbiased : ℕ → ℤ
unbiased n = cond (ltb n 2147483648) (negsuc (2147483647 - n)) (pos (n - 2147483648))
