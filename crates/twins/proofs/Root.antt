-- The root of an id: its sum and its product fit, and it is one of the roots.
use Prim.Native.Nat.{ℕ, ◌+◌, ◌*◌, ◌/◌, ◌%◌, ◌≤◌, ◌<◌}
use native.Mathlib.Nat.{lt_of_le_of_lt, add-le-add, mul-le-mul, mul-le-mul_right, mod-lt, mul-lt-mul_of_pos_right, div-lt_iff_lt-mul}
use native.Mathlib.Omega.{arith}
use Rattle.twins.specs.Tree.{mixed, root}

-- the sum of the halves fits
pub sum_fits : (x : ℕ) → x < 18446744073709551616 → x % 4294967296 * 2654435769 + x / 4294967296 * 1540483477 < 18446744073709551616
sum_fits x h =
    let low : x % 4294967296 ≤ 4294967295 = omega arith in
    let high : x / 4294967296 ≤ 4294967295 = omega arith in
    lt_of_le_of_lt (add-le-add (mul-le-mul_right 2654435769 low) (mul-le-mul_right 1540483477 high)) (omega arith)

-- a product of two halves fits
pub product-fits : {m n : ℕ} → m < 4294967296 → n < 4294967296 → m * n < 18446744073709551616
product-fits h k = omega (arith, mul-le-mul (below h) (below k))
  where
    below : {i : ℕ} → i < 4294967296 → i ≤ 4294967295
    below h = omega arith

-- a number below 4294967296, scaled to n, is below n
scaled-lt : (m n : ℕ) → m < 4294967296 → 0 < n → m * n / 4294967296 < n
scaled-lt m n h p = (div-lt_iff_lt-mul {k = 4294967296} {x = m * n} {y = n} (omega arith)).1 (omega (arith, mul-lt-mul_of_pos_right h p))

-- the root is one of the n
pub root-lt : (n x : ℕ) → 0 < n → root n x < n
unfolding root
root-lt n x h = scaled-lt (mixed x) n (mod-lt _ (omega arith)) h
