-- How a division rounds: the laws that know it, for every number and divisor.
use mathlib.Core.Path.{◌≡◌, sym}
use Prim.Native.Nat.{ℕ, zero, suc, ◌+◌, ◌*◌, ◌-◌, ◌/◌, ◌%◌, ◌≤◌, ◌<◌}
use native.Mathlib.Nat.{le-div_iff_mul-le, div-lt_iff_lt-mul, div-mul-le_self, lt-div-mul-add, le_trans, le_refl, div-zero, div-eq_of_lt-le, div-add-mod}
use native.Mathlib.Nat.{mod-lt}
use native.Mathlib.Omega.{arith}
use Rattle.formulas.specs.Exact.{quotient}

-- the quotient is at most half above the exact one, and less than half below it
pub quotient-nearest : (n d : ℕ) → 0 < d → (2 * quotient n d * d ≤ 2 * n + d) × (2 * n < (2 * quotient n d + 1) * d)
unfolding quotient
quotient-nearest n d h =
    (omega (arith, div-mul-le_self (2 * n + d) (2 * d)), omega (arith, lt-div-mul-add {a = 2 * n + d} {b = 2 * d} (omega arith)))

-- and no other number is
pub nearest-quotient : (n d q : ℕ) → 2 * q * d ≤ 2 * n + d → 2 * n < (2 * q + 1) * d → q ≡ quotient n d
unfolding quotient
nearest-quotient n d q a b = sym (div-eq_of_lt-le {k = q} (2 * d) {m = 2 * n + d} (omega arith) (omega arith))

pub quotient-none : (n : ℕ) → quotient n 0 ≡ 0
unfolding quotient
quotient-none n = div-zero (2 * n + 0)

pub quotient-mono : {a b : ℕ} (d : ℕ) → a ≤ b → quotient a d ≤ quotient b d
unfolding quotient
quotient-mono {a} {b} zero h = rw (div-zero (2 * a + 0), div-zero (2 * b + 0)) (le_refl 0)
quotient-mono {a} {b} (suc d) h =
    (le-div_iff_mul-le {k = 2 * suc d} (omega arith)).1 (le_trans (div-mul-le_self (2 * a + suc d) (2 * suc d)) (omega arith))

pub quotient_le : (n d b : ℕ) → n ≤ d * b → quotient n d ≤ b
unfolding quotient
quotient_le n zero b h = rw (div-zero (2 * n + 0)) (omega arith)
quotient_le n (suc d) b h =
    omega (arith, (div-lt_iff_lt-mul {k = 2 * suc d} {x = 2 * n + suc d} {y = b + 1} (omega arith)).1 (omega arith))

pub quotient-self : (n d : ℕ) → quotient n d ≤ n
quotient-self n zero = rw (quotient-none n) (omega arith)
quotient-self n (suc d) = quotient_le n (suc d) n (omega arith)

-- nothing is left of nothing
pub quotient-of-none : (n d : ℕ) → n ≡ 0 → quotient n d ≡ 0
quotient-of-none n d e = omega (arith, quotient-self n d)

-- ---- by quotient and remainder, as code divides

-- a remainder of half the divisor or more goes up
pub remainder-up : (n d : ℕ) → 0 < d → d - n % d ≤ n % d → n / d + 1 ≡ quotient n d
remainder-up n d h g =
    let e = div-add-mod n d in
    nearest-quotient n d (n / d + 1) (omega (arith, e)) (omega (arith, e, mod-lt n h))

-- and any other down
pub remainder-down : (n d : ℕ) → 0 < d → n % d < d - n % d → n / d ≡ quotient n d
remainder-down n d h g =
    let e = div-add-mod n d in
    nearest-quotient n d (n / d) (omega (arith, e)) (omega (arith, e))
