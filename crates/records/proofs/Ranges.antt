-- Laws of ranges, as code tests them.
use mathlib.Core.Path.{◌≡◌, refl}
use mathlib.Core.Bool.{Bool, true, false}
use mathlib.Core.List.{List}
use Prim.Native.Nat.{ℕ, ◌+◌}
use native.Mathlib.Omega.{arith}
use lib.Dec.{leb, leb-zero}
use lib.ListN.{get_or}
use borrow.Author.Tests.{le-leb}
use Rattle.std.proofs.Common.{Fits, w8}
use Rattle.std.proofs.lemmas.Bool.Decides.{nat_tests}
use Rattle.std.specs.declared.ops.RangeInclusive.{RangeInclusive}
use Rattle.std.specs.Range.{range_inclusive_start, range_inclusive_end, range_inclusive_exhausted, range_inclusive_contains}
use Rattle.std.specs.Ordering.{nat_cmp}
use Rattle.std.specs.Prelude.{Some}
use Rattle.lists.specs.Tests.{between}
use Rattle.fields.specs.Numbers.{number}

-- of a range from 0 on, the highest value alone is tested
pub up-to : (hi x : ℕ) → between 0 hi x ≡ leb x hi
unfolding between
up-to hi x = rw (leb-zero x) refl

-- whether a range of Rust holds a number
pub inside : (lo hi x : ℕ) {r : RangeInclusive ℕ} {b : Bool} → range_inclusive_start r ≡ lo → range_inclusive_end r ≡ hi
    → range_inclusive_exhausted r ≡ false → b ≡ range_inclusive_contains (λ m n. Some (nat_cmp m n)) r x → b ≡ between lo hi x
unfolding between
inside lo hi x s e o h = rw (h, s, e, o) (grind (arith, nat_tests))

-- four bytes may be any number
pub any-four : (o : ℕ) (s : List ℕ) → ((i : ℕ) → Fits w8 (get_or s i 0)) → leb (number o 4 s) 4294967295 ≡ true
unfolding number
any-four o s h = le-leb _ _ (omega (arith, h (o + 0), h (o + 1), h (o + 2), h (o + 3)))
