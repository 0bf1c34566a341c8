-- The keys of each mark, by their fields.
use mathlib.Core.Path.{◌≡◌, refl}
use mathlib.Core.Bool.{true, false}
use Prim.Native.Nat.{ℕ, ◌+◌, ◌*◌, ◌/◌, ◌%◌, ◌≤◌, ◌<◌}
use native.Mathlib.Omega.{arith}
use lib.Dec.{eqb, lit≤, lit<}
use lib.ListN.{get_or}
use Rattle.records.specs.Table.{table, row_of, kinds, RS, HP, FU, AD, MM, RQ, HR, TH, FP, LC, AO}
use Rattle.records.specs.MarkShapes.{shape, shape_of}
use Rattle.index.proofs.KeyBounds.{InKey, Spans}

module _ (k : ℕ) where
  abbrev low : ℕ → ℕ
  low i = get_or (shape_of k).lowest i 0

  abbrev high : ℕ → ℕ
  high i = get_or (shape_of k).highest i 0

  one_field : (n : ℕ) → 1 ≤ k → k < kinds → eqb (high 1) 0 ≡ true → low 0 ≤ n → n ≤ high 0 → InKey k n
  unfolding Spans
  one_field n a b e p q = record { known = a; low = b; spans = rw e (p, q) }

  two-field : (x y : ℕ) → 1 ≤ k → k < kinds → eqb (high 1) 0 ≡ false → eqb (high 2) 0 ≡ true → low 0 ≤ x → x ≤ high 0 → low 1 ≤ y → y ≤ high 1
      → high 1 < 256 → InKey k (x * 256 + y)
  unfolding Spans
  two-field x y a b e f p q r s t =
      let i : (x * 256 + y) / 256 ≡ x = omega arith in
      let j : (x * 256 + y) % 256 ≡ y = omega arith in
      record { known = a; low = b; spans = rw (e, f, i, j) ((p, q), (r, s)) }

-- ---- without a key, which counts as 0

pub station-key : InKey RS 0
unfolding shape_of shape row_of table
station-key = one_field RS 0 (lit≤ tt) (lit< tt) refl (lit≤ tt) (lit≤ tt)

pub last-cost-key : InKey LC 0
unfolding shape_of shape row_of table
last-cost-key = one_field LC 0 (lit≤ tt) (lit< tt) refl (lit≤ tt) (lit≤ tt)

-- ---- one field

pub point-key : (n : ℕ) → 1 ≤ n → n ≤ 21 → InKey HP n
unfolding shape_of shape row_of table
point-key n a b = one_field HP n (lit≤ tt) (lit< tt) refl a b

pub fuel-key : (p : ℕ) → 1 ≤ p → p ≤ 4 → InKey FU p
unfolding shape_of shape row_of table
fuel-key p a b = one_field FU p (lit≤ tt) (lit< tt) refl a b

pub request-key : (n : ℕ) → 1 ≤ n → n ≤ 16 → InKey RQ n
unfolding shape_of shape row_of table
request-key n a b = one_field RQ n (lit≤ tt) (lit< tt) refl a b

pub hour-key : (n : ℕ) → 1 ≤ n → n ≤ 168 → InKey HR n
unfolding shape_of shape row_of table
hour-key n a b = one_field HR n (lit≤ tt) (lit< tt) refl a b

pub place-key : (n : ℕ) → 1 ≤ n → n ≤ 4000 → InKey FP n
unfolding shape_of shape row_of table
place-key n a b = one_field FP n (lit≤ tt) (lit< tt) refl a b

-- ---- two fields and more

pub item-key : (p j : ℕ) → 1 ≤ p → p ≤ 4 → 1 ≤ j → j ≤ 8 → InKey MM (p * 256 + j)
unfolding shape_of shape row_of table
item-key p j a b x y = two-field MM p j (lit≤ tt) (lit< tt) refl refl a b x y (lit< tt)

pub threshold-key : (c v : ℕ) → 1 ≤ c → c ≤ 3 → 1 ≤ v → v ≤ 4 → InKey TH (c * 256 + v)
unfolding shape_of shape row_of table
threshold-key c v a b x y = two-field TH c v (lit≤ tt) (lit< tt) refl refl a b x y (lit< tt)

pub adder-key : (p c v : ℕ) → 1 ≤ p → p ≤ 4 → 1 ≤ c → c ≤ 5 → 1 ≤ v → v ≤ 4 → InKey AD (p * 65536 + c * 256 + v)
unfolding Spans shape_of shape row_of table
adder-key p c v a b x y z w =
    record { known = lit≤ tt; low = lit< tt; spans = ((omega arith, omega arith), (omega arith, omega arith), (omega arith, omega arith)) }

pub owner-key : (o p c v : ℕ) → 1 ≤ o → o ≤ 2 → 1 ≤ p → p ≤ 4 → 1 ≤ c → c ≤ 5 → 1 ≤ v → v ≤ 4 → InKey AO (o * 16777216 + p * 65536 + c * 256 + v)
unfolding Spans shape_of shape row_of table
owner-key o p c v a b d e x y z w =
    record {
      known = lit≤ tt;
      low = lit< tt;
      spans = ((omega arith, omega arith), (omega arith, omega arith), (omega arith, omega arith), (omega arith, omega arith));
    }
