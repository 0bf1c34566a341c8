-- Keys: the numbers within the bounds of the code's table. A record without fault has one.
use mathlib.Core.Path.{◌≡◌, refl}
use mathlib.Core.Bool.{Bool, true, false, cond, ◌&&◌}
use mathlib.Core.List.{List}
use Prim.Native.Nat.{ℕ, ◌/◌, ◌%◌, ◌≤◌, ◌<◌}
use native.Mathlib.Omega.{arith}
use lib.Dec.{ltb, eqb, lit<}
use lib.ListN.{get_or}
use borrow.Author.Tests.{lt-ltb, ltb-true}
use Rattle.lists.specs.Tests.{between}
use Rattle.lists.proofs.Tests.{and_left, and_right, and_both, between-low, between-high, in_between}
use Rattle.fields.specs.Numbers.{number}
use Rattle.records.specs.declared.MarkShape.{MarkShape}
use Rattle.records.specs.Table.{table, row_of, field_of, kinds, RS, HP, FU, AD, MM, RQ, HR, CH, TH, FP, LC, AO, FV, AV, MV}
use Rattle.records.specs.Record.{mark, is_dated, kind_of, kind, fields_at, offset_in, offset, read, value, key_in, key_width, key_of, in_range, ranges_hold, fault}
use Rattle.records.specs.MarkShapes.{shape, shape_of, key_field, key_fits, key_test}
use Rattle.records.proofs.Record.{faultless, field_in}
use Rattle.records.proofs.EveryMark.{mark-lt, by-mark, by_kind, kind-lt, kind-known}

-- a key field within its bounds
abbrev pub Span : MarkShape → ℕ → ℕ → Type 0
Span m i x = (get_or m.lowest i 0 ≤ x) × (x ≤ get_or m.highest i 0)

-- a number's key fields; the tests: there is no second field, no third, no fourth
unfoldable pub Spans : Bool → Bool → Bool → MarkShape → ℕ → Type 0
Spans true b c m n = Span m 0 n
Spans false true c m n = Span m 0 (n / 256) × Span m 1 (n % 256)
Spans false false true m n = Span m 0 (n / 65536) × Span m 1 (n / 256 % 256) × Span m 2 (n % 256)
Spans false false false m n = Span m 0 (n / 16777216) × Span m 1 (n / 65536 % 256) × Span m 2 (n / 256 % 256) × Span m 3 (n % 256)

abbrev pub none : MarkShape → ℕ → Bool
none m i = eqb (get_or m.highest i 0) 0

-- by the tests of a shape
abbrev pub SpansIn : MarkShape → ℕ → Type 0
SpansIn m n = Spans (none m 1) (none m 2) (none m 3) m n

-- a number is a key of kind k
pub record InKey (k n : ℕ) : Type 0 where
  pub known : 1 ≤ k
  pub low : k < kinds
  pub spans : SpansIn (shape_of k) n

span_of : {lo hi x : ℕ} → between lo hi x ≡ true → (lo ≤ x) × (x ≤ hi)
span_of {lo} {hi} {x} e = (between-low lo hi x e, between-high lo hi x e)

of-span : (m : MarkShape) (i x : ℕ) → Span m i x → key_field m i x ≡ true
unfolding key_field
of-span m i x p = in_between (get_or m.lowest i 0) (get_or m.highest i 0) x p.0 p.1

to-span : (m : MarkShape) (i x : ℕ) → key_field m i x ≡ true → Span m i x
unfolding key_field
to-span m i x e = span_of e

-- the test of the code decides it; by the tests of `Spans`
abbrev fits : Bool → Bool → Bool → MarkShape → ℕ → Bool
fits a b c m n =
    cond a (key_field m 0 n)
    (cond b (key_field m 0 (n / 256) && key_field m 1 (n % 256))
    (cond c (key_field m 0 (n / 65536) && key_field m 1 (n / 256 % 256) && key_field m 2 (n % 256))
    (key_field m 0 (n / 16777216) && key_field m 1 (n / 65536 % 256) && key_field m 2 (n / 256 % 256) && key_field m 3 (n % 256))))

pub test-key : (k n : ℕ) → k < kinds → key_test k n ≡ true → InKey k n
unfolding key_test key_fits
test-key k n h e =
    record {
      known = ltb-true 0 k (and_left (ltb 0 k) (key_fits (shape_of k) n) e);
      low = h;
      spans = go (shape_of k) (none (shape_of k) 1) (none (shape_of k) 2) (none (shape_of k) 3) (and_right (ltb 0 k) (key_fits (shape_of k) n) e);
    }
  where
    two : (m : MarkShape) (x y : ℕ) → key_field m 0 x && key_field m 1 y ≡ true → Span m 0 x × Span m 1 y
    two m x y e = (to-span m 0 x (and_left (key_field m 0 x) (key_field m 1 y) e), to-span m 1 y (and_right (key_field m 0 x) (key_field m 1 y) e))

    three : (m : MarkShape) (x y z : ℕ) → key_field m 0 x && key_field m 1 y && key_field m 2 z ≡ true → Span m 0 x × Span m 1 y × Span m 2 z
    three m x y z e =
        let t = two m x y (and_left (key_field m 0 x && key_field m 1 y) (key_field m 2 z) e) in
        (t.0, t.1, to-span m 2 z (and_right (key_field m 0 x && key_field m 1 y) (key_field m 2 z) e))

    four : (m : MarkShape) (x y z v : ℕ) → key_field m 0 x && key_field m 1 y && key_field m 2 z && key_field m 3 v ≡ true
        → Span m 0 x × Span m 1 y × Span m 2 z × Span m 3 v
    four m x y z v e =
        let t = three m x y z (and_left (key_field m 0 x && key_field m 1 y && key_field m 2 z) (key_field m 3 v) e) in
        (t.0, t.1, t.2, to-span m 3 v (and_right (key_field m 0 x && key_field m 1 y && key_field m 2 z) (key_field m 3 v) e))

    go : (m : MarkShape) (a b c : Bool) → fits a b c m n ≡ true → Spans a b c m n
    go m true b c e = unfold Spans in to-span m 0 n e
    go m false true c e = unfold Spans in two m (n / 256) (n % 256) e
    go m false false true e = unfold Spans in three m (n / 65536) (n / 256 % 256) (n % 256) e
    go m false false false e = unfold Spans in four m (n / 16777216) (n / 65536 % 256) (n / 256 % 256) (n % 256) e

pub key-test : (k n : ℕ) → InKey k n → key_test k n ≡ true
unfolding key_test key_fits
key-test k n p =
    and_both (ltb 0 k) (key_fits (shape_of k) n) (lt-ltb 0 k (omega (arith, p.known)))
    (go (shape_of k) (none (shape_of k) 1) (none (shape_of k) 2) (none (shape_of k) 3) p.spans)
  where
    go : (m : MarkShape) (a b c : Bool) → Spans a b c m n → fits a b c m n ≡ true
    go m true b c q = unfold Spans in of-span m 0 n q
    go m false true c q = unfold Spans in rw (of-span m 0 (n / 256) q.0, of-span m 1 (n % 256) q.1) refl
    go m false false true q = unfold Spans in rw (of-span m 0 (n / 65536) q.0, of-span m 1 (n / 256 % 256) q.1, of-span m 2 (n % 256) q.2) refl
    go m false false false q =
        unfold Spans in
        rw (of-span m 0 (n / 16777216) q.0, of-span m 1 (n / 65536 % 256) q.1, of-span m 2 (n / 256 % 256) q.2, of-span m 3 (n % 256) q.3) refl

-- ---- a record without fault has a key of its kind

Keyed : List ℕ → ℕ → Type 0
Keyed r k = ranges_hold k r ≡ true → SpansIn (shape_of (kind_of k)) (number (fields_at k) (key_width k) r)

module _ (r : List ℕ) where
  keyed-rs : Keyed r RS
  unfolding Keyed Spans shape_of shape kind_of is_dated fields_at key_width key_in row_of table number
  keyed-rs h = (omega arith, omega arith)

  keyed-lc : Keyed r LC
  unfolding Keyed Spans shape_of shape kind_of is_dated fields_at key_width key_in row_of table number
  keyed-lc h = (omega arith, omega arith)

  keyed-hp : Keyed r HP
  unfolding Keyed Spans shape_of shape kind_of is_dated fields_at key_width key_in in_range value read offset offset_in field_of row_of table
  keyed-hp h = span_of (field_in HP 0 r h (lit< tt))

  keyed-fu : Keyed r FU
  unfolding Keyed Spans shape_of shape kind_of is_dated fields_at key_width key_in in_range value read offset offset_in field_of row_of table
  keyed-fu h = span_of (field_in FU 0 r h (lit< tt))

  keyed-rq : Keyed r RQ
  unfolding Keyed Spans shape_of shape kind_of is_dated fields_at key_width key_in in_range value read offset offset_in field_of row_of table
  keyed-rq h = span_of (field_in RQ 0 r h (lit< tt))

  keyed-hr : Keyed r HR
  unfolding Keyed Spans shape_of shape kind_of is_dated fields_at key_width key_in in_range value read offset offset_in field_of row_of table
  keyed-hr h = span_of (field_in HR 0 r h (lit< tt))

  keyed-ch : Keyed r CH
  unfolding Keyed Spans shape_of shape kind_of is_dated fields_at key_width key_in in_range value read offset offset_in field_of row_of table
  keyed-ch h = span_of (field_in CH 0 r h (lit< tt))

  keyed-fp : Keyed r FP
  unfolding Keyed Spans shape_of shape kind_of is_dated fields_at key_width key_in in_range value read offset offset_in field_of row_of table
  keyed-fp h = span_of (field_in FP 0 r h (lit< tt))

  keyed-mm : Keyed r MM
  unfolding Keyed Spans shape_of shape kind_of is_dated fields_at key_width key_in in_range value read offset offset_in field_of row_of table number
  keyed-mm h =
      let a = span_of (field_in MM 0 r h (lit< tt)) in
      let b = span_of (field_in MM 1 r h (lit< tt)) in
      ((omega (arith, a, b), omega (arith, a, b)), (omega (arith, a, b), omega (arith, a, b)))

  keyed-th : Keyed r TH
  unfolding Keyed Spans shape_of shape kind_of is_dated fields_at key_width key_in in_range value read offset offset_in field_of row_of table number
  keyed-th h =
      let a = span_of (field_in TH 0 r h (lit< tt)) in
      let b = span_of (field_in TH 1 r h (lit< tt)) in
      ((omega (arith, a, b), omega (arith, a, b)), (omega (arith, a, b), omega (arith, a, b)))

  keyed-ad : Keyed r AD
  unfolding Keyed Spans shape_of shape kind_of is_dated fields_at key_width key_in in_range value read offset offset_in field_of row_of table number
  keyed-ad h =
      let a = span_of (field_in AD 0 r h (lit< tt)) in
      let b = span_of (field_in AD 1 r h (lit< tt)) in
      let c = span_of (field_in AD 2 r h (lit< tt)) in
      ((omega (arith, a, b, c), omega (arith, a, b, c)), (omega (arith, a, b, c), omega (arith, a, b, c)), (omega (arith, a, b, c), omega (arith, a, b, c)))

  keyed-ao : Keyed r AO
  unfolding Keyed Spans shape_of shape kind_of is_dated fields_at key_width key_in in_range value read offset offset_in field_of row_of table number
  keyed-ao h =
      let a = span_of (field_in AO 0 r h (lit< tt)) in
      let b = span_of (field_in AO 1 r h (lit< tt)) in
      let c = span_of (field_in AO 2 r h (lit< tt)) in
      let d = span_of (field_in AO 3 r h (lit< tt)) in (
        (omega (arith, a, b, c, d), omega (arith, a, b, c, d)),
        (omega (arith, a, b, c, d), omega (arith, a, b, c, d)),
        (omega (arith, a, b, c, d), omega (arith, a, b, c, d)),
        (omega (arith, a, b, c, d), omega (arith, a, b, c, d)),
      )

  keyed-fv : Keyed r FV
  unfolding Keyed Spans shape_of shape kind_of is_dated fields_at key_width key_in in_range value read offset offset_in field_of row_of table
  keyed-fv h = span_of (field_in FV 0 r h (lit< tt))

  keyed-av : Keyed r AV
  unfolding Keyed Spans shape_of shape kind_of is_dated fields_at key_width key_in in_range value read offset offset_in field_of row_of table number
  keyed-av h =
      let a = span_of (field_in AV 0 r h (lit< tt)) in
      let b = span_of (field_in AV 1 r h (lit< tt)) in
      let c = span_of (field_in AV 2 r h (lit< tt)) in
      ((omega (arith, a, b, c), omega (arith, a, b, c)), (omega (arith, a, b, c), omega (arith, a, b, c)), (omega (arith, a, b, c), omega (arith, a, b, c)))

  keyed-mv : Keyed r MV
  unfolding Keyed Spans shape_of shape kind_of is_dated fields_at key_width key_in in_range value read offset offset_in field_of row_of table number
  keyed-mv h =
      let a = span_of (field_in MV 0 r h (lit< tt)) in
      let b = span_of (field_in MV 1 r h (lit< tt)) in
      ((omega (arith, a, b), omega (arith, a, b)), (omega (arith, a, b), omega (arith, a, b)))

pub in-key : (r : List ℕ) → fault r ≡ 0 → InKey (kind r) (key_of r)
unfolding Keyed kind key_of
in-key r e =
    let f = faultless r e in
    record {
      known = kind-known (mark r) f.known (mark-lt r);
      low = kind-lt (mark r) (mark-lt r);
      spans =
          by-mark (Keyed r) (keyed-rs r) (keyed-hp r) (keyed-fu r) (keyed-ad r) (keyed-mm r) (keyed-rq r) (keyed-hr r) (keyed-ch r) (keyed-th r) (keyed-fp r)
          (keyed-lc r) (keyed-ao r) (keyed-fv r) (keyed-av r) (keyed-mv r) (mark r) f.known (mark-lt r) f.ranges;
    }

-- what holds of every kind holds of a key's
pub at-kind : (P : ℕ → Type 0) (k n : ℕ) → InKey k n → P RS → P HP → P FU → P AD → P MM → P RQ → P HR → P CH → P TH → P FP → P LC → P AO → P k
at-kind P k n p a b c d e f g h i j m o = by_kind P a b c d e f g h i j m o k (λ z. omega (arith, z, p.known)) p.low
