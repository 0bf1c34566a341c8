-- Laws of the slots: where they lie, and no two keys share one.
use mathlib.Core.Path.{◌≡◌, refl, ap, sym, subst, ◌∙◌}
use mathlib.Core.Bool.{Bool, true, false, ◌||◌, not, false≢true}
use mathlib.Core.List.{List, [], ◌∷◌}
use Prim.Native.Nat.{ℕ, ◌+◌, ◌*◌, ◌-◌, ◌/◌, ◌%◌, ◌≤◌, ◌<◌}
use native.Mathlib.Omega.{arith}
use lib.Dec.{leb, ltb, eqb}
use lib.ListN.{get_or}
use borrow.Author.Tests.{leb-true, ltb-true, eqb-true, ne_eqb}
use Rattle.lists.specs.Tests.{all_below, every_of}
use Rattle.lists.proofs.Radix.{Under, none as no_more, more, product, rank, rank_lt, rank_same}
use Rattle.lists.proofs.Tests.{below_at, every_of-at}
use Rattle.records.specs.declared.MarkShape.{MarkShape}
use Rattle.records.specs.Table.{table, row_of, kinds, AD, CH, TH, FP, AO}
use Rattle.records.specs.MarkShapes.{shape, shape_of}
use Rattle.index.proofs.KeyBounds.{Span, Spans, none, InKey, at-kind}
use Rattle.index.specs.Slots.{slot, short, narrow, wide, slots_empty}

-- ---- a slot is a number in mixed radix: bounded, and no two keys share one

-- where the slots of a kind begin and end
unfoldable pub low : ℕ → ℕ
low k = get_or (0 ∷ 0 ∷ 1 ∷ 22 ∷ 26 ∷ 106 ∷ 138 ∷ 166 ∷ 494 ∷ 154 ∷ 2511 ∷ 2510 ∷ 334 ∷ []) k 0

abbrev highs : List ℕ
highs = 0 ∷ 0 ∷ 21 ∷ 25 ∷ 105 ∷ 137 ∷ 153 ∷ 333 ∷ 2509 ∷ 165 ∷ 6510 ∷ 2510 ∷ 493 ∷ []

unfoldable pub high : ℕ → ℕ
high k = get_or highs k 0

-- a key field less its lowest, and how many it has: digits of a number in mixed radix. The tests are those of `Spans`.
abbrev digit : MarkShape → ℕ → ℕ → ℕ
digit m i x = x - get_or m.lowest i 0

unfoldable digits : Bool → Bool → Bool → MarkShape → ℕ → List ℕ
digits true b c m n = digit m 0 n ∷ []
digits false true c m n = digit m 0 (n / 256) ∷ digit m 1 (n % 256) ∷ []
digits false false true m n = digit m 0 (n / 65536) ∷ digit m 1 (n / 256 % 256) ∷ digit m 2 (n % 256) ∷ []
digits false false false m n = digit m 0 (n / 16777216) ∷ digit m 1 (n / 65536 % 256) ∷ digit m 2 (n / 256 % 256) ∷ digit m 3 (n % 256) ∷ []

abbrev base : MarkShape → ℕ → ℕ
base m i = get_or m.highest i 0 - get_or m.lowest i 0 + 1

unfoldable bases : Bool → Bool → Bool → MarkShape → List ℕ
bases true b c m = base m 0 ∷ []
bases false true c m = base m 0 ∷ base m 1 ∷ []
bases false false true m = base m 0 ∷ base m 1 ∷ base m 2 ∷ []
bases false false false m = base m 0 ∷ base m 1 ∷ base m 2 ∷ base m 3 ∷ []

below-base : (m : MarkShape) (i x : ℕ) → Span m i x → digit m i x < base m i
below-base m i x p = omega (arith, p)

under : (a b c : Bool) (m : MarkShape) (n : ℕ) → Spans a b c m n → Under (bases a b c m) (digits a b c m n)
unfolding Spans digits bases
under true b c m n p = more (below-base m 0 n p) no_more
under false true c m n p = more (below-base m 0 (n / 256) p.0) (more (below-base m 1 (n % 256) p.1) no_more)
under false false true m n p =
    more (below-base m 0 (n / 65536) p.0) (more (below-base m 1 (n / 256 % 256) p.1) (more (below-base m 2 (n % 256) p.2) no_more))
under false false false m n p =
    more (below-base m 0 (n / 16777216) p.0) (more (below-base m 1 (n / 65536 % 256) p.1) (more (below-base m 2 (n / 256 % 256) p.2)
    (more (below-base m 3 (n % 256) p.3) no_more)))

same-field : (m : MarkShape) (i x y : ℕ) → Span m i x → Span m i y → digit m i x ≡ digit m i y → x ≡ y
same-field m i x y p q e = omega (arith, p, q, e)

three-digits : (n : ℕ) → n ≡ n / 65536 * 65536 + n / 256 % 256 * 256 + n % 256
three-digits n = omega arith

four-digits : (n : ℕ) → n ≡ n / 16777216 * 16777216 + n / 65536 % 256 * 65536 + n / 256 % 256 * 256 + n % 256
four-digits n = omega arith

same_digits : (a b c : Bool) (m : MarkShape) (n o : ℕ) → Spans a b c m n → Spans a b c m o → digits a b c m n ≡ digits a b c m o → n ≡ o
unfolding Spans digits
same_digits true b c m n o p q e = same-field m 0 n o p q (ap (λ (l : List ℕ). get_or l 0 0) e)
same_digits false true c m n o p q e =
    let x = same-field m 0 (n / 256) (o / 256) p.0 q.0 (ap (λ (l : List ℕ). get_or l 0 0) e) in
    let y = same-field m 1 (n % 256) (o % 256) p.1 q.1 (ap (λ (l : List ℕ). get_or l 1 0) e) in
    omega (arith, x, y)
same_digits false false true m n o p q e =
    let x = same-field m 0 (n / 65536) (o / 65536) p.0 q.0 (ap (λ (l : List ℕ). get_or l 0 0) e) in
    let y = same-field m 1 (n / 256 % 256) (o / 256 % 256) p.1 q.1 (ap (λ (l : List ℕ). get_or l 1 0) e) in
    let z = same-field m 2 (n % 256) (o % 256) p.2 q.2 (ap (λ (l : List ℕ). get_or l 2 0) e) in
    three-digits n ∙ rw (x, y, z) (sym (three-digits o))
same_digits false false false m n o p q e =
    let x = same-field m 0 (n / 16777216) (o / 16777216) p.0 q.0 (ap (λ (l : List ℕ). get_or l 0 0) e) in
    let y = same-field m 1 (n / 65536 % 256) (o / 65536 % 256) p.1 q.1 (ap (λ (l : List ℕ). get_or l 1 0) e) in
    let z = same-field m 2 (n / 256 % 256) (o / 256 % 256) p.2 q.2 (ap (λ (l : List ℕ). get_or l 2 0) e) in
    let v = same-field m 3 (n % 256) (o % 256) p.3 q.3 (ap (λ (l : List ℕ). get_or l 3 0) e) in
    four-digits n ∙ rw (x, y, z, v) (sym (four-digits o))

-- of kind k
unfoldable digits_of : ℕ → ℕ → List ℕ
digits_of k n = digits (none (shape_of k) 1) (none (shape_of k) 2) (none (shape_of k) 3) (shape_of k) n

unfoldable bases_of : ℕ → List ℕ
bases_of k = bases (none (shape_of k) 1) (none (shape_of k) 2) (none (shape_of k) 3) (shape_of k)

under_of : (k n : ℕ) → InKey k n → Under (bases_of k) (digits_of k n)
unfolding digits_of bases_of
under_of k n p = under (none (shape_of k) 1) (none (shape_of k) 2) (none (shape_of k) 3) (shape_of k) n p.spans

-- the code's closed forms are that number, from where the mark's slots begin
Ranked : ℕ → ℕ → Type 0
Ranked n k = InKey k n → slot k n ≡ low k + rank (bases_of k) (digits_of k n)

slot-rank : (k n : ℕ) → InKey k n → slot k n ≡ low k + rank (bases_of k) (digits_of k n)
unfolding Ranked Spans shape_of shape row_of table slot low digits_of bases_of digits bases rank product
slot-rank k n p =
    at-kind (Ranked n) k n p
    (λ q. omega (arith, q.spans)) (λ q. omega (arith, q.spans)) (λ q. omega (arith, q.spans)) (λ q. omega (arith, q.spans))
    (λ q. omega (arith, q.spans)) (λ q. omega (arith, q.spans)) (λ q. omega (arith, q.spans)) (λ q. omega (arith, q.spans))
    (λ q. omega (arith, q.spans)) (λ q. omega (arith, q.spans)) (λ q. omega (arith, q.spans)) (λ q. omega (arith, q.spans))
    p

end_test : ℕ → Bool
end_test k = eqb (low k + product (bases_of k)) (high k + 1)

its-end : (k : ℕ) → k < kinds → low k + product (bases_of k) ≡ high k + 1
unfolding end_test
its-end k h = eqb-true _ _ (below_at kinds end_test (unfold end_test low high bases_of bases product shape_of shape row_of table all_below in refl) k h)

pub limits : (k n : ℕ) → InKey k n → (low k ≤ slot k n) × (slot k n ≤ high k)
limits k n p = (omega (arith, slot-rank k n p), omega (arith, slot-rank k n p, rank_lt (under_of k n p), its-end k p.low))

all-le : (l : List ℕ) (m : ℕ) → every_of (λ x. leb x m) l ≡ true → leb 0 m ≡ true → (k : ℕ) → get_or l k 0 ≤ m
all-le l m e z k = leb-true (get_or l k 0) m (every_of-at (λ x. leb x m) l 0 z e k)

pub slot_lt : (k n : ℕ) → InKey k n → slot k n < wide
unfolding high
slot_lt k n p = omega (arith, (limits k n p).1, high_le k)
  where
    high_le : (k : ℕ) → high k ≤ 6510
    high_le k = unfold high every_of in all-le highs 6510 refl refl k

same_key : (k n m : ℕ) → InKey k n → InKey k m → slot k n ≡ slot k m → n ≡ m
unfolding digits_of
same_key k n m p q e =
    let z : rank (bases_of k) (digits_of k n) ≡ rank (bases_of k) (digits_of k m) = omega (arith, e, slot-rank k n p, slot-rank k m q) in
    same_digits (none (shape_of k) 1) (none (shape_of k) 2) (none (shape_of k) 3) (shape_of k) n m p.spans q.spans
    (rank_same (under_of k n p) (under_of k m q) z)

-- the slots of two kinds lie apart, before or behind each other
apart_test : ℕ → ℕ → Bool
apart_test k j = eqb k 0 || eqb j 0 || eqb k j || ltb (high k) (low j) || ltb (high j) (low k)

apart : (k j : ℕ) → 1 ≤ k → 1 ≤ j → k < kinds → j < kinds → eqb k j ≡ false → ltb (high k) (low j) || ltb (high j) (low k) ≡ true
unfolding apart_test high low all_below
apart k j a b c d e =
    let t : eqb k 0 || eqb j 0 || eqb k j || ltb (high k) (low j) || ltb (high j) (low k) ≡ true =
    below_at kinds (λ x. apart_test x j) (below_at kinds (λ y. all_below kinds (λ x. apart_test x y)) refl j d) k c in
    rw (ne_eqb k 0 (λ z. omega (arith, z)), ne_eqb j 0 (λ z. omega (arith, z)), e) at t

-- the kinds that every station may have, HR and AO
abbrev pub early : ℕ → Bool
early k = ltb k CH || eqb k TH || eqb k AO

short_test : ℕ → Bool
short_test k = not (early k) || ltb (high k) short

-- of each of these
pub slot-short : (k n : ℕ) → InKey k n → early k ≡ true → slot k n < short
unfolding short_test
slot-short k n p h =
    let t : not (early k) || ltb (high k) short ≡ true = below_at kinds short_test (unfold short_test high all_below in refl) k p.low in
    omega (arith, (limits k n p).1, ltb-true (high k) short (rw h at t))

narrow_test : ℕ → Bool
narrow_test k = eqb k FP || ltb (high k) narrow

-- of every mark but FP
pub slot-narrow : (k n : ℕ) → InKey k n → eqb k FP ≡ false → slot k n < narrow
unfolding narrow_test
slot-narrow k n p h =
    let t : eqb k FP || ltb (high k) narrow ≡ true = below_at kinds narrow_test (unfold narrow_test high all_below in refl) k p.low in
    omega (arith, (limits k n p).1, ltb-true (high k) narrow (rw h at t))

pub slot_apart : (k n j m : ℕ) → InKey k n → InKey j m → slot k n ≡ slot j m → (k ≡ j) × (n ≡ m)
slot_apart k n j m p q e = go (eqb k j) refl
  where
    sides : (a b : Bool) → ltb (high k) (low j) ≡ a → ltb (high j) (low k) ≡ b → a || b ≡ true → ⊥
    sides true b x y w = omega (arith, e, limits k n p, limits j m q, ltb-true (high k) (low j) x)
    sides false true x y w = omega (arith, e, limits k n p, limits j m q, ltb-true (high j) (low k) y)
    sides false false x y w = false≢true w

    go : (a : Bool) → eqb k j ≡ a → (k ≡ j) × (n ≡ m)
    go true x =
        let w : k ≡ j = eqb-true k j x in
        (w, same_key k n m p (subst (λ (i : ℕ). InKey i m) (sym w) q) (e ∙ ap (λ (i : ℕ). slot i m) (sym w)))
    go false x = absurd (sides _ _ refl refl (apart k j p.known q.known p.low q.low x))

-- the slot of a cost that joins a level, by the fields of its key
pub adder-slot : (p c v : ℕ) → c < 256 → v < 256 → 1 + p * 20 + c * 4 + v ≡ slot AD (p * 65536 + c * 256 + v)
unfolding slot
adder-slot p c v a b =
    let n : ℕ = p * 65536 + c * 256 + v in
    let x : n / 65536 ≡ p = omega arith in
    let y : n / 256 % 256 ≡ c = omega arith in
    let z : n % 256 ≡ v = omega arith in
    rw (x, y, z) refl

-- and of one of an owner
pub owner-slot : (o p c v : ℕ) → p < 256 → c < 256 → v < 256 → 229 + o * 80 + p * 20 + c * 4 + v ≡ slot AO (o * 16777216 + p * 65536 + c * 256 + v)
unfolding slot
owner-slot o p c v a b d =
    let n : ℕ = o * 16777216 + p * 65536 + c * 256 + v in
    let w : n / 16777216 ≡ o = omega arith in
    let x : n / 65536 % 256 ≡ p = omega arith in
    let y : n / 256 % 256 ≡ c = omega arith in
    let z : n % 256 ≡ v = omega arith in
    rw (w, x, y, z) refl

-- a slot of an empty range is empty
pub in-empty : (ix : List ℕ) (a n j : ℕ) → slots_empty ix a n ≡ true → a ≤ j → j < a + n → eqb (get_or ix j 0) 0 ≡ true
unfolding slots_empty
in-empty ix a n j e p q =
    let k : a + (j - a) ≡ j = omega arith in
    rw k at (below_at n (λ i. eqb (get_or ix (a + i) 0) 0) e (j - a) (omega arith))
