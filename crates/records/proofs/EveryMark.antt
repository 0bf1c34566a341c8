-- Laws of the marks: each is one of the table's, has its row's letters and length, and has a key unless it is RS or LC.
use mathlib.Core.Path.{◌≡◌, refl, sym, ◌∙◌}
use mathlib.Core.Bool.{Bool, true, false, cond, ◌&&◌, false≢true}
use mathlib.Core.List.{List, [], ◌∷◌}
use Prim.Native.Nat.{ℕ, zero, suc, ◌+◌, ◌-◌, ◌≤◌, ◌<◌}
use native.Mathlib.Omega.{arith}
use lib.Dec.{eqb, lit≤, lit<}
use lib.ListN.{length, get_or}
use borrow.Author.Tests.{eqb-true, eqb-false}
use Rattle.lists.proofs.Tests.{split, cond-holds, and_right}
use Rattle.records.specs.Table.{Row, no_row, table, row_of, marks, kinds, RS, HP, FU, AD, MM, RQ, HR, CH, TH, FP, LC, AO, FV, AV, MV}
use Rattle.records.specs.Record.{mark_in, mark, is_dated, kind_of, fields_at, widths, size, key_in, key_width}
use Rattle.records.specs.MarkShapes.{shortest, rare, begins}

-- ---- one of the table's

in-lt : (k : ℕ) (l : List Row) (a b : ℕ) → 0 < k → mark_in k l a b < k + length l
unfolding mark_in
in-lt k [] a b h = omega arith
in-lt k (x ∷ l) a b h =
    cond-holds (λ m. m < k + suc (length l)) (eqb a x.first && eqb b x.second) k (mark_in (suc k) l a b) (omega arith)
    (omega (arith, in-lt (suc k) l a b (omega arith)))

pub mark-lt : (s : List ℕ) → mark s < marks
unfolding mark table
mark-lt s = in-lt 1 table (get_or s 0 0) (get_or s 1 0) (lit< tt)

pub by-mark : (P : ℕ → Type 0) → P RS → P HP → P FU → P AD → P MM → P RQ → P HR → P CH → P TH → P FP → P LC → P AO → P FV → P AV → P MV
    → (k : ℕ) → (k ≡ 0 → ⊥) → k < marks → P k
by-mark P a b c d e f g h i j m n o q v zero z l = absurd (z refl)
by-mark P a b c d e f g h i j m n o q v (suc zero) z l = a
by-mark P a b c d e f g h i j m n o q v (suc (suc zero)) z l = b
by-mark P a b c d e f g h i j m n o q v (suc (suc (suc zero))) z l = c
by-mark P a b c d e f g h i j m n o q v (suc (suc (suc (suc zero)))) z l = d
by-mark P a b c d e f g h i j m n o q v (suc (suc (suc (suc (suc zero))))) z l = e
by-mark P a b c d e f g h i j m n o q v (suc (suc (suc (suc (suc (suc zero)))))) z l = f
by-mark P a b c d e f g h i j m n o q v (suc (suc (suc (suc (suc (suc (suc zero))))))) z l = g
by-mark P a b c d e f g h i j m n o q v (suc (suc (suc (suc (suc (suc (suc (suc zero)))))))) z l = h
by-mark P a b c d e f g h i j m n o q v (suc (suc (suc (suc (suc (suc (suc (suc (suc zero))))))))) z l = i
by-mark P a b c d e f g h i j m n o q v (suc (suc (suc (suc (suc (suc (suc (suc (suc (suc zero)))))))))) z l = j
by-mark P a b c d e f g h i j m n o q v (suc (suc (suc (suc (suc (suc (suc (suc (suc (suc (suc zero))))))))))) z l = m
by-mark P a b c d e f g h i j m n o q v (suc (suc (suc (suc (suc (suc (suc (suc (suc (suc (suc (suc zero)))))))))))) z l = n
by-mark P a b c d e f g h i j m n o q v (suc (suc (suc (suc (suc (suc (suc (suc (suc (suc (suc (suc (suc zero))))))))))))) z l = o
by-mark P a b c d e f g h i j m n o q v (suc (suc (suc (suc (suc (suc (suc (suc (suc (suc (suc (suc (suc (suc zero)))))))))))))) z l = q
by-mark P a b c d e f g h i j m n o q v (suc (suc (suc (suc (suc (suc (suc (suc (suc (suc (suc (suc (suc (suc (suc zero))))))))))))))) z l = v
by-mark P a b c d e f g h i j m n o q v (suc (suc (suc (suc (suc (suc (suc (suc (suc (suc (suc (suc (suc (suc (suc (suc k)))))))))))))))) z l =
    absurd (omega arith)

pub size-least : (k : ℕ) → (k ≡ 0 → ⊥) → k < marks → shortest ≤ size k
unfolding size fields_at widths row_of table
size-least = by-mark (λ k. shortest ≤ size k) (lit≤ tt) (lit≤ tt) (lit≤ tt) (lit≤ tt) (lit≤ tt) (lit≤ tt) (lit≤ tt) (lit≤ tt) (lit≤ tt) (lit≤ tt) (lit≤ tt)
    (lit≤ tt) (lit≤ tt) (lit≤ tt) (lit≤ tt)

pub size-most : (k : ℕ) → (k ≡ 0 → ⊥) → k < marks → size k ≤ 31
unfolding size fields_at widths row_of table
size-most = by-mark (λ k. size k ≤ 31) (lit≤ tt) (lit≤ tt) (lit≤ tt) (lit≤ tt) (lit≤ tt) (lit≤ tt) (lit≤ tt) (lit≤ tt) (lit≤ tt) (lit≤ tt) (lit≤ tt) (lit≤
    tt) (lit≤ tt) (lit≤ tt) (lit≤ tt)

-- ---- its first hour

-- the marks with one are FV, AV and MV
pub undated : (k : ℕ) → k < marks → (k ≡ FV → ⊥) → (k ≡ AV → ⊥) → (k ≡ MV → ⊥) → is_dated k ≡ false
unfolding is_dated row_of table
undated k l a b c =
    split (eqb k 0)
    (λ z. rw (eqb-true k 0 z) refl)
    (λ z. by-mark (λ j. k ≡ j → is_dated j ≡ false) (λ w. refl) (λ w. refl) (λ w. refl) (λ w. refl) (λ w. refl) (λ w. refl) (λ w. refl) (λ w. refl)
    (λ w. refl) (λ w. refl) (λ w. refl) (λ w. refl) (λ w. absurd (a w)) (λ w. absurd (b w)) (λ w. absurd (c w)) k (eqb-false k 0 z) l refl)

pub undated-none : (k : ℕ) → k < marks → (k ≡ FV → ⊥) → (k ≡ AV → ⊥) → (k ≡ MV → ⊥) → cond (is_dated k) k 0 ≡ 0
undated-none k l a b c = rw (undated k l a b c) refl

-- one that is none of the others has one, or is none
pub dated-or-none : (k : ℕ) → k < marks → (k ≡ RS → ⊥) → (k ≡ HP → ⊥) → (k ≡ FU → ⊥) → (k ≡ AD → ⊥) → (k ≡ MM → ⊥) → (k ≡ RQ → ⊥) → (k ≡ HR → ⊥)
    → (k ≡ CH → ⊥) → (k ≡ TH → ⊥) → (k ≡ FP → ⊥) → (k ≡ LC → ⊥) → (k ≡ AO → ⊥) → cond (is_dated k) k 0 ≡ k
unfolding is_dated row_of table
dated-or-none k l a b c d e f g h i j m o =
    split (eqb k 0)
    (λ z. rw (eqb-true k 0 z) refl)
    (λ z. by-mark (λ n. k ≡ n → cond (is_dated n) n 0 ≡ n) (λ w. absurd (a w)) (λ w. absurd (b w)) (λ w. absurd (c w)) (λ w. absurd (d w)) (λ w. absurd (e w))
    (λ w. absurd (f w)) (λ w. absurd (g w)) (λ w. absurd (h w)) (λ w. absurd (i w)) (λ w. absurd (j w)) (λ w. absurd (m w)) (λ w. absurd (o w))
    (λ w. refl) (λ w. refl)
    (λ w. refl) k (eqb-false k 0 z) l refl)

-- ---- its kind

pub kind-lt : (k : ℕ) → k < marks → kind_of k < kinds
unfolding kind_of is_dated row_of table
kind-lt k l =
    split (eqb k 0)
    (λ z. rw (eqb-true k 0 z) (lit< tt))
    (λ z. by-mark (λ j. kind_of j < kinds) (lit< tt) (lit< tt) (lit< tt) (lit< tt) (lit< tt) (lit< tt) (lit< tt) (lit< tt) (lit< tt) (lit< tt) (lit< tt)
    (lit< tt)
    (lit< tt) (lit< tt) (lit< tt) k (eqb-false k 0 z) l)

pub kind-known : (k : ℕ) → (k ≡ 0 → ⊥) → k < marks → 1 ≤ kind_of k
unfolding kind_of is_dated row_of table
kind-known =
    by-mark (λ k. 1 ≤ kind_of k) (lit≤ tt) (lit≤ tt) (lit≤ tt) (lit≤ tt) (lit≤ tt) (lit≤ tt) (lit≤ tt) (lit≤ tt) (lit≤ tt) (lit≤ tt) (lit≤ tt) (lit≤ tt)
    (lit≤ tt) (lit≤ tt) (lit≤ tt)

-- what holds of every mark without a first hour holds of every kind
pub by_kind : (P : ℕ → Type 0) → P RS → P HP → P FU → P AD → P MM → P RQ → P HR → P CH → P TH → P FP → P LC → P AO → (k : ℕ) → (k ≡ 0 → ⊥) → k < kinds → P k
by_kind P a b c d e f g h i j m n k z l =
    by-mark (λ x. k ≡ x → P x) (λ w. a) (λ w. b) (λ w. c) (λ w. d) (λ w. e) (λ w. f) (λ w. g) (λ w. h) (λ w. i) (λ w. j) (λ w. m) (λ w. n)
    (λ w. absurd (omega (arith, w))) (λ w. absurd (omega (arith, w))) (λ w. absurd (omega (arith, w))) k z (omega arith) refl

-- a kind is its own
pub kind-self : (k : ℕ) → k < kinds → kind_of k ≡ k
unfolding kind_of is_dated row_of table
kind-self k l =
    split (eqb k 0)
    (λ z. rw (eqb-true k 0 z) refl)
    (λ z. by_kind (λ j. kind_of j ≡ j) refl refl refl refl refl refl refl refl refl refl refl refl k (eqb-false k 0 z) l)

-- ---- its letters

in_letters : (k : ℕ) (l : List Row) (a b m : ℕ) → mark_in k l a b ≡ m → (m ≡ 0 → ⊥) → (k ≤ m)
    × (eqb a (get_or l (m - k) no_row).first && eqb b (get_or l (m - k) no_row).second ≡ true)
unfolding mark_in
in_letters k [] a b m e z = absurd (z (sym e))
in_letters k (x ∷ l) a b m e z = go (eqb a x.first && eqb b x.second) refl e (λ f. in_letters (suc k) l a b m f z)
  where
    go : (t : Bool) → eqb a x.first && eqb b x.second ≡ t → cond t k (mark_in (suc k) l a b) ≡ m
        → (mark_in (suc k) l a b ≡ m → (suc k ≤ m) × (eqb a (get_or l (m - suc k) no_row).first && eqb b (get_or l (m - suc k) no_row).second ≡ true))
        → (k ≤ m) × (eqb a (get_or (x ∷ l) (m - k) no_row).first && eqb b (get_or (x ∷ l) (m - k) no_row).second ≡ true)
    go true h f rest =
        let w : m - k ≡ 0 = omega (arith, f) in
        (omega (arith, f), rw w h)
    go false h f rest =
        let r = rest f in
        let w : m - k ≡ suc (m - suc k) = omega (arith, r.0) in
        (omega (arith, r.0), rw w r.1)

-- a record without the letters of mark k is not of mark k
pub not-mark : (k : ℕ) (s : List ℕ) → eqb k 0 ≡ false → begins s (row_of k).first (row_of k).second ≡ false → mark s ≡ k → ⊥
unfolding mark row_of
not-mark zero s z h e = false≢true (sym z)
not-mark (suc k) s z h e =
    let w : suc k - 1 ≡ k = omega arith in
    false≢true (sym h ∙ (rw w at (in_letters 1 table (get_or s 0 0) (get_or s 1 0) (suc k) e (eqb-false (suc k) 0 z)).1))

-- the letters of a known mark
pub its-letters : (s : List ℕ) → (mark s ≡ 0 → ⊥) → begins s (row_of (mark s)).first (row_of (mark s)).second ≡ true
unfolding mark row_of
its-letters s z = go (mark s) refl z
  where
    go : (k : ℕ) → mark s ≡ k → (k ≡ 0 → ⊥) → begins s (get_or (no_row ∷ table) k no_row).first (get_or (no_row ∷ table) k no_row).second ≡ true
    go zero e n = absurd (n refl)
    go (suc k) e n =
        let w : suc k - 1 ≡ k = omega arith in
        rw w at (in_letters 1 table (get_or s 0 0) (get_or s 1 0) (suc k) e n).1

row-letter : (k : ℕ) → (k ≡ 0 → ⊥) → k < marks → is_dated k ≡ eqb (row_of k).second 86
unfolding is_dated row_of table
row-letter =
    by-mark (λ k. is_dated k ≡ eqb (row_of k).second 86) refl refl refl refl refl refl refl refl refl refl refl refl refl refl refl

-- a known mark has a first hour exactly if its second letter is V
pub dated-letter : (s : List ℕ) → (mark s ≡ 0 → ⊥) → is_dated (mark s) ≡ eqb (get_or s 1 0) 86
dated-letter s z =
    let e : get_or s 1 0 ≡ (row_of (mark s)).second = eqb-true (get_or s 1 0) (row_of (mark s)).second
    (and_right (eqb (get_or s 0 0) (row_of (mark s)).first) (eqb (get_or s 1 0) (row_of (mark s)).second) (its-letters s z)) in
    rw e (row-letter (mark s) z (mark-lt s))

-- ---- those that few records have

-- a mark that is none of the others
pub is-rare : (k : ℕ) → k < marks → (k ≡ HP → ⊥) → (k ≡ FU → ⊥) → (k ≡ AD → ⊥) → (k ≡ MM → ⊥) → (k ≡ RQ → ⊥) → (k ≡ HR → ⊥) → (k ≡ CH → ⊥)
    → (k ≡ TH → ⊥) → (k ≡ FP → ⊥) → rare k ≡ true
unfolding rare is_dated key_width key_in row_of table
is-rare k l a b c d e f g h i =
    split (eqb k 0)
    (λ z. rw (eqb-true k 0 z) refl)
    (λ z. by-mark (λ j. k ≡ j → rare j ≡ true) (λ w. refl) (λ w. absurd (a w)) (λ w. absurd (b w)) (λ w. absurd (c w)) (λ w. absurd (d w))
    (λ w. absurd (e w)) (λ w. absurd (f w)) (λ w. absurd (g w)) (λ w. absurd (h w)) (λ w. absurd (i w))
    (λ w. refl) (λ w. refl) (λ w. refl) (λ w. refl) (λ w. refl)
    k (eqb-false k 0 z) l refl)

-- and one of them that is none of the six that there are is none at all
pub rare-none : (k : ℕ) → k < marks → rare k ≡ true → (k ≡ RS → ⊥) → (k ≡ LC → ⊥) → (k ≡ AO → ⊥) → (k ≡ FV → ⊥) → (k ≡ AV → ⊥) → (k ≡ MV → ⊥) → k ≡ 0
unfolding rare is_dated key_width key_in row_of table
rare-none k l w a b o c d e =
    split (eqb k 0)
    (λ z. eqb-true k 0 z)
    (λ z. absurd (by-mark (λ j. k ≡ j → rare j ≡ true → ⊥) (λ i x. a i) (λ i x. false≢true x) (λ i x. false≢true x) (λ i x. false≢true x)
    (λ i x. false≢true x) (λ i x. false≢true x) (λ i x. false≢true x) (λ i x. false≢true x) (λ i x. false≢true x) (λ i x. false≢true x) (λ i x. b i)
    (λ i x. o i)
    (λ i x. c i) (λ i x. d i) (λ i x. e i) k (eqb-false k 0 z) l refl w))

-- the same of a record's letters
pub letters-rare : (s : List ℕ) → begins s 72 80 ≡ false → begins s 70 85 ≡ false → begins s 65 68 ≡ false → begins s 77 77 ≡ false
    → begins s 82 81 ≡ false → begins s 72 82 ≡ false → begins s 67 72 ≡ false → begins s 84 72 ≡ false → begins s 70 80 ≡ false → rare (mark s) ≡ true
unfolding row_of table
letters-rare s a b c d e f g h i =
    is-rare (mark s) (mark-lt s) (not-mark HP s refl a) (not-mark FU s refl b) (not-mark AD s refl c) (not-mark MM s refl d) (not-mark RQ s refl e)
    (not-mark HR s refl f) (not-mark CH s refl g) (not-mark TH s refl h) (not-mark FP s refl i)

pub letters-none : (s : List ℕ) → rare (mark s) ≡ true → begins s 82 83 ≡ false → begins s 76 67 ≡ false → begins s 65 79 ≡ false
    → begins s 70 86 ≡ false → begins s 65 86 ≡ false
    → begins s 77 86 ≡ false → mark s ≡ 0
unfolding row_of table
letters-none s w a b o c d e =
    rare-none (mark s) (mark-lt s) w (not-mark RS s refl a) (not-mark LC s refl b) (not-mark AO s refl o) (not-mark FV s refl c) (not-mark AV s refl d) (not-mark MV s refl e)
