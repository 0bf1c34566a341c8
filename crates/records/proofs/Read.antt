-- The reader's laws: what the rest of a dossier draws is what its bytes say, read in place.
use mathlib.Core.Path.{◌≡◌, refl, ap, ap₂, sym, ◌∙◌}
use mathlib.Core.Bool.{Bool, true, false, cond, ◌&&◌}
use mathlib.Core.List.{List}
use Prim.Native.Nat.{ℕ, ◌+◌, ◌*◌, ◌≤◌, ◌<◌}
use native.Mathlib.Omega.{arith}
use lib.Dec.{ltb, eqb}
use lib.ListN.{length, get_or, take, length-take}
use lib.Seq.{get_or-take}
use borrow.Author.Tests.{lt-ltb, le-ltb, ltb-true, ltb-false, eqb-true, eqb-false, eq-eqb, ne_eqb}
use Rattle.lists.proofs.Tests.{and_left, and_right, split, below-same}
use Rattle.fields.specs.Numbers.{number}
use Rattle.fields.proofs.Numbers.{number_same}
use Rattle.records.specs.Table.{table, row_of, field_of}
use Rattle.records.specs.Record.{mark_in, mark, size, offset, read, value, in_range, ranges_hold, fault}
use Rattle.records.specs.Dossier.{first_of}
use Rattle.records.specs.Walk.{Record, Faulty, found}
use Rattle.records.proofs.Record.{mark-take, size-ge, within-record, agrees-alike}
use Rattle.records.specs.MarkShapes.{begins}

-- ---- a record cut from the rest says what the rest says

pub number-take : (n o w : ℕ) (s : List ℕ) → o + w ≤ n → number o w (take n s) ≡ number o w s
number-take n o w s h = number_same o w (take n s) s (λ i a b. get_or-take n s i 0 (omega arith))

pub value-take : (k i : ℕ) (s : List ℕ) → value k i (take (size k) s) ≡ value k i s
unfolding value read
value-take k i s = rw (number-take (size k) (offset k i) (field_of k i).width s (within-record k i)) refl

ranges-take : (k : ℕ) (s : List ℕ) → ranges_hold k (take (size k) s) ≡ ranges_hold k s
unfolding ranges_hold
ranges-take k s =
    ap₂ (λ (a b : Bool). a && b)
    (below-same (length (row_of k).fields) (λ i. in_range (field_of k i) (value k i (take (size k) s))) (λ i. in_range (field_of k i) (value k i s))
    (λ i. ap (in_range (field_of k i)) (value-take k i s)))
    (agrees-alike k (take (size k) s) s (λ j e. value-take k j s))

short : (n m : ℕ) (s : List ℕ) → m ≤ n → ltb (length (take n s)) m ≡ ltb (length s) m
short n m s h = go (ltb (length s) m) refl
  where
    go : (b : Bool) → ltb (length s) m ≡ b → ltb (length (take n s)) m ≡ b
    go true e = lt-ltb (length (take n s)) m (omega (arith, length-take n s, ltb-true (length s) m e))
    go false e = le-ltb (length (take n s)) m (omega (arith, length-take n s, ltb-false (length s) m e))

pub fault-first : (s : List ℕ) → fault (first_of s) ≡ cond (ltb (length s) 2) 2
    (cond (eqb (mark s) 0) 1 (cond (ltb (length s) (size (mark s))) 2 (cond (ranges_hold (mark s) s) 0 3)))
unfolding fault first_of
fault-first s =
    rw (
      mark-take (size (mark s)) s (omega (arith, size-ge (mark s))),
      short (size (mark s)) 2 s (omega (arith, size-ge (mark s))),
      short (size (mark s)) (size (mark s)) s (omega arith),
      ranges-take (mark s) s,
    ) refl

-- ---- what is found

shown : (s : List ℕ) → found s ≡ cond (eqb (cond (ltb (length s) 2) 2
    (cond (eqb (mark s) 0) 1 (cond (ltb (length s) (size (mark s))) 2 (cond (ranges_hold (mark s) s) 0 3)))) 0) (Record (mark s) (size (mark s)))
    (Faulty (cond (ltb (length s) 2) 2 (cond (eqb (mark s) 0) 1 (cond (ltb (length s) (size (mark s))) 2 (cond (ranges_hold (mark s) s) 0 3)))))
unfolding found
shown s = rw (fault-first s) refl

pub found-short : (s : List ℕ) → length s < 2 → Faulty 2 ≡ found s
found-short s h = sym (shown s ∙ rw (lt-ltb (length s) 2 h) refl)

pub found-unknown : (s : List ℕ) → 2 ≤ length s → mark s ≡ 0 → Faulty 1 ≡ found s
found-unknown s h e = sym (shown s ∙ rw (le-ltb (length s) 2 h, e) refl)

-- of a known mark: what its length and its ranges say
pub found-known : (k : ℕ) (s : List ℕ) → 2 ≤ length s → mark s ≡ k → eqb k 0 ≡ false
    → found s ≡ cond (ltb (length s) (size k)) (Faulty 2) (cond (ranges_hold k s) (Record k (size k)) (Faulty 3))
found-known k s h e z = shown s ∙ rw (le-ltb (length s) 2 h, e, z) (go (ltb (length s) (size k)) (ranges_hold k s))
  where
    go : (a b : Bool) → cond (eqb (cond a 2 (cond b 0 3)) 0) (Record k (size k)) (Faulty (cond a 2 (cond b 0 3))) ≡ cond a (Faulty 2)
        (cond b (Record k (size k)) (Faulty 3))
    go true b = refl
    go false true = refl
    go false false = refl

-- two letters tell the mark, so that marks may be tried in any order
pub begun : (a b : ℕ) (s : List ℕ) → begins s a b ≡ true → mark s ≡ mark_in 1 table a b
unfolding mark
begun a b s e =
    ap₂ (λ (x y : ℕ). mark_in 1 table x y)
    (eqb-true (get_or s 0 0) a (and_left (eqb (get_or s 0 0) a) (eqb (get_or s 1 0) b) e))
    (eqb-true (get_or s 1 0) b (and_right (eqb (get_or s 0 0) a) (eqb (get_or s 1 0) b) e))

-- two letters as one number are alike if each is
pub two-letters : (x y a b : ℕ) → x < 256 → a < 256 → eqb (x + y * 256) (a + b * 256) ≡ eqb x a && eqb y b
two-letters x y a b p q =
    split (eqb x a)
    (λ e. rw (e, eqb-true x a e) (alike (eqb y b) refl))
    (λ e. rw e (ne_eqb (x + y * 256) (a + b * 256) (λ z. eqb-false x a e (omega (arith, p, q, z)))))
  where
    alike : (t : Bool) → eqb y b ≡ t → eqb (a + y * 256) (a + b * 256) ≡ t
    alike true e = eq-eqb (a + y * 256) (a + b * 256) (rw (eqb-true y b e) refl)
    alike false e = ne_eqb (a + y * 256) (a + b * 256) (λ z. eqb-false y b e (omega (arith, z)))
