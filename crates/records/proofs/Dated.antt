-- Laws of marks with a first hour: such a mark has the fields of the mark that it is with a first hour, four bytes further on.
use mathlib.Core.Path.{◌≡◌, refl, ap, sym, ◌∙◌}
use mathlib.Core.Bool.{Bool, true, false, cond, ◌||◌, not, true≢false}
use mathlib.Core.List.{List, [], ◌∷◌}
use Prim.Native.Nat.{ℕ, zero, suc, ◌+◌}
use native.Mathlib.Nat.{add_assoc}
use native.Mathlib.Omega.{arith}
use lib.Dec.{ltb}
use lib.ListN.{length, get_or, drop, length-drop}
use borrow.Author.Tests.{not-true}
use Rattle.lists.specs.Tests.{every_of, among}
use Rattle.lists.proofs.Tests.{every_of-at}
use Rattle.fields.specs.Numbers.{number}
use Rattle.fields.proofs.Numbers.{number-nil, number-drop}
use Rattle.records.specs.Table.{Field, Row, table, no_row, row_of, field_of}
use Rattle.records.specs.Record.{mark, is_dated, kind_of, kind, datable, since, fields_at, widths, size, offset_in, offset, read, value, told}
use Rattle.records.specs.MarkShapes.{body}
use Rattle.records.proofs.Record.{mark-nil}

pub dated-at : (k : ℕ) → is_dated k ≡ true → fields_at k ≡ 10
unfolding is_dated fields_at
dated-at k e = rw e refl

pub undated-at : (k : ℕ) → is_dated k ≡ false → fields_at k ≡ 6
unfolding is_dated fields_at
undated-at k e = rw e refl

-- ---- the fields are those of the kind

pub kind-fields : (m : ℕ) → (row_of m).fields ≡ (row_of (kind_of m)).fields
unfolding kind_of is_dated row_of table
kind-fields zero = refl
kind-fields (suc zero) = refl
kind-fields (suc (suc zero)) = refl
kind-fields (suc (suc (suc zero))) = refl
kind-fields (suc (suc (suc (suc zero)))) = refl
kind-fields (suc (suc (suc (suc (suc zero))))) = refl
kind-fields (suc (suc (suc (suc (suc (suc zero)))))) = refl
kind-fields (suc (suc (suc (suc (suc (suc (suc zero))))))) = refl
kind-fields (suc (suc (suc (suc (suc (suc (suc (suc zero)))))))) = refl
kind-fields (suc (suc (suc (suc (suc (suc (suc (suc (suc zero))))))))) = refl
kind-fields (suc (suc (suc (suc (suc (suc (suc (suc (suc (suc zero)))))))))) = refl
kind-fields (suc (suc (suc (suc (suc (suc (suc (suc (suc (suc (suc zero))))))))))) = refl
kind-fields (suc (suc (suc (suc (suc (suc (suc (suc (suc (suc (suc (suc zero)))))))))))) = refl
kind-fields (suc (suc (suc (suc (suc (suc (suc (suc (suc (suc (suc (suc (suc zero))))))))))))) = refl
kind-fields (suc (suc (suc (suc (suc (suc (suc (suc (suc (suc (suc (suc (suc (suc zero)))))))))))))) = refl
kind-fields (suc (suc (suc (suc (suc (suc (suc (suc (suc (suc (suc (suc (suc (suc (suc zero))))))))))))))) = refl
kind-fields (suc (suc (suc (suc (suc (suc (suc (suc (suc (suc (suc (suc (suc (suc (suc (suc k)))))))))))))))) = refl

pub kind-field : (m k i : ℕ) → kind_of m ≡ k → field_of m i ≡ field_of k i
unfolding field_of
kind-field m k i e = rw (kind-fields m, e) refl

-- what a record tells is what its own mark reads
pub told-value : (k i : ℕ) (r : List ℕ) → kind r ≡ k → told k i r ≡ value (mark r) i r
unfolding told value kind
told-value k i r e = ap (λ (f : Field). read f (offset (mark r) i) r) (sym (kind-field (mark r) k i e))

-- of no record
pub told-nil : (k i : ℕ) → told k i [] ≡ value k i []
unfolding told value read
told-nil k i = rw (number-nil (offset (mark []) i) (field_of k i).width, number-nil (offset k i) (field_of k i).width) refl

-- ---- which kinds have marks with a first hour

-- such a mark's kind is one
dated-kind : (m : ℕ) → not (is_dated m) || datable (kind_of m) ≡ true
unfolding is_dated kind_of row_of
dated-kind m =
    every_of-at (λ x. not (ltb 0 x.dates) || datable (cond (ltb 0 x.dates) x.dates m)) (no_row ∷ table) no_row refl (unfold datable among every_of
    table in refl) m

-- a record of any other kind counts from hour 0
pub since-zero : (r : List ℕ) → datable (kind r) ≡ false → since r ≡ 0
unfolding since kind
since-zero r h = go (is_dated (mark r)) refl (dated-kind (mark r))
  where
    go : (b : Bool) → is_dated (mark r) ≡ b → not b || datable (kind_of (mark r)) ≡ true → cond b (number 6 4 r) 0 ≡ 0
    go true e w = absurd (true≢false (sym w ∙ h))
    go false e w = refl

-- and has no first hour
pub other-mark : (r : List ℕ) {k : ℕ} → datable k ≡ false → kind r ≡ k → mark r ≡ k
unfolding kind kind_of
other-mark r {k} h e = go (is_dated (mark r)) refl (dated-kind (mark r)) e
  where
    go : (b : Bool) → is_dated (mark r) ≡ b → not b || datable (kind_of (mark r)) ≡ true → cond b (row_of (mark r)).dates (mark r) ≡ k → mark r ≡ k
    go true w u z = absurd (true≢false (sym u ∙ ap datable e ∙ h))
    go false w u z = z

-- ---- where code reads the fields

shifted : (n o : ℕ) (l : List Field) (i : ℕ) → offset_in (n + o) l i ≡ n + offset_in o l i
unfolding offset_in
shifted n o [] i = refl
shifted n o (f ∷ l) zero = refl
shifted n o (f ∷ l) (suc i) = rw (add_assoc n o f.width) (shifted n (o + f.width) l i)

-- a kind has no first hour
kind-undated : (m : ℕ) → is_dated (kind_of m) ≡ false
unfolding is_dated kind_of row_of
kind-undated m = go (ltb 0 (get_or (no_row ∷ table) m no_row).dates) refl
  where
    test : Row → Bool
    test x = not (ltb 0 (get_or (no_row ∷ table) x.dates no_row).dates)

    go : (b : Bool) → ltb 0 (get_or (no_row ∷ table) m no_row).dates ≡ b → ltb 0 (get_or (no_row ∷ table) (cond b (get_or (no_row ∷ table) m no_row).dates m) no_row
        ).dates ≡ false
    go true e = not-true _ (every_of-at test (no_row ∷ table) no_row (unfold table in refl) (unfold table every_of in refl) m)
    go false e = e

-- what a record tells, read in its body
pub told-body : (k i : ℕ) (r : List ℕ) → kind r ≡ k → told k i r ≡ value k i (body r)
unfolding told value read body offset kind kind_of
told-body k i r e = go (is_dated (mark r)) refl e
  where
    go : (b : Bool) → is_dated (mark r) ≡ b → cond b (row_of (mark r)).dates (mark r) ≡ k
        → read (field_of k i) (offset (mark r) i) r ≡ read (field_of k i) (offset k i) (cond b (drop 4 r) r)
    go true w z =
        let at : offset (mark r) i ≡ 4 + offset k i =
        rw (dated-at (mark r) w, kind-fields (mark r), e, undated-at k (ap is_dated (sym e) ∙ kind-undated (mark r))) (shifted 4 6 (row_of k).fields i) in
        rw (at, number-drop 4 (offset k i) (field_of k i).width r) refl
    go false w z = rw z refl

-- a whole record's body is as long as the records of its kind
pub body-length : (r : List ℕ) → length r ≡ size (mark r) → length (body r) ≡ size (kind r)
unfolding body size kind kind_of
body-length r e = go (is_dated (mark r)) refl
  where
    go : (b : Bool) → is_dated (mark r) ≡ b → length (cond b (drop 4 r) r) ≡ fields_at (cond b (row_of (mark r)).dates (mark r)) + widths (row_of (cond b
        (row_of (mark r)).dates (mark r))).fields
    go true w =
        let k : kind_of (mark r) ≡ (row_of (mark r)).dates = rw w refl in
        let at : fields_at (row_of (mark r)).dates ≡ 6 = undated-at (row_of (mark r)).dates (ap is_dated (sym k) ∙ kind-undated (mark r)) in
        let same : (row_of (mark r)).fields ≡ (row_of (row_of (mark r)).dates).fields = kind-fields (mark r) ∙ ap (λ (m : ℕ). (row_of m).fields) k in
        rw (at, ← same) (omega (arith, length-drop 4 r, e, dated-at (mark r) w))
    go false w = e

pub body-nil : body [] ≡ []
unfolding body is_dated row_of table
body-nil = rw mark-nil refl

-- without a first hour the body is the record, and with one what lies behind it
pub body-dated : (r : List ℕ) → is_dated (mark r) ≡ true → body r ≡ drop 4 r
unfolding body
body-dated r e = rw e refl

pub body-plain : (r : List ℕ) → is_dated (mark r) ≡ false → body r ≡ r
unfolding body
body-plain r e = rw e refl

-- without one the kind is the mark
pub plain-mark : (r : List ℕ) → is_dated (mark r) ≡ false → mark r ≡ kind r
unfolding kind kind_of
plain-mark r e = rw e refl

-- and an unknown mark's is none
pub none-kind : (r : List ℕ) → mark r ≡ 0 → kind r ≡ 0
unfolding kind kind_of is_dated row_of table
none-kind r e = rw e refl
