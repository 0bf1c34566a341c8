-- What an index becomes with one record, as code finds out by its mark.
use mathlib.Core.Path.{◌≡◌, refl, sym, subst, ◌∙◌}
use mathlib.Core.Bool.{true, false, cond, true≢false}
use mathlib.Core.List.{List}
use Prim.Native.Nat.{ℕ, ◌≤◌, ◌<◌}
use native.Mathlib.Omega.{arith}
use lib.Dec.{leb, eqb}
use lib.ListN.{length}
use borrow.Author.Tests.{eqb-true, eqb-false, le-leb}
use Rattle.lists.proofs.Tests.{split}
use Rattle.fields.specs.Numbers.{number}
use Rattle.records.specs.declared.marks.Mark.{Mark}
use Rattle.records.specs.Table.{table, row_of, FV, AV, MV}
use Rattle.records.specs.Marks.{row}
use Rattle.records.specs.Record.{mark, is_dated, kind_of, datable, since}
use Rattle.records.specs.MarkShapes.{begins}
use Rattle.records.proofs.EveryMark.{mark-lt, undated, not-mark}
use Rattle.hours.specs.Filling.{dated_slot, put_at, hour_at}
use Rattle.hours.proofs.Marks.{not-datable}

-- a mark with a first hour that is neither AV nor MV is FV
pub is-fv : (s : List ℕ) → is_dated (mark s) ≡ true → begins s 65 86 ≡ false → begins s 77 86 ≡ false → mark s ≡ FV
unfolding row_of table
is-fv s e a m =
    split (eqb (mark s) FV)
    (λ t. eqb-true (mark s) FV t)
    (λ f. absurd (true≢false (sym e ∙ undated (mark s) (mark-lt s) (eqb-false (mark s) FV f) (not-mark AV s refl a) (not-mark MV s refl m))))

-- the kind of a mark without one is the mark
own-kind : (m : ℕ) → is_dated m ≡ false → kind_of m ≡ m
unfolding kind_of
own-kind m e = rw e refl

-- its slot is in an index where the slot of the mark that a rest begins with is
pub in-index : (s ix : List ℕ) {m : ℕ} → mark s ≡ m → dated_slot (mark s) s < length ix → dated_slot m s < length ix
in-index s ix e h = subst (λ (k : ℕ). dated_slot k s < length ix) e h

module _ (d ix : List ℕ) (p : ℕ) (s : List ℕ) {m : ℕ} (em : mark s ≡ m) where
  -- with a first hour
  pub dated-is : (h : ℕ) → is_dated m ≡ true → datable (kind_of m) ≡ true → {x : List ℕ}
      → x ≡ cond (leb (number 6 4 s) h) (put_at d ix p s (dated_slot m s)) ix → x ≡ hour_at h d ix p s
  unfolding hour_at since
  dated-is h a b e = e ∙ rw (em, a, b) refl

  -- without one it has always come
  pub undated-is : is_dated m ≡ false → datable (kind_of m) ≡ true → {x : List ℕ} → x ≡ put_at d ix p s (dated_slot m s) → (h : ℕ) → x ≡ hour_at h d ix p s
  unfolding hour_at since
  undated-is a b e h = e ∙ rw (em, a, b, le-leb 0 h (omega arith)) refl

  -- of any other kind it is passed over
  pub other-is : datable (kind_of m) ≡ false → (h : ℕ) → ix ≡ hour_at h d ix p s
  unfolding hour_at
  other-is e h = rw (em, e) refl

-- its kind then is the mark's own
pub other-kind : (s : List ℕ) {k : Mark} → row k ≡ mark s → is_dated (mark s) ≡ false → 1 ≤ mark s → (k ≡ Mark.FU → ⊥) → (k ≡ Mark.AD → ⊥)
    → (k ≡ Mark.MM → ⊥) → datable (kind_of (mark s)) ≡ false
other-kind s {k} e u p x y z = rw (own-kind (mark s) u, ← e) (not-datable k (rw e p) x y z)
