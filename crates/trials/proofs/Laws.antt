-- A record tried against the technology, by its mark.
use mathlib.Core.Path.{◌≡◌, refl, ap, ap₂, ◌∙◌}
use mathlib.Core.Bool.{Bool, true, false, cond}
use mathlib.Core.Logic.{◌⊎◌, inl, inr}
use mathlib.Core.List.{List}
use Prim.Native.Nat.{ℕ}
use lib.Dec.{eqb}
use lib.ListN.{length, take}
use borrow.Author.Tests.{eqb-true}
use Rattle.lists.proofs.Tests.{below-same}
use Rattle.records.specs.declared.marks.Mark.{Mark}
use Rattle.records.specs.declared.marks.Mark.TheVariants.{Unknown, RS, HP, FU, AD, MM, RQ, HR, CH, TH, FP, LC, AO, FV, AV, MV}
use Rattle.records.specs.Table.{table, row_of, field_of}
use Rattle.records.specs.Table
use Rattle.records.specs.Marks.{row}
use Rattle.records.specs.Record.{mark, is_dated, kind_of, size, value}
use Rattle.records.proofs.Read.{value-take}
use Rattle.rules.specs.Fit.{holds, field_fits, adder_fits, rule_fits, fits}
use Rattle.trials.specs.Trials.{tried, tried_as, valued, value_fits}

-- what fits is told by the mark
pub by-its : (t : ℕ) (s : List ℕ) {m k : Mark} {b x : Bool} → m ≡ k → b ≡ x → x ≡ fits t (row k) s → b ≡ fits t (row m) s
by-its t s q e f = rw (q, e) f

-- and of a record whose mark was read
pub of-mark : (t : ℕ) (s : List ℕ) {m n : ℕ} {b : Bool} → n ≡ size m → b ≡ fits t m s → m ≡ mark s → tried n b ≡ tried_as t (mark s) s
of-mark t s z e q = ap₂ tried z e ∙ ap (λ (k : ℕ). tried_as t k s) q

-- ---- a record cut from the rest fits as the rest does

rule-take : (t k : ℕ) (s : List ℕ) → rule_fits t k (take (size k) s) ≡ rule_fits t k s
unfolding rule_fits
rule-take t k s = rw (value-take k 1 s, value-take k 2 s) (go (eqb (kind_of k) Table.AD) (eqb k Table.AO) (eqb k Table.TH) refl refl)
  where
    -- a field of mark m, if the record is one
    same : (m i : ℕ) → eqb k m ≡ true → value m i (take (size k) s) ≡ value m i s
    same m i e = rw (eqb-true k m e) (value-take m i s)

    adder : Bool
    adder = adder_fits t (value k 1 s) (value k 2 s)

    owned : List ℕ → Bool
    owned r = adder_fits t (value Table.AO 2 r) (value Table.AO 3 r)

    level : List ℕ → Bool
    level r = holds t (value Table.TH 1 r)

    go : (a b c : Bool) → eqb k Table.AO ≡ b → eqb k Table.TH ≡ c → cond a adder (cond b (owned (take (size k) s)) (cond c (level (take (size k) s)) true))
        ≡ cond a adder (cond b (owned s) (cond c (level s) true))
    go true b c e f = refl
    go false true c e f = rw (same Table.AO 2 e, same Table.AO 3 e) refl
    go false false true e f = rw (same Table.TH 1 f) refl
    go false false false e f = refl

pub fits-take : (t k : ℕ) (s : List ℕ) → fits t k (take (size k) s) ≡ fits t k s
unfolding fits
fits-take t k s =
    rw (
      below-same (length (row_of k).fields) (λ i. field_fits t (field_of k i) (value k i (take (size k) s))) (λ i. field_fits t (field_of k i) (value k i s))
          (λ i. ap (field_fits t (field_of k i)) (value-take k i s)),
      rule-take t k s,
    )
    refl

-- as code cuts it
pub fits-cut : (t k : ℕ) (s : List ℕ) {n : ℕ} → size k ≡ n → fits t k (take n s) ≡ fits t k s
fits-cut t k s z = rw (← z) (fits-take t k s)

pub valued-take : (t k : ℕ) (s : List ℕ) → value_fits t k (take (size k) s) ≡ value_fits t k s
unfolding value_fits
valued-take t k s = rw (fits-take t k s) refl

-- ---- what a record says

-- four marks are asked it
pub is-asked : (m : Mark) → (m ≡ Mark.FU) ⊎ ((m ≡ Mark.MM) ⊎ ((m ≡ Mark.FV) ⊎ (m ≡ Mark.MV))) → valued (row m) ≡ true
unfolding valued kind_of is_dated row_of table
is-asked m (inl e) = rw e refl
is-asked m (inr (inl e)) = rw e refl
is-asked m (inr (inr (inl e))) = rw e refl
is-asked m (inr (inr (inr e))) = rw e refl

pub not-asked : (m : Mark) → (m ≡ Mark.FU → ⊥) → (m ≡ Mark.MM → ⊥) → (m ≡ Mark.FV → ⊥) → (m ≡ Mark.MV → ⊥) → valued (row m) ≡ false
unfolding valued kind_of is_dated row_of table
not-asked Unknown a b c d = refl
not-asked RS a b c d = refl
not-asked HP a b c d = refl
not-asked FU a b c d = absurd (a refl)
not-asked AD a b c d = refl
not-asked MM a b c d = absurd (b refl)
not-asked RQ a b c d = refl
not-asked HR a b c d = refl
not-asked CH a b c d = refl
not-asked TH a b c d = refl
not-asked FP a b c d = refl
not-asked LC a b c d = refl
not-asked AO a b c d = refl
not-asked FV a b c d = absurd (c refl)
not-asked AV a b c d = refl
not-asked MV a b c d = absurd (d refl)

-- what one of them says fits as the record does
pub asked : (t : ℕ) (s : List ℕ) {m k : Mark} {b : Bool} → m ≡ k → valued (row k) ≡ true → b ≡ fits t (row k) s → b ≡ value_fits t (row m) s
unfolding value_fits
asked t s q v e = rw (q, v) e

-- and of any other it does
pub unasked : (t m : ℕ) (s : List ℕ) → valued m ≡ false → true ≡ value_fits t m s
unfolding value_fits
unasked t m s v = rw v refl
