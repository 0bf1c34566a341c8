-- What code reads of a record by its mark: where its fields begin, the hour from which it counts, and its slot.
use mathlib.Core.Path.{◌≡◌, refl, sym, ◌∙◌}
use mathlib.Core.Bool.{Bool, true, false}
use mathlib.Core.List.{List}
use Prim.Native.Nat.{ℕ, ◌+◌, ◌*◌, ◌≤◌}
use native.Mathlib.Omega.{arith}
use lib.Dec.{lit≤}
use Rattle.lists.specs.Tests.{among}
use Rattle.fields.specs.Numbers.{number}
use Rattle.fields.proofs.Numbers.{number-join}
use Rattle.records.specs.declared.marks.Mark.{Mark}
use Rattle.records.specs.declared.marks.Mark.TheVariants.{Unknown, RS, HP, FU, AD, MM, RQ, HR, CH, TH, FP, LC, AO, FV, AV, MV}
use Rattle.records.specs.Table.{table, row_of}
use Rattle.records.specs.Table
use Rattle.records.specs.Marks.{row}
use Rattle.records.specs.Record.{is_dated, kind_of, datable, fields_at, key_in, key_width}
use Rattle.records.proofs.Dated.{dated-at, undated-at, kind-fields}
use Rattle.index.specs.Slots.{slot, slot_at}
use Rattle.hours.specs.Filling.{dated_slot}

-- ---- where the fields begin

pub fields-most : (k : ℕ) → fields_at k ≤ 10
fields-most k = go (is_dated k) refl
  where
    go : (b : Bool) → is_dated k ≡ b → fields_at k ≤ 10
    go true e = omega (arith, dated-at k e)
    go false e = omega (arith, undated-at k e)

pub fields-at-most : (n k : ℕ) → n ≡ fields_at k → n ≤ 10
fields-at-most n k e = omega (arith, e, fields-most k)

-- ---- the slot, by kind

-- the key is as wide as the kind's
width-kind : (m k : ℕ) → kind_of m ≡ k → key_width m ≡ key_width k
unfolding key_width
width-kind m k e = rw (kind-fields m, e) refl

-- FU, AD and MM are the kinds that may have first hours
pub not-datable : (k : Mark) → 1 ≤ row k → (k ≡ Mark.FU → ⊥) → (k ≡ Mark.AD → ⊥) → (k ≡ Mark.MM → ⊥) → datable (row k) ≡ false
unfolding datable among table
not-datable Unknown p x y z = absurd (omega arith)
not-datable RS p x y z = refl
not-datable HP p x y z = refl
not-datable FU p x y z = absurd (x refl)
not-datable AD p x y z = absurd (y refl)
not-datable MM p x y z = absurd (z refl)
not-datable RQ p x y z = refl
not-datable HR p x y z = refl
not-datable CH p x y z = refl
not-datable TH p x y z = refl
not-datable FP p x y z = refl
not-datable LC p x y z = refl
not-datable AO p x y z = refl
not-datable FV p x y z = refl
not-datable AV p x y z = refl
not-datable MV p x y z = refl

-- of a known mark it is known
kind-known : (m : Mark) → 1 ≤ row m → 1 ≤ kind_of (row m)
unfolding kind_of is_dated row_of table
kind-known Unknown p = absurd (omega arith)
kind-known RS p = lit≤ tt
kind-known HP p = lit≤ tt
kind-known FU p = lit≤ tt
kind-known AD p = lit≤ tt
kind-known MM p = lit≤ tt
kind-known RQ p = lit≤ tt
kind-known HR p = lit≤ tt
kind-known CH p = lit≤ tt
kind-known TH p = lit≤ tt
kind-known FP p = lit≤ tt
kind-known LC p = lit≤ tt
kind-known AO p = lit≤ tt
kind-known FV p = lit≤ tt
kind-known AV p = lit≤ tt
kind-known MV p = lit≤ tt

dated-slot-is : (m k w : ℕ) (s : List ℕ) → kind_of m ≡ k → datable k ≡ true → key_width k ≡ w → slot k (number (fields_at m) w s) ≡ dated_slot m s
unfolding dated_slot slot_at
dated-slot-is m k w s e t q = rw (e, t, width-kind m k e, q) refl

-- as code finds it: k is the kind, o where the fields begin
module _ (m : ℕ) (s : List ℕ) {k o : ℕ} (ek : k ≡ kind_of m) (eo : o ≡ fields_at m) where
  pub slot-fu : {x j : ℕ} → k ≡ Table.FU → x ≡ number o 1 s → j ≡ slot Table.FU x → j ≡ dated_slot m s
  unfolding datable among key_width key_in row_of table
  slot-fu e ex ej = ej ∙ rw (ex, eo) (dated-slot-is m Table.FU 1 s (sym ek ∙ e) refl refl)

  pub slot-ad : {x y z j : ℕ} → k ≡ Table.AD → x ≡ number o 1 s → y ≡ number (o + 1) 1 s → z ≡ number (o + 2) 1 s → j ≡ slot Table.AD (x * 65536 + y * 256 + z)
      → j ≡ dated_slot m s
  unfolding datable among key_width key_in row_of table
  slot-ad e ex ey ez ej = ej ∙ rw (ex, ey, ez, three o, eo) (dated-slot-is m Table.AD 3 s (sym ek ∙ e) refl refl)
    where
      three : (a : ℕ) → number a 1 s * 65536 + number (a + 1) 1 s * 256 + number (a + 2) 1 s ≡ number a 3 s
      three a = omega (arith, number-join a 2 1 s, number-join a 1 1 s)

  pub slot-mm : {x y j : ℕ} → k ≡ Table.MM → x ≡ number o 1 s → y ≡ number (o + 1) 1 s → j ≡ slot Table.MM (x * 256 + y) → j ≡ dated_slot m s
  unfolding datable among key_width key_in row_of table
  slot-mm e ex ey ej = ej ∙ rw (ex, ey, ← number-join o 1 1 s, eo) (dated-slot-is m Table.MM 2 s (sym ek ∙ e) refl refl)

pub slot-other : (m : Mark) (s : List ℕ) {k : Mark} → row k ≡ kind_of (row m) → 1 ≤ row m → (k ≡ Mark.FU → ⊥) → (k ≡ Mark.AD → ⊥) → (k ≡ Mark.MM → ⊥)
    → 0 ≡ dated_slot (row m) s
unfolding dated_slot
slot-other m s {k} ek p x y z = rw (← ek, not-datable k (omega (arith, kind-known m p, ek)) x y z) refl
