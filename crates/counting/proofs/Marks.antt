-- Kind and key in one number, and the slot, as code reads them where the record lies, by its mark.
use mathlib.Core.Path.{◌≡◌, refl, ap, sym, ◌∙◌}
use mathlib.Core.Bool.{true, false}
use mathlib.Core.Logic.{◌⊎◌, inl, inr}
use mathlib.Core.List.{List, [], ◌∷◌}
use Prim.Native.Nat.{ℕ, ◌+◌, ◌*◌, ◌<◌}
use native.Mathlib.Omega.{arith}
use denote.Enum.Declared.{tag_of}
use lib.Dec.{eqb}
use lib.ListN.{get_or}
use borrow.Author.Tests.{eqb-true, ne_eqb}
use Rattle.fields.specs.Numbers.{number}
use Rattle.fields.proofs.Numbers.{number-join}
use Rattle.records.specs.contracts.marks.Mark.{the_type}
use Rattle.records.specs.declared.marks.Mark.{Mark}
use Rattle.records.specs.declared.marks.Mark.TheVariants.{Unknown, RS, HP, FU, AD, MM, RQ, HR, CH, TH, FP, LC, AO, FV, AV, MV}
use Rattle.records.specs.Table.{marks}
use Rattle.records.specs.Table
use Rattle.records.specs.Marks.{row}
use Rattle.records.specs.Record.{kind_of, fields_at, key_width}
use Rattle.index.specs.Slots.{slot, slot_at}
use Rattle.index.proofs.Entries.{four-fields}
use Rattle.trials.specs.Trials.{valued}
use Rattle.counting.specs.Sweep.{group, group_at}
use Rattle.counting.proofs.Group.{fields-low, width_by, width-by, own-group}

row-lt : (m : Mark) → row m < marks
row-lt Unknown = omega arith
row-lt RS = omega arith
row-lt HP = omega arith
row-lt FU = omega arith
row-lt AD = omega arith
row-lt MM = omega arith
row-lt RQ = omega arith
row-lt HR = omega arith
row-lt CH = omega arith
row-lt TH = omega arith
row-lt FP = omega arith
row-lt LC = omega arith
row-lt AO = omega arith
row-lt FV = omega arith
row-lt AV = omega arith
row-lt MV = omega arith

-- a mark is known by its row, which is its number in code
mark_in : ℕ → Mark
mark_in n =
    get_or (Unknown ∷ RS ∷ HP ∷ FU ∷ AD ∷ MM ∷ RQ ∷ HR ∷ CH ∷ TH ∷ FP ∷ LC ∷ AO ∷ FV ∷ AV ∷ MV ∷ []) n Unknown

told-by : (m : Mark) → (tag_of the_type m ≡ row m) × (mark_in (row m) ≡ m)
unfolding mark_in
told-by Unknown = (refl, refl)
told-by RS = (refl, refl)
told-by HP = (refl, refl)
told-by FU = (refl, refl)
told-by AD = (refl, refl)
told-by MM = (refl, refl)
told-by RQ = (refl, refl)
told-by HR = (refl, refl)
told-by CH = (refl, refl)
told-by TH = (refl, refl)
told-by FP = (refl, refl)
told-by LC = (refl, refl)
told-by AO = (refl, refl)
told-by FV = (refl, refl)
told-by AV = (refl, refl)
told-by MV = (refl, refl)

other_row : (m k : Mark) → (m ≡ k → ⊥) → eqb (row m) (row k) ≡ false
other_row m k h = ne_eqb (row m) (row k) (λ e. h (sym (told-by m).1 ∙ ap mark_in e ∙ (told-by k).1))

pub from_low : (m : Mark) {o : ℕ} → o ≡ fields_at (row m) → o + 3 < 65536
from_low m e = omega (arith, e, fields-low (row m) (row-lt m))

adder : (a b : ℕ) → b < 65536 → (11 + a) * 4096 + b ≡ group Table.AD (a * 65536 + b)
unfolding group
adder a b l = omega (arith, l)

plain : (k : Mark) (a : ℕ) → eqb (row k) Table.AO ≡ false → eqb (row k) Table.AD ≡ false → a < 65536 → tag_of the_type k * 4096 + a ≡ group (row k) a
unfolding group
plain k a x y l = rw ((told-by k).0, x, y) (omega (arith, l))

-- k is the kind as a mark, o where the fields begin
module _ (m : Mark) (s : List ℕ) (k : Mark) {o : ℕ} (ek : row k ≡ kind_of (row m)) (eo : o ≡ fields_at (row m)) where
  its-width : key_width (row m) ≡ width_by (row k)
  its-width = width-by (row m) (row-lt m) ∙ ap width_by (sym ek)

  grouped : {w : ℕ} → width_by (row k) ≡ w → group (row k) (number o w s) ≡ group_at (row m) s
  unfolding group_at
  grouped e = rw (its-width ∙ e, ek, eo) refl

  slotted : {w : ℕ} → width_by (row k) ≡ w → slot (row k) (number o w s) ≡ slot_at (row m) s
  unfolding slot_at
  slotted e = rw (its-width ∙ e, ek, eo) refl

  -- the slot of an FU or MM
  pub slot-fuel : {a x : ℕ} → k ≡ Mark.FU → a ≡ number o 1 s → x ≡ slot Table.FU a → x ≡ slot_at (row m) s
  slot-fuel {a} z p q =
      let e : row k ≡ Table.FU = ap row z in
      q ∙ ap (slot Table.FU) p ∙ ap (λ (y : ℕ). slot y (number o 1 s)) (sym e) ∙ slotted (ap width_by e)

  pub slot-item : valued (row m) ≡ true → (k ≡ Mark.FU → ⊥) → {a b x : ℕ} → a ≡ number o 1 s → b ≡ number (o + 1) 1 s → x ≡ slot Table.MM (a * 256 + b)
      → x ≡ slot_at (row m) s
  unfolding valued
  slot-item v y p q e =
      let z : row k ≡ Table.MM = eqb-true (row k) Table.MM (rw (← ek, other_row k Mark.FU y) at v) in
      e ∙ ap (slot Table.MM) (rw (p, q) (sym (number-join o 1 1 s))) ∙ ap (λ (y : ℕ). slot y (number o 2 s)) (sym z) ∙ slotted (ap width_by z)

  pub group-adder : {a b : ℕ} → k ≡ Mark.AD → a ≡ number o 1 s → b ≡ number (o + 1) 2 s → b < 65536 → (11 + a) * 4096 + b ≡ group_at (row m) s
  group-adder {a} {b} e p q l =
      let z : row k ≡ Table.AD = ap row e in
      let n : number o 3 s ≡ a * 65536 + b = number-join o 1 2 s ∙ rw (p, q) refl in
      adder a b l ∙ ap (group Table.AD) (sym n) ∙ ap (λ (i : ℕ). group i (number o 3 s)) (sym z) ∙ grouped (ap width_by z)

  pub group-own : {a b c d : ℕ} → k ≡ Mark.AO → a ≡ number o 1 s → b ≡ number (o + 1) 1 s → c ≡ number (o + 2) 1 s → d ≡ number (o + 3) 1 s
      → b < 256 → c < 256 → d < 256 → Table.AD * 4096 + a * 80 + b * 20 + c * 4 + d ≡ group_at (row m) s
  group-own {a} {b} {c} {d} e p q r t l x u =
      let z : row k ≡ Table.AO = ap row e in
      let n : a * 16777216 + b * 65536 + c * 256 + d ≡ number o 4 s = rw (p, q, r, t) (four-fields o s) in
      own-group a b c d l x u ∙ ap (group Table.AO) n ∙ ap (λ (i : ℕ). group i (number o 4 s)) (sym z) ∙ grouped (ap width_by z)

  -- of the kinds whose key has w bytes, but for AD and AO
  keyed : (j : Mark) → k ≡ j → eqb (row j) Table.AO ≡ false → eqb (row j) Table.AD ≡ false → {w a : ℕ} → width_by (row j) ≡ w → a < 65536 → a ≡ number o w s
      → tag_of the_type k * 4096 + a ≡ group_at (row m) s
  keyed j z x y {w} {a} e l p =
      let i : (b : ℕ) → eqb (row j) b ≡ false → eqb (row k) b ≡ false = λ b h. ap (λ (i : Mark). eqb (row i) b) z ∙ h in
      plain k a (i Table.AO x) (i Table.AD y) l ∙ ap (group (row k)) p ∙ grouped (ap (λ (i : Mark). width_by (row i)) z ∙ e)

  nothing : 0 ≡ number o 0 s
  unfolding number
  nothing = refl

  pub group-keyless : (k ≡ Mark.Unknown) ⊎ ((k ≡ Mark.RS) ⊎ (k ≡ Mark.LC)) → tag_of the_type k * 4096 ≡ group_at (row m) s
  group-keyless (inl e) = omega (arith, keyed Mark.Unknown e refl refl refl (omega arith) nothing)
  group-keyless (inr (inl e)) = omega (arith, keyed Mark.RS e refl refl refl (omega arith) nothing)
  group-keyless (inr (inr e)) = omega (arith, keyed Mark.LC e refl refl refl (omega arith) nothing)

  pub group-byte : (k ≡ Mark.HP) ⊎ ((k ≡ Mark.FU) ⊎ ((k ≡ Mark.RQ) ⊎ (k ≡ Mark.HR))) → {a : ℕ} → a < 256 → a ≡ number o 1 s
      → tag_of the_type k * 4096 + a ≡ group_at (row m) s
  group-byte (inl e) l p = keyed Mark.HP e refl refl refl (omega (arith, l)) p
  group-byte (inr (inl e)) l p = keyed Mark.FU e refl refl refl (omega (arith, l)) p
  group-byte (inr (inr (inl e))) l p = keyed Mark.RQ e refl refl refl (omega (arith, l)) p
  group-byte (inr (inr (inr e))) l p = keyed Mark.HR e refl refl refl (omega (arith, l)) p

  abbrev Not : Mark → Type 0
  Not j = k ≡ j → ⊥

  pub group-two : Not Mark.Unknown → Not Mark.RS → Not Mark.HP → Not Mark.FU → Not Mark.AD → Not Mark.RQ → Not Mark.HR → Not Mark.LC → Not Mark.AO
      → {a : ℕ} → a < 65536 → a ≡ number o 2 s → tag_of the_type k * 4096 + a ≡ group_at (row m) s
  group-two n0 n1 n2 n3 n4 n6 n7 n11 n12 l p = keyed k refl (other_row k Mark.AO n12) (other_row k Mark.AD n4)
      (rw (
        other_row k Mark.AD n4,
        other_row k Mark.Unknown n0,
        other_row k Mark.RS n1,
        other_row k Mark.LC n11,
        other_row k Mark.AO n12,
        other_row k Mark.HP n2,
        other_row k Mark.FU n3,
        other_row k Mark.RQ n6,
        other_row k Mark.HR n7,
      ) refl) l p
