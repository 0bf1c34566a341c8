use mathlib.Core.Path.{◌≡◌, refl}
use mathlib.Core.Logic.{◌⊎◌, inl, inr}
use Prim.Native.Nat.{◌<◌}
use native.Mathlib.Omega.{arith}
use borrow.Author.Rules.{rules}
use Rattle.records.specs.Table.{table, row_of, kinds}
use Rattle.records.specs.Record.{key_in, key_width}
use Rattle.records.specs.Marks.{row}
use Rattle.records.specs.declared.marks.Mark.{Mark}
use Rattle.index.specs.Slots.{slot}
use Rattle.lookup.proofs.slot_of.Goals as goal

pub slot_hp-requires : goal.slot_hp-requires
unfolding key_width key_in row_of table
slot_hp-requires c = omega (arith, rw c.in-HP.is at c.requires.0)

pub slot_fu-requires : goal.slot_fu-requires
unfolding key_width key_in row_of table
slot_fu-requires c = omega (arith, rw c.in-FU.is at c.requires.0)

pub slot_ad-requires : goal.slot_ad-requires
unfolding key_width key_in row_of table
slot_ad-requires c = (omega (arith, rw c.in-AD.is at c.requires.0), search rules, search rules)

pub slot_mm-requires : goal.slot_mm-requires
unfolding key_width key_in row_of table
slot_mm-requires c = (omega (arith, rw c.in-MM.is at c.requires.0), search rules)

pub slot_rq-requires : goal.slot_rq-requires
unfolding key_width key_in row_of table
slot_rq-requires c = omega (arith, rw c.in-RQ.is at c.requires.0)

pub slot_hr-requires : goal.slot_hr-requires
unfolding key_width key_in row_of table
slot_hr-requires c = omega (arith, rw c.in-HR.is at c.requires.0)

pub slot_ch-requires : goal.slot_ch-requires
unfolding key_width key_in row_of table
slot_ch-requires c = omega (arith, rw c.in-CH.is at c.requires.0)

pub slot_th-requires : goal.slot_th-requires
unfolding key_width key_in row_of table
slot_th-requires c = (omega (arith, rw c.in-TH.is at c.requires.0), search rules)

pub slot_fp-requires : goal.slot_fp-requires
unfolding key_width key_in row_of table
slot_fp-requires c = omega (arith, rw c.in-FP.is at c.requires.0)

pub slot_ao-requires : goal.slot_ao-requires
unfolding key_width key_in row_of table
slot_ao-requires c = (omega (arith, rw c.in-AO.is at c.requires.0), search rules, search rules, search rules)

pub returns-in-LC : goal.returns-in-LC
unfolding slot
returns-in-LC c = rw c.in-LC.is c.slot_lc.ensures

pub returns-in-Unknown : goal.returns-in-Unknown
unfolding slot
returns-in-Unknown c = none c.args.kind c.requires.1 c.in-Unknown.is
  where
    none : (m : Mark) → row m < kinds → (m ≡ Mark.Unknown) ⊎ (m ≡ Mark.RS) ⊎ (m ≡ Mark.FV) ⊎ (m ≡ Mark.AV) ⊎ (m ≡ Mark.MV)
        → 0 ≡ slot (row m) c.args.n
    none m h (inl e) = rw e refl
    none m h (inr (inl e)) = rw e refl
    none m h (inr (inr (inl e))) = absurd (omega (arith, rw e at h))
    none m h (inr (inr (inr (inl e)))) = absurd (omega (arith, rw e at h))
    none m h (inr (inr (inr (inr e)))) = absurd (omega (arith, rw e at h))
