use borrow.Author.Rules.{rules}
use mathlib.Core.Path.{◌≡◌, refl, ap, sym, ◌∙◌}
use mathlib.Core.Bool.{false, false≢true}
use Prim.Native.Nat.{ℕ}
use native.Mathlib.Omega.{arith}
use lib.Dec.{eqb}
use denote.Enum.Bare.{sameb, same_true}
use Rattle.std.specs.Prelude.{Err}
use Rattle.records.specs.declared.marks.Mark.{Mark}
use Rattle.records.specs.declared.marks.Mark.TheVariants.{Unknown, RS, HP, FU, AD, MM, RQ, HR, CH, TH, FP, LC, AO, FV, AV, MV}
use Rattle.records.specs.contracts.marks.Mark.{the_type}
use Rattle.records.specs.Marks.{row}
use Rattle.index.specs.declared.Fault.{Fault}
use Rattle.index.specs.Entries.{Reading}
use Rattle.index.proofs.Entries.{as_short, reading-short, reading-unknown, reading-known, fault-ranges}
use Rattle.index.proofs.reader.fault_of.Goals as goal

-- two faults of one rest are one
same_fault : {f g : Fault} → ◌≡◌ {A = Reading} (Err f) (Err g) → f ≡ g
same_fault e = cc e

-- only an unknown mark has number 0
known : (m : Mark) → false ≡ sameb the_type m Unknown → eqb (row m) 0 ≡ false
known Unknown e = absurd (false≢true e)
known RS e = refl
known HP e = refl
known FU e = refl
known AD e = refl
known MM e = refl
known RQ e = refl
known HR e = refl
known CH e = refl
known TH e = refl
known FP e = refl
known LC e = refl
known AO e = refl
known FV e = refl
known AV e = refl
known MV e = refl

pub returns-then-faulty-lt2 : goal.returns-then-faulty-lt2
returns-then-faulty-lt2 c f e = same_fault (reading-short c.args.faulty.now c.if-faulty-lt2.true ∙ e)

pub returns-then-eq : goal.returns-then-eq
returns-then-eq c f e =
    let s = c.args.faulty.now in
    let same = same_true the_type (search rules) c.mark_at-mark.result Unknown (sym c.if-eq.ensures) in
    same_fault (reading-unknown s (omega (arith, c.if-faulty-lt2.false)) (sym c.mark_at-mark.ensures ∙ ap row same) ∙ e)

pub returns-then-faulty-length_of : goal.returns-then-faulty-length_of
returns-then-faulty-length_of c f e =
    let s = c.args.faulty.now in
    let k : ℕ = row c.mark_at-mark.result in
    same_fault (as_short k s (omega (arith, c.if-faulty-length_of.true, c.length_of.ensures))
    ∙ reading-known k s (omega (arith, c.if-faulty-lt2.false)) (sym c.mark_at-mark.ensures) (known c.mark_at-mark.result c.if-eq.ensures) ∙ e)

pub returns : goal.returns
returns c f e =
    let s = c.args.faulty.now in
    let k : ℕ = row c.mark_at-mark.result in
    fault-ranges k s (omega (arith, c.if-faulty-length_of.false, c.length_of.ensures)) f
    (reading-known k s (omega (arith, c.if-faulty-lt2.false)) (sym c.mark_at-mark.ensures) (known c.mark_at-mark.result c.if-eq.ensures) ∙ e)
