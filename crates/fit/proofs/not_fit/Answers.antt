use mathlib.Core.Path.{ap, ◌∙◌}
use native.Mathlib.Omega.{arith}
use Rattle.records.specs.Marks.{row}
use Rattle.records.specs.Record.{size}
use Rattle.records.proofs.MarkShapes.{shape_size, shape-width}
use Rattle.lookup.proofs.Lookup.{width-le}
use Rattle.fit.proofs.Plain.{plain-lt}
use Rattle.fit.proofs.Search.{fit-passes, slot-here, unfit-current}
use Rattle.fit.proofs.not_fit.Goals as goal

pub returns-then-fits : goal.returns-then-fits
returns-then-fits c = let a = c.args in fit-passes a.d.now a.index.now a.s.now a.fits c.if-fits.true

pub key_at-requires : goal.key_at-requires
key_at-requires c = omega (arith, shape-width _ c.mark_shape-shape.ensures, width-le (row c.mark_at-mark.result))

pub slot_of-slot-requires : goal.slot_of-slot-requires
slot_of-slot-requires c =
    let u = c.requires.2 in
    (rw (← shape-width _ c.mark_shape-shape.ensures) c.key_at.ensures.1, rw c.mark_at-mark.ensures (plain-lt _ u))

pub part_at-current-requires : goal.part_at-current-requires
part_at-current-requires c =
    let p = c.requires in
    let k = c.mark_at-mark.ensures in
    let m = c.mark_shape-shape.ensures in
    (rw (slot-here _ p.2 k m c.key_at.ensures.0 c.slot_of-slot.ensures) p.0, omega (arith, shape_size _ m, ap size k, p.1))

pub returns : goal.returns
returns c =
    let a = c.args in
    let u = c.requires.2 in
    let k = c.mark_at-mark.ensures in
    let m = c.mark_shape-shape.ensures in
    unfit-current a.d.now a.index.now a.s.now a.fits c.if-fits.false
    (slot-here _ u k m c.key_at.ensures.0 c.slot_of-slot.ensures) (shape_size _ m ∙ ap size k)
    c.part_at-current.ensures c.u32_at.ensures c.u32_at-2.ensures
