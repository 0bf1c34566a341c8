use mathlib.Core.Path.{ap, sym, ◌∙◌}
use Prim.Native.Nat.{◌<◌}
use native.Mathlib.Omega.{arith}
use Rattle.records.specs.Marks.{row}
use Rattle.records.specs.Table.{kinds}
use Rattle.records.specs.Record.{kind_of, key_width}
use Rattle.records.proofs.MarkShapes.{shape-width}
use Rattle.records.proofs.EveryMark.{mark-lt, kind-lt}
use Rattle.lookup.proofs.Lookup.{width-le, lookup-ends, looked, other_width}
use borrow.Author.Rules.{rules}
use Rattle.lookup.proofs.current.Goals as goal
use Rattle.lookup.proofs.current.Goals.{After-kind_of}

pub key_number-requires : goal.key_number-requires
key_number-requires c =
    let k = row c.mark_at-mark.result in omega (arith, c.if-key-m.true, shape-width k c.mark_shape-m.ensures, width-le k)

-- the mark's kind is one of the table's
kind-is : (c : After-kind_of) → row c.kind_of.result < kinds
kind-is c = rw c.kind_of.ensures (kind-lt _ (rw c.mark_at-mark.ensures (mark-lt _)))

pub lookup_part-requires : goal.lookup_part-requires
lookup_part-requires c = kind-is (goal.at.lookup_part-requires c).After-kind_of

pub bytes_of-requires : goal.bytes_of-requires
bytes_of-requires c = lookup-ends _ _ _ (kind-is (goal.at.bytes_of-requires c).After-kind_of) c.lookup_part.ensures

pub returns-then-key-m : goal.returns-then-key-m
returns-then-key-m c =
    looked c.args.d.now c.args.letters.now c.args.key.now (kind-is (goal.at.returns-then-key-m c).After-kind_of) c.bytes_of.ensures
    c.lookup_part.ensures (c.kind_of.ensures ∙ ap kind_of c.mark_at-mark.ensures) c.key_number.ensures (search rules)
    (c.if-key-m.true ∙ shape-width _ c.mark_shape-m.ensures ∙ ap key_width c.mark_at-mark.ensures)

pub returns : goal.returns
returns c =
    other_width _ _ c.args.key.now
    (λ e. c.if-key-m.false (e ∙ sym (shape-width _ c.mark_shape-m.ensures
    ∙ ap key_width c.mark_at-mark.ensures)))
