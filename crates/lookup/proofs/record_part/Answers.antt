use mathlib.Core.Path.{refl, ap, ◌∙◌}
use Prim.Native.Nat.{◌-◌}
use Rattle.records.specs.Record.{mark, size}
use Rattle.index.proofs.Turn.{tail}
use Rattle.lookup.specs.Parts.{part, record_part}
use Rattle.lookup.proofs.record_part.Goals as goal

pub returns-then-q-d : goal.returns-then-q-d
unfolding record_part
returns-then-q-d c = rw c.if-q-d.true refl

pub returns : goal.returns
unfolding record_part
returns c =
    let d = c.args.d.now in
    let at = c.args.v - 1 in
    rw c.if-q-d.false (ap (part at) (c.length_of-length.ensures ∙ ap size (c.mark_at.ensures ∙ ap mark (tail d at))))
