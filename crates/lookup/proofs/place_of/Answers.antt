use mathlib.Core.Path.{sym, ◌∙◌}
use native.Mathlib.Omega.{arith}
use Rattle.records.specs.Marks.{row}
use Rattle.index.proofs.KeyBounds.{InKey, test-key}
use Rattle.index.proofs.Slots.{slot_lt}
use Rattle.lookup.proofs.Parts.{covered, place-current, no_key, key-small}
use Rattle.lookup.proofs.place_of.Goals as goal
use Rattle.lookup.proofs.place_of.Goals.{Then-in_key}

-- the number is a key of the kind
its-key : (c : Then-in_key) → InKey (row c.args.kind) c.args.n
its-key c = test-key _ _ c.requires.1 (sym c.in_key.ensures ∙ c.if-in_key.true)

pub slot_of-requires : goal.slot_of-requires
slot_of-requires c = (key-small _ _ (its-key c), c.requires.1)

pub offset_bounds-index-slot_of : goal.offset_bounds-index-slot_of
offset_bounds-index-slot_of c = omega (arith, c.slot_of.ensures, slot_lt _ _ (its-key (goal.at.offset_bounds-index-slot_of c).Then-in_key))

pub bounds-index-slot_of : goal.bounds-index-slot_of
bounds-index-slot_of c =
    let key = its-key (goal.at.bounds-index-slot_of c).Then-in_key in
    rw c.slot_of.ensures (covered c.args.index.now c.requires.0.roomy _ _ key c.requires.2)

pub returns-then-in_key : goal.returns-then-in_key
returns-then-in_key c =
    let key = its-key (goal.at.returns-then-in_key c).Then-in_key in
    c.record_part.ensures ∙ place-current _ _ c.requires.0 _ _ key (covered c.args.index.now c.requires.0.roomy _ _ key c.requires.2)
    c.slot_of.ensures

pub returns : goal.returns
returns c = no_key _ _ c.requires.0 _ _ (sym c.in_key.ensures ∙ c.if-in_key.false)
