use borrow.Author.Rules.{rules}
use native.Mathlib.Omega.{arith}
use mathlib.Core.Path.{◌≡◌, refl, ap}
use mathlib.Core.List.{List}
use Prim.Native.Nat.{ℕ, ◌≤◌, ◌<◌, ◌-◌, ◌+◌, ◌*◌}
use lib.ListN.{length, drop, take}
use Rattle.records.specs.Record.{mark, size}
use Rattle.records.specs.MarkShapes.{shortest}
use Rattle.index.specs.Slots.{slot_at, wide}
use Rattle.index.specs.declared.Entry.{Entry}
use Rattle.twins.proofs.Loop.{start, spans, slot-fits, twin-there, none-there, finish}
use Rattle.twins.proofs.search.Goals as goal
use Rattle.twins.proofs.search.Goals.{After-entry_at-s}

-- a turn's dossier and place, and the record that stands there
abbrev d-of : After-entry_at-s → List ℕ
d-of c = c.args.d.now

abbrev at_of : After-entry_at-s → ℕ
at_of c = c.loop-at.at

abbrev rest_of : After-entry_at-s → List ℕ
rest_of c = take (length (d-of c) - at_of c) (drop (at_of c) (d-of c))

abbrev len_of : After-entry_at-s → ℕ
len_of c = c.entry_at-s.result.len

-- the record lies within the dossier
inside : (c : After-entry_at-s) → at_of c < length (d-of c)
inside c = omega (arith, c.loop-at-test.true)

-- its slot and its length are those of its mark
its-slot : (c : After-entry_at-s) → c.entry_at-s.result.slot ≡ slot_at (mark (rest_of c)) (rest_of c)
its-slot c = ap (λ (s : Entry). s.slot) c.entry_at-s.ensures

its-size : (c : After-entry_at-s) → len_of c ≡ size (mark (rest_of c))
its-size c = ap (λ (s : Entry). s.len) c.entry_at-s.ensures

-- the slot is one of the widest index
slot-below : (c : After-entry_at-s) → c.entry_at-s.result.slot < wide
slot-below c = slot-fits (d-of c) (at_of c) (inside c) c.loop-at.invariant.4 (its-size c) (its-slot c)

-- it is within the dossier, and there is room for it
its : (c : After-entry_at-s) → (shortest ≤ len_of c) × (len_of c ≤ length (d-of c) - at_of c) × (shortest * c.loop-at.count ≤ at_of c)
    × (length (d-of c) + shortest < shortest * length c.loop-at.ids) × (length c.loop-at.ids ≤ 65535)
its c = (
  (spans (d-of c) (at_of c) (inside c) c.loop-at.invariant.4 (its-size c)).0,
  (spans (d-of c) (at_of c) (inside c) c.loop-at.invariant.4 (its-size c)).1,
  c.loop-at.invariant.1,
  omega (arith, c.requires.0.room, c.loop-at.invariant.3),
  omega (arith, c.requires.0.narrow, c.loop-at.invariant.3),
)

pub loop-at-init : goal.loop-at-init
loop-at-init c = (search rules, search rules, refl, refl, start _ _ _ _ c.requires.0 c.requires.1)

pub overflow_add-next : goal.overflow_add-next
overflow_add-next c = omega (arith, its (goal.at.overflow_add-next c).After-entry_at-s)

pub overflow_mul-x : goal.overflow_mul-x
overflow_mul-x c = omega (arith, slot-below (goal.at.overflow_mul-x c).After-entry_at-s)

pub overflow_add-x : goal.overflow_add-x
overflow_add-x c = omega (arith, slot-below (goal.at.overflow_add-x c).After-entry_at-s, c.u32_at.type_inv)

pub returns-then-enter : goal.returns-then-enter
returns-then-enter c =
    let t = (goal.at.returns-then-enter c).After-entry_at-s in
    twin-there (d-of t) (at_of t) (inside t) c.loop-at.invariant.4 (its-size t) (its-slot t) c.u32_at.ensures c.u32_at.type_inv
    c.enter.ensures c.if-enter.true

pub loop-at-smaller : goal.loop-at-smaller
loop-at-smaller c = omega (arith, its (goal.at.loop-at-smaller c).After-entry_at-s)

pub loop-at-preserved : goal.loop-at-preserved
loop-at-preserved c =
    let t = (goal.at.loop-at-preserved c).After-entry_at-s in (
      omega (arith, its t),
      omega (arith, its t),
      search rules,
      search rules,
      none-there (d-of t) (at_of t) (inside t) c.loop-at.invariant.4 (its-size t) (its-slot t) c.u32_at.ensures c.u32_at.type_inv
          c.enter.ensures c.if-enter.false (omega (arith, its t)),
    )

pub returns : goal.returns
returns c = finish _ _ c.loop-at-test.false c.loop-at.invariant.4
