use Rattle.std.proofs.Common.{◌≡◌, ◌∙◌, ◌+◌, ◌-◌, ◌≤◌, length, slice_range}
use native.Mathlib.Omega.{arith}
use Rattle.std.proofs.lemmas.List.Sums.{count_by-le-length}
use Rattle.index.specs.Slots.{slot}
use Rattle.parameters.proofs.Points.{is_full, points-counted}
use Rattle.parameters.proofs.points_of.Goals as goal

pub overflow_add-first : goal.overflow_add-first
unfolding slot
overflow_add-first c = omega (arith, c.slot_hp-first.ensures)

pub offset_bounds-index-first : goal.offset_bounds-index-first
unfolding slot
offset_bounds-index-first c = omega (arith, c.slot_hp-first.ensures)

pub slice_bounds-full_slots-end : goal.slice_bounds-full_slots-end
unfolding slot
slice_bounds-full_slots-end c = omega (arith, c.slot_hp-first.ensures, c.requires.index.roomy)

pub returns : goal.returns
unfolding slot
returns c =
    let first = c.slot_hp-first.result in
    let ix = c.args.index.now in
    let same : (first + 21) - first ≡ 21 = omega arith in
    let within : first + 21 ≤ length ix = omega (arith, c.slot_hp-first.ensures, c.requires.index.roomy) in
    let few = count_by-le-length is_full (slice_range ix first (first + 21)) in (
      c.full_slots.ensures ∙ rw same (points-counted c.args.d.now ix c.requires c.slot_hp-first.ensures within),
      omega arith,
    )
