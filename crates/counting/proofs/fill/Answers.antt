use mathlib.Core.Path.{refl}
use mathlib.Core.Bool.{◌&&◌, ◌||◌, not}
use Prim.Native.Nat.{◌≤◌, ◌<◌, ◌-◌, ◌*◌}
use native.Mathlib.Omega.{arith}
use lib.ListN.{length, take, length-set}
use mir.Val.{bool_byte}
use Rattle.records.specs.MarkShapes.{shortest}
use Rattle.counting.proofs.Filling.{fill-first, fill-last, fill-within, fill-low, fill-slot, fill-next, one-high}
use Rattle.counting.proofs.fill.Goals.{After-length_of-len, After-group_at, After-hidden_at}
use Rattle.counting.proofs.fill.Goals as goal

-- a turn's record is within the dossier, and there is room for the number
its : (c : After-length_of-len) → (shortest ≤ c.length_of-len.result) × (c.length_of-len.result ≤ length c.args.d.now - c.loop-at.at)
    × (shortest * c.loop-at.count ≤ c.loop-at.at) × (c.loop-at.at < length c.args.d.now)
    × (length c.args.d.now ≤ shortest * length c.loop-at.ids) × (length c.args.d.now ≤ 60000)
its c =
    let w = c.loop-at in
    let p = c.requires.0 in
    let i = fill-within c.args.all c.args.d.now c.args.index.now w.ids w.count w.at c.loop-at-test.true w.invariant.3
    c.mark_at-mark.ensures c.length_of-len.ensures in
    (i.0, i.1, w.invariant.1, c.loop-at-test.true, omega (arith, p, w.invariant.2), p.1)

low : (c : After-group_at) → c.group_at.result < 65536
low c =
    let w = c.loop-at in
    fill-low c.args.all c.args.d.now c.args.index.now w.ids w.count w.at c.loop-at-test.true w.invariant.3
    c.mark_at-mark.ensures c.length_of-len.ensures c.group_at.ensures

-- at most one number more
more : (c : After-hidden_at) → bool_byte ((c.args.all || c.is_valued.result) && not c.hidden_at.result) ≤ 1
more c = one-high ((c.args.all || c.is_valued.result) && not c.hidden_at.result)

pub loop-at-init : goal.loop-at-init
loop-at-init c =
    (omega arith, omega arith, refl, fill-first c.args.all c.args.d.now c.args.index.now c.requires.1 c.requires.2)

pub overflow_mul-id : goal.overflow_mul-id
overflow_mul-id c = omega (arith, low (goal.at.overflow_mul-id c).After-group_at)

pub overflow_add-id : goal.overflow_add-id
overflow_add-id c = omega (arith, low (goal.at.overflow_add-id c).After-group_at, c.u32_at.type_inv)

pub overflow_mul-ids : goal.overflow_mul-ids
overflow_mul-ids c = omega (arith, low (goal.at.overflow_mul-ids c).After-group_at, c.u32_at.type_inv)

pub overflow_add-ids : goal.overflow_add-ids
overflow_add-ids c =
    omega (
      arith,
      low (goal.at.overflow_add-ids c).After-group_at,
      c.u32_at.type_inv,
      its (goal.at.overflow_add-ids c).After-length_of-len,
    )

pub hidden_at-requires : goal.hidden_at-requires
hidden_at-requires c =
    let w = c.loop-at in
    fill-slot c.args.all c.args.d.now c.args.index.now w.ids w.count w.at c.loop-at-test.true w.invariant.3
    c.mark_at-mark.ensures c.length_of-len.ensures

pub overflow_add-at : goal.overflow_add-at
overflow_add-at c = omega (arith, its (goal.at.overflow_add-at c).After-length_of-len)

pub loop-at-smaller : goal.loop-at-smaller
loop-at-smaller c = omega (arith, its (goal.at.loop-at-smaller c).After-length_of-len)

pub loop-at-preserved : goal.loop-at-preserved
loop-at-preserved c =
    let w = c.loop-at in
    let i = its (goal.at.loop-at-preserved c).After-length_of-len in (
      omega (arith, i),
      omega (arith, i, more (goal.at.loop-at-preserved c).After-hidden_at),
      simp length-set w.invariant.2,
      fill-next c.args.all c.args.d.now c.args.index.now w.ids w.count w.at c.loop-at-test.true w.invariant.3
          c.mark_at-mark.ensures c.length_of-len.ensures c.group_at.ensures c.u32_at.ensures c.u32_at.type_inv
          c.requires.1 c.hidden_at.ensures c.is_valued.ensures (omega (arith, i)) i.5,
    )

pub returns : goal.returns
returns c =
    let w = c.loop-at in (
      omega (arith, w.invariant, c.requires.0),
      w.invariant.2,
      fill-last c.args.all c.args.d.now c.args.index.now (take w.count w.ids) w.at c.loop-at-test.false w.invariant.3,
      w.invariant.3.1,
    )
