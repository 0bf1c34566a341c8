use native.Mathlib.Omega.{arith}
use mathlib.Core.Path.{refl}
use Prim.Native.Nat.{◌≤◌, ◌<◌, ◌+◌, ◌*◌}
use Rattle.twins.proofs.Way.{begin, sizes, first, facts, onward, met, gap}
use Rattle.twins.proofs.enter.Goals as goal
use Rattle.twins.proofs.enter.Goals.{After-root_of-at, In-loop-node}

-- the way begins among the roots
first_fits : (c : After-root_of-at) → c.root_of-at.result < c.args.roots
first_fits c = first c.requires c.args.x c.root_of-at.ensures

pub offset_bounds-links-at : goal.offset_bounds-links-at
offset_bounds-links-at c = omega (arith, first_fits (goal.at.offset_bounds-links-at c).After-root_of-at, sizes c.requires)

pub bounds-links-at : goal.bounds-links-at
bounds-links-at c = omega (arith, first_fits (goal.at.bounds-links-at c).After-root_of-at, sizes c.requires)

pub loop-node-init : goal.loop-node-init
loop-node-init c = (
  omega (arith, first_fits (goal.at.loop-node-init c).After-root_of-at),
  refl,
  begin _ c.args.links.now c.args.ids.now c.args.x c.root_of-at.ensures,
)

-- a turn's node is there, and its link leads on
here : (c : In-loop-node) → (0 < c.loop-node.node) × (c.loop-node.node ≤ c.args.count) × (c.loop-node.at < c.args.roots + 2 * c.loop-node.node)
here c = facts c.requires c.loop-node.invariant.1 c.loop-node-test.true

pub returns-then-ids-node : goal.returns-then-ids-node
returns-then-ids-node c =
    let l = c.loop-node in
    met _ c.args.links.now c.args.ids.now c.args.count c.args.x l.at l.left l.node l.invariant.2 l.invariant.1
    (here (goal.at.returns-then-ids-node c).In-loop-node).0 c.if-ids-node.true

pub loop-node-preserved : goal.loop-node-preserved
loop-node-preserved c =
    let l = c.loop-node in
    let h = here (goal.at.loop-node-preserved c).In-loop-node in (
      omega (arith, h),
      refl,
      onward _ c.args.links.now c.args.ids.now c.args.count c.args.x l.at l.left l.node l.invariant.2 l.invariant.1 h.0 c.if-ids-node.false,
    )

pub returns : goal.returns
returns c =
    let l = c.loop-node in
    gap _ c.args.links.now c.args.ids.now c.args.count c.args.x l.at l.left l.node l.invariant.2 l.invariant.1 c.loop-node-test.false
