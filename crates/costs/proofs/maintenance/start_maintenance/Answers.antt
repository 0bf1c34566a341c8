use borrow.Author.Rules.{rules}
use mathlib.Core.Path.{sym, ◌∙◌}
use native.Mathlib.Omega.{arith}
use Rattle.index.specs.Slots.{slot}
use Rattle.formulas.specs.Exact.{micro_dollars}
use Rattle.formulas.specs.Levels.{start_maintenance}
use Rattle.costs.proofs.Absent.{no-start-maintenance}
use Rattle.costs.proofs.maintenance.start_maintenance.Goals as goal

pub slots_empty-requires : goal.slots_empty-requires
unfolding slot
slots_empty-requires c = let q = c.requires in omega (arith, c.slot_mm.ensures, q.0.index.roomy, q.1, q.2)

pub returns-then-slots_empty : goal.returns-then-slots_empty
returns-then-slots_empty c =
    let a = c.args in
    let q = c.requires in (
      no-start-maintenance q.0 a.p q.1 q.2 c.slot_mm.ensures (sym c.slots_empty.ensures ∙ c.if-slots_empty.true),
      omega arith,
    )

pub returns : goal.returns
unfolding micro_dollars start_maintenance
returns c =
    (c.summed.ensures.sum _ (λ k r a b e. search rules), c.summed.ensures.within 1000000000000000000 (λ k r a b e. search rules))
