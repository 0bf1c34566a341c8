use borrow.Author.Tests.{eq-eqb, ne_eqb}
use Rattle.arrays.specs.Packed.{single_sum}
use Rattle.reference.proofs.single_sum.Goals as goal

pub returns-then-level-eq2 : goal.returns-then-level-eq2
unfolding single_sum
returns-then-level-eq2 c = rw (eq-eqb _ _ c.if-level-eq2.true) c.start_cost.ensures

pub returns-then-level-eq3 : goal.returns-then-level-eq3
unfolding single_sum
returns-then-level-eq3 c = rw (ne_eqb _ _ c.if-level-eq2.false, eq-eqb _ _ c.if-level-eq3.true) c.no_load_cost.ensures

pub returns : goal.returns
unfolding single_sum
returns c = rw (ne_eqb _ _ c.if-level-eq2.false, ne_eqb _ _ c.if-level-eq3.false) c.adders.ensures.0
