use mathlib.Core.Path.{refl}
use native.Mathlib.Omega.{arith}
use borrow.Author.Tests.{ne_eqb}
use Rattle.verdicts.specs.Test.{limit}
use Rattle.limits.proofs.limit.Goals as goal

pub returns-then-margin-eq-NO_MARGIN : goal.returns-then-margin-eq-NO_MARGIN
unfolding limit
returns-then-margin-eq-NO_MARGIN c = rw c.if-margin-eq-NO_MARGIN.true refl

pub returns-else-margin-eq-NO_MARGIN : goal.returns-else-margin-eq-NO_MARGIN
unfolding limit
returns-else-margin-eq-NO_MARGIN c = rw (ne_eqb _ _ c.if-margin-eq-NO_MARGIN.false) (omega arith)
