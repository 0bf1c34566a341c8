use mathlib.Core.Path.{refl}
use Prim.Native.Nat.{◌+◌, ◌*◌}
use borrow.Author.Tests.{ne_eqb, tests}
use Rattle.std.proofs.Common.{rules}
use Rattle.index.specs.Slots.{slots_empty}
use Rattle.fit.proofs.Ranges.{all-below}
use Rattle.fit.proofs.prorated_fit.Goals as goal

pub returns : goal.returns
returns c =
    rw (ne_eqb _ 2 c.if-t-eq2.false)
    (all-below (λ p. slots_empty c.args.index.now (c.args.j + 20 * p) 4) c.args.profiles refl c.all.ensures.ran (λ x b q k. search (rules, tests)))
