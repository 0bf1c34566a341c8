use native.Mathlib.Nat.{mod-lt}
use native.Mathlib.Omega.{arith}
use mathlib.Core.Path.{refl}
use Rattle.twins.specs.Tree.{root}
use Rattle.twins.proofs.Root.{sum_fits, product-fits}
use Rattle.twins.proofs.root_of.Goals as goal

pub overflow_add-m : goal.overflow_add-m
overflow_add-m c = record { fits = sum_fits c.args.x c.ranges.x.fits }

pub overflow_mul-result : goal.overflow_mul-result
overflow_mul-result c = record { fits = product-fits (mod-lt _ (omega arith)) (omega arith) }

pub returns : goal.returns
unfolding root
returns c = refl
