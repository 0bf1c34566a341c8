use mathlib.Core.Path.{refl}
use native.Mathlib.Omega.{arith}
use Rattle.fields.specs.Numbers.{biased}
use Rattle.verdicts.specs.Test.{price_at}
use Rattle.limits.proofs.price_at.Goals as goal

pub returns : goal.returns
unfolding price_at biased
returns c = (rw c.price_bytes.ensures refl, omega arith)
