use mathlib.Core.Path.{sym, ◌∙◌}
use Prim.Native.Nat.{ℕ}
use native.Mathlib.Omega.{arith}
use lib.ListN.{length-replicate}
use Rattle.index.specs.Slots.{narrow}
use Rattle.lookup.proofs.Held.{whole-indexed}
use Rattle.costs.proofs.Absent.{no-last-cost}
use Rattle.costs.proofs.storage.last_cost.Goals as goal

pub returns-then-fits_short : goal.returns-then-fits_short
returns-then-fits_short c = (no-last-cost _ (sym c.if-fits_short.true ∙ c.fits_short.ensures), omega arith)

pub last_cost-requires-2 : goal.last_cost-requires-2
last_cost-requires-2 c =
    let f = c.fill in
    (whole-indexed f.ensures, omega (arith, f.auto.index, length-replicate {A = ℕ} narrow 0))
