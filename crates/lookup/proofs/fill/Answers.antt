use mathlib.Core.Path.{refl}
use Rattle.index.proofs.HeldSums.{held-empty}
use Rattle.lookup.proofs.Opening.{pass-filled}
use Rattle.lookup.proofs.fill.Goals as goal

pub pass-requires : goal.pass-requires
pass-requires c =
    let p = c.requires in
    (p.1, refl, held-empty _ _ _ p.0.1 refl)

pub returns : goal.returns
returns c =
    let p = c.requires in
    (pass-filled _ _ p.0.1 p.0.0 p.1 p.2 c.pass.ensures.1).0
