-- The marked cases hold: one proof, by computation.
use mathlib.Core.Path.{refl}
use Rattle.lists.specs.Lists.{done, also}
use Rattle.layout.proofs.Computed.{computed}
use Rattle.promise.specs.Marked.{MarkedHold, marked}

pub marked-hold : MarkedHold
unfolding marked computed
marked-hold =
    also refl (also refl (also refl (also refl (also refl
    (also refl (also refl (also refl (also refl (also refl (also refl (also refl (also refl (also refl done)))))))))))))
