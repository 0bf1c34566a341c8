use mathlib.Core.Path.{refl, sym, ◌∙◌}
use Rattle.records.specs.Table.{FU}
use Rattle.records.proofs.Record.{fu-size}
use Rattle.lookup.proofs.Keys.{fuel-key}
use Rattle.lookup.proofs.Held.{asks-body, body-found}
use Rattle.lookup.proofs.fu.Goals as goal

pub held_at-requires : goal.held_at-requires
held_at-requires c = let p = c.requires in asks-body p.0 FU _ refl (fuel-key _ p.1 p.2) c.slot_fu.ensures (sym fu-size)

pub returns : goal.returns
returns c = let p = c.requires in c.held_at.ensures.body refl ∙ body-found p.0 FU _ refl (fuel-key _ p.1 p.2) c.slot_fu.ensures (sym fu-size)
