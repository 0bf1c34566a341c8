use mathlib.Core.Path.{refl, sym, ◌∙◌}
use Rattle.records.specs.Table.{MM}
use Rattle.records.proofs.Record.{mm-size}
use Rattle.lookup.proofs.Keys.{item-key}
use Rattle.lookup.proofs.Held.{asks-body, body-found}
use Rattle.lookup.proofs.mm.Goals as goal

pub held_at-requires : goal.held_at-requires
held_at-requires c = let p = c.requires in asks-body p.0 MM _ refl (item-key _ _ p.1 p.2 p.3 p.4) c.slot_mm.ensures (sym mm-size)

pub returns : goal.returns
returns c = let p = c.requires in c.held_at.ensures.body refl ∙ body-found p.0 MM _ refl (item-key _ _ p.1 p.2 p.3 p.4) c.slot_mm.ensures (sym mm-size)
