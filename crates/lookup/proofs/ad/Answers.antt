use mathlib.Core.Path.{refl, sym, ◌∙◌}
use Rattle.records.specs.Table.{AD}
use Rattle.records.proofs.Record.{ad-size}
use Rattle.lookup.proofs.Keys.{adder-key}
use Rattle.lookup.proofs.Held.{asks-body, body-found}
use Rattle.lookup.proofs.ad.Goals as goal

pub held_at-requires : goal.held_at-requires
held_at-requires c =
    let p = c.requires in
    asks-body p.0 AD _ refl (adder-key _ _ _ p.1 p.2 p.3 p.4 p.5 p.6) c.slot_ad.ensures (sym ad-size)

pub returns : goal.returns
returns c =
    let p = c.requires in
    c.held_at.ensures.body refl ∙ body-found p.0 AD _ refl (adder-key _ _ _ p.1 p.2 p.3 p.4 p.5 p.6) c.slot_ad.ensures (sym ad-size)
