use Rattle.lists.specs.Tests.{among}
use Rattle.records.specs.Record.{datable}
use mathlib.Core.Path.{refl, sym, ◌∙◌}
use Rattle.records.specs.Table.{HR, table}
use Rattle.station.proofs.Fields.{hour_price-at}
use Rattle.lookup.proofs.Held.{held-clean, held-always}
use Rattle.parameters.proofs.Bounds.{price-read}
use Rattle.parameters.proofs.hour_price.Goals as goal

pub returns : goal.returns
unfolding datable among table
returns c =
    (price-read (held-clean c.requires.0) HR c.args.n 1 7 (hour_price-at _ c.args.n) c.biased.ensures c.u32_at.ensures
    (c.hr.ensures ∙ sym (held-always c.requires.0 HR c.args.n refl))).0
