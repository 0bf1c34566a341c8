use Rattle.lists.specs.Tests.{among}
use Rattle.records.specs.Record.{datable}
use mathlib.Core.Path.{refl, sym, ◌∙◌}
use Rattle.records.specs.Table.{table, row_of, field_of, RS}
use Rattle.station.proofs.Fields.{factor-at}
use Rattle.lookup.proofs.Held.{held-clean, held-always}
use Rattle.parameters.proofs.Bounds.{says-read}
use Rattle.parameters.proofs.factor.Goals as goal

pub returns : goal.returns
unfolding datable among field_of row_of table
returns c =
    says-read (held-clean c.requires) RS 0 2 9 2 (factor-at _) c.u16_at.ensures (c.rs.ensures ∙ sym (held-always c.requires RS 0 refl))
