use Rattle.lists.specs.Tests.{among}
use Rattle.records.specs.Record.{datable}
use mathlib.Core.Path.{refl, sym, ◌∙◌}
use Rattle.records.specs.Table.{table, row_of, field_of, RS}
use Rattle.station.proofs.Fields.{technology-at}
use Rattle.lookup.proofs.Held.{held-clean, held-always}
use Rattle.parameters.proofs.Bounds.{says-read}
use Rattle.parameters.proofs.technology.Goals as goal

pub returns : goal.returns
unfolding datable among field_of row_of table
returns c =
    says-read (held-clean c.requires) RS 0 0 6 1 (technology-at _) c.u8_at.ensures (c.rs.ensures ∙ sym (held-always c.requires RS 0 refl))
