use Rattle.lists.specs.Tests.{among}
use Rattle.records.specs.Record.{datable}
use mathlib.Core.Path.{refl, sym, ◌∙◌}
use Rattle.records.specs.Table.{table, row_of, field_of, HP}
use Rattle.station.proofs.Fields.{heat-at}
use Rattle.lookup.proofs.Held.{held-clean, held-always}
use Rattle.parameters.proofs.Bounds.{says-read}
use Rattle.parameters.proofs.heat.Goals as goal

pub returns : goal.returns
unfolding datable among field_of row_of table
returns c =
    says-read (held-clean c.requires.0) HP c.args.i 2 9 4 (heat-at _ c.args.i) c.u32_at.ensures
    (c.hp.ensures ∙ sym (held-always c.requires.0 HP c.args.i refl))
