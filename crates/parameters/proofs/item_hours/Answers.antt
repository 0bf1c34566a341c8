use Rattle.records.specs.Table.{table, row_of, field_of, MM}
use Rattle.station.specs.Parameters.{item_key}
use Rattle.station.proofs.Fields.{hours_per_start_s-at}
use Rattle.lookup.proofs.Held.{held-clean}
use Rattle.parameters.proofs.Bounds.{says-read}
use Rattle.parameters.proofs.item_hours.Goals as goal

pub returns : goal.returns
unfolding field_of row_of table
returns c =
    says-read (held-clean c.requires.0) MM (item_key c.args.p c.args.j) 5 22 2 (hours_per_start_s-at _ c.args.p c.args.j) c.u16_at.ensures
    c.mm.ensures
