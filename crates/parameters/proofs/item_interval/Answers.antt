use Rattle.records.specs.Table.{table, row_of, field_of, MM}
use Rattle.station.specs.Parameters.{item_key}
use Rattle.station.proofs.Fields.{interval_t-at}
use Rattle.lookup.proofs.Held.{held-clean}
use Rattle.parameters.proofs.Bounds.{says-read}
use Rattle.parameters.proofs.item_interval.Goals as goal

pub returns : goal.returns
unfolding field_of row_of table
returns c =
    says-read (held-clean c.requires.0) MM (item_key c.args.p c.args.j) 4 18 4 (interval_t-at _ c.args.p c.args.j) c.u32_at.ensures
    c.mm.ensures
