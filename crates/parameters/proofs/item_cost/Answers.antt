use Rattle.records.specs.Table.{table, row_of, field_of, MM}
use Rattle.station.specs.Parameters.{item_key}
use Rattle.station.proofs.Fields.{cost_c-at}
use Rattle.lookup.proofs.Held.{held-clean}
use Rattle.parameters.proofs.Bounds.{amount-read}
use Rattle.parameters.proofs.item_cost.Goals as goal

pub returns : goal.returns
unfolding field_of row_of table
returns c =
    amount-read (held-clean c.requires.0) MM (item_key c.args.p c.args.j) 2 8 8 (cost_c-at _ c.args.p c.args.j) c.u64_at.ensures
    c.mm.ensures
