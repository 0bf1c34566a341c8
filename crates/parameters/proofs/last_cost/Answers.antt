use Rattle.records.specs.Table.{table, row_of, field_of, LC}
use Rattle.station.proofs.Fields.{last_cost-at}
use Rattle.parameters.proofs.Bounds.{clean, amount-read}
use Rattle.parameters.proofs.last_cost.Goals as goal

pub returns : goal.returns
unfolding field_of row_of table
returns c =
    amount-read (clean c.requires.0) LC 0 0 6 4 (last_cost-at _) c.u32_at.ensures c.lc.ensures
