use Rattle.records.specs.Table.{table, row_of, field_of, FU}
use Rattle.station.proofs.Fields.{fuel-at}
use Rattle.lookup.proofs.Held.{held-clean}
use Rattle.parameters.proofs.Bounds.{amount-read}
use Rattle.parameters.proofs.fuel.Goals as goal

pub returns : goal.returns
unfolding field_of row_of table
returns c =
    amount-read (held-clean c.requires.0) FU c.args.p 1 7 4 (fuel-at _ c.args.p) c.u32_at.ensures c.fu.ensures
