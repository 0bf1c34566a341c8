use Rattle.records.specs.Table.{table, row_of, field_of, RQ}
use Rattle.station.proofs.Fields.{requested-at}
use Rattle.parameters.proofs.Bounds.{clean, says-read}
use Rattle.parameters.proofs.requested.Goals as goal

pub returns : goal.returns
unfolding field_of row_of table
returns c =
    says-read (clean c.requires.0) RQ c.args.n 3 15 1 (requested-at _ c.args.n) c.u8_at.ensures c.rq.ensures
