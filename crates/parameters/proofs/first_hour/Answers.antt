use Rattle.records.specs.Table.{RQ}
use Rattle.station.proofs.Fields.{first_hour-at}
use Rattle.parameters.proofs.Bounds.{clean, says-read}
use Rattle.parameters.proofs.first_hour.Goals as goal

pub returns : goal.returns
returns c =
    (says-read (clean c.requires.0) RQ c.args.n 1 7 4 (first_hour-at _ c.args.n) c.u32_at.ensures c.rq.ensures).0
