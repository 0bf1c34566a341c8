use Rattle.records.specs.Table.{TH}
use Rattle.station.specs.Parameters.{threshold_key}
use Rattle.station.proofs.Fields.{floor-at}
use Rattle.parameters.proofs.Bounds.{clean, says-read}
use Rattle.parameters.proofs.floor.Goals as goal

pub returns : goal.returns
returns c =
    (says-read (clean c.requires.0) TH (threshold_key c.args.c c.args.v) 4 14 4
    (floor-at _ c.args.c c.args.v) c.u32_at.ensures c.th.ensures).0
