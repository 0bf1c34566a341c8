use Rattle.records.specs.Table.{TH}
use Rattle.station.specs.Parameters.{threshold_key}
use Rattle.station.proofs.Fields.{percent-at}
use Rattle.parameters.proofs.Bounds.{clean, says-read}
use Rattle.parameters.proofs.percent.Goals as goal

pub returns : goal.returns
returns c =
    (says-read (clean c.requires.0) TH (threshold_key c.args.c c.args.v) 2 8 2
    (percent-at _ c.args.c c.args.v) c.u16_at.ensures c.th.ensures).0
