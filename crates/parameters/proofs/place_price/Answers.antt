use Rattle.records.specs.Table.{FP}
use Rattle.station.proofs.Fields.{place_price-at}
use Rattle.parameters.proofs.Bounds.{clean, price-read}
use Rattle.parameters.proofs.place_price.Goals as goal

pub returns : goal.returns
returns c =
    (price-read (clean c.requires.0) FP c.args.n 1 8 (place_price-at _ c.args.n) c.biased.ensures c.u32_at.ensures
    c.fp.ensures).0
