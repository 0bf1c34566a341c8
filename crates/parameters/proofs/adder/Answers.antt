use Prim.Native.Nat.{◌+◌, ◌*◌}
use Rattle.records.specs.Table.{table, row_of, field_of, AD}
use Rattle.station.proofs.Fields.{adder-at}
use Rattle.lookup.proofs.Held.{held-clean}
use Rattle.parameters.proofs.Bounds.{amount-read}
use Rattle.parameters.proofs.adder.Goals as goal

pub returns : goal.returns
unfolding field_of row_of table
returns c =
    amount-read (held-clean c.requires.0) AD (c.args.p * 65536 + c.args.c * 256 + c.args.v) 3 9 8 (adder-at _ c.args.p c.args.c c.args.v)
    c.u64_at.ensures c.ad.ensures
