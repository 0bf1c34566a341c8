use mathlib.Core.Path.{◌≡◌, ap, ◌∙◌}
use mathlib.Core.List.{List}
use Prim.Native.Nat.{ℕ, ◌+◌, ◌*◌}
use native.Mathlib.Omega.{arith}
use Rattle.records.specs.Table.{table, row_of, field_of, AO}
use Rattle.station.specs.Current.{current}
use Rattle.station.specs.Parameters.{own_key}
use Rattle.station.proofs.Fields.{own_adder-at}
use Rattle.lookup.proofs.Held.{held-clean}
use Rattle.parameters.proofs.Bounds.{amount-read}
use Rattle.parameters.proofs.own_adder.Goals as goal

by-fields : (o p c v : ℕ) (l : List (List ℕ)) → current AO (o * 16777216 + p * 65536 + c * 256 + v) l ≡ current AO (own_key o p c v) l
by-fields o p c v l = ap (λ (n : ℕ). current AO n l) (omega arith)

pub returns : goal.returns
unfolding field_of row_of table
returns c =
    amount-read (held-clean c.requires.0) AO (own_key c.args.o c.args.p c.args.c c.args.v) 4 10 8
    (own_adder-at _ c.args.o c.args.p c.args.c c.args.v) c.u64_at.ensures
    (c.ao.ensures ∙ by-fields c.args.o c.args.p c.args.c c.args.v _)
