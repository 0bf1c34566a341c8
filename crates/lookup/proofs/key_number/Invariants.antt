use mathlib.Core.Path.{◌≡◌}
use Prim.Native.Nat.{◌^◌, ◌<◌}
use Rattle.fields.specs.Numbers.{number}
use Rattle.lookup.proofs.key_number.Given as goal

abbrev pub invariant-loop-byte : goal.invariant-loop-byte
invariant-loop-byte l = (l.n ≡ number 0 l.byte-index l.key) × (l.n < 256 ^ l.byte-index)
