use mathlib.Core.Path.{◌≡◌}
use Prim.Native.Nat.{◌<◌, ◌^◌}
use Rattle.fields.specs.Numbers.{number}
use Rattle.fit.proofs.key_at.Given as goal

abbrev pub invariant-loop-i : goal.invariant-loop-i
invariant-loop-i l = (l.key ≡ number 6 l.i l.s) × (l.key < 256 ^ l.i)
