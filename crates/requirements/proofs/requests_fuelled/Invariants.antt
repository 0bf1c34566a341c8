use mathlib.Core.Path.{◌≡◌}
use Prim.Native.Nat.{◌-◌}
use Rattle.lists.specs.Tests.{all_to}
use Rattle.records.specs.Dossier.{records}
use Rattle.station.specs.Parameters.{parameters}
use Rattle.requirements.specs.Segments.{fuelled}
use Rattle.requirements.proofs.requests_fuelled.Given as goal

abbrev pub invariant-loop-n : goal.invariant-loop-n
invariant-loop-n l = l.ok ≡ all_to (l.n - 1) (fuelled (parameters (records l.d)))
