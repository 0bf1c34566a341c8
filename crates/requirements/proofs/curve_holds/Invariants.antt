use Prim.Native.Nat.{◌≤◌}
use Rattle.records.specs.Dossier.{records}
use Rattle.station.specs.Parameters.{parameters}
use Rattle.requirements.proofs.Curve.{Along}
use Rattle.requirements.proofs.curve_holds.Given as goal

-- the last rises are no more than an output and a heat, so that slopes multiplied across fit 64 bits
abbrev pub invariant-loop-i : goal.invariant-loop-i
invariant-loop-i l =
    (l.dw ≤ 20000) × (l.dh ≤ 20000000) × Along (parameters (records l.d)) l.i l.ok l.w l.h l.dw l.dh
