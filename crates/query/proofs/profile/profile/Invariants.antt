use mathlib.Core.Path.{◌≡◌}
use Rattle.records.specs.Dossier.{records}
use Rattle.station.specs.Parameters.{parameters}
use Rattle.formulas.specs.Levels.{profile_of, profile}
use Rattle.query.proofs.profile.profile.Given as goal

-- requests 1 to n decide
abbrev pub invariant-loop-n : goal.invariant-loop-n
invariant-loop-n l = profile_of (parameters (records l.d)) l.hour l.n ≡ profile (parameters (records l.d)) l.hour
