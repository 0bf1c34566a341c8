-- What is worked out of RS and HP, of which every query sees the same, is the same of the index at hand and of the dossier.
use Rattle.records.specs.Record.{datable}
use mathlib.Core.Path.{◌≡◌, refl}
use mathlib.Core.List.{List}
use Prim.Native.Nat.{ℕ, ◌/◌}
use Rattle.lists.specs.Tests.{count_to, among}
use Rattle.records.specs.Table.{RS, HP, table}
use Rattle.records.specs.Dossier.{records}
use Rattle.station.specs.Parameters.{parameters}
use Rattle.rules.specs.Curve.{points, full_hours}
use Rattle.lookup.specs.Parts.{Indexed, parameters_held}
use Rattle.lookup.proofs.Held.{has-always, says-always}

module _ {d ix : List ℕ} (h : Indexed d ix) where
  pub points-always : points (parameters_held d ix) ≡ points (parameters (records d))
  unfolding datable among points table
  points-always = λ j. count_to 21 (λ n. has-always h HP n refl j)

  pub full-hours-always : full_hours (parameters_held d ix) ≡ full_hours (parameters (records d))
  unfolding datable among full_hours table
  full-hours-always = λ j. says-always h RS 0 refl 6 j / says-always h RS 0 refl 1 j
