-- What levels in arrays show, as `profile_levels` hands them over.
use mathlib.Core.Path.{◌≡◌, ap, sym, subst, ◌∙◌}
use mathlib.Core.List.{List, map}
use Prim.Native.Nat.{ℕ, ◌≤◌}
use Rattle.lookup.specs.Parts.{parameters_held, amounts_held}
use Rattle.station.specs.Parameters.{technology}
use Rattle.formulas.specs.Levels.{shown}
use Rattle.arrays.specs.declared.HourLevels.{HourLevels}
use Rattle.arrays.specs.Packed.{unpacked, packed}
use Rattle.arrays.proofs.Packed.{unpacked-levels, count-levels}
use Rattle.reference.specs.Held.{lines_held, packed_held}

module _ (d ix : List ℕ) (p : ℕ) {r : HourLevels} (e : r ≡ packed_held d ix p) where
  -- each line and no other
  pub handed-shown : unpacked r ≡ map shown (lines_held d ix p)
  handed-shown = ap unpacked e ∙ unpacked-levels (parameters_held d ix) (amounts_held d ix) p

  -- no more laminations than places
  pub handed-count : r.count ≤ 20
  handed-count =
      subst (λ (x : HourLevels). x.count ≤ 20) (sym e) (count-levels (parameters_held d ix) (amounts_held d ix) p (technology (parameters_held d ix)))

  pub handed-profile : r.profile ≡ p
  unfolding packed
  handed-profile = ap (λ (x : HourLevels). x.profile) e
