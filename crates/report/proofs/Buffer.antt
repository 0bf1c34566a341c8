-- The answer to a report, and the buffer after it.
use mathlib.Core.Path.{◌≡◌, refl, ap, ap₂, ◌∙◌}
use mathlib.Core.List.{List, map}
use Prim.Native.Nat.{ℕ}
use lib.ListN.{length}
use Rattle.std.specs.Prelude.{Err}
use Rattle.records.specs.declared.Refusal.{Refusal}
use Rattle.records.specs.Answers.{Accepted, or_else, is_accepted}
use Rattle.station.specs.InForce.{Query}
use Rattle.arrays.specs.declared.HourLevels.{HourLevels}
use Rattle.lookup.specs.Parts.{parameters_held}
use Rattle.lookup.proofs.Held.{parameters-held}
use Rattle.formulas.specs.Levels.{parameters_at, profile, retired, query_answer, shown}
use Rattle.query.proofs.Asking.{Ready}
use Rattle.reference.specs.Held.{packed_held}
use Rattle.reference.proofs.AtQuery.{lines-held}
use Rattle.reference.proofs.Handed.{handed-shown, handed-profile}
use Rattle.layout.specs.Written.{Written}
use Rattle.lines.specs.Parts.{packed_report}
use Rattle.lines.proofs.Fits.{Put}
use Rattle.layout.specs.Report.{report, buffer_with, written, report_answer, buffer_after}

-- levels as code hands them over, in the profile of a query that is answered, and its payments give the dossier's report
pub packed-is : {d : List ℕ} {q : Query} {p : ℕ} {ix : List ℕ} → Ready d q p ix → {r : HourLevels} → r ≡ packed_held d ix p
    → {k : ℕ} → k ≡ retired (parameters_held d ix) p → packed_report r k ≡ report d q
unfolding packed_report report
packed-is {d} {q} {p} {ix} g {r} e {k} n =
    let paid : k ≡ retired (parameters_at d q) (profile (parameters_at d q) q.hour) = n ∙ ap₂ retired (parameters-held q g.index) g.its in
    rw (handed-shown d ix p e ∙ ap (map shown) (lines-held g), handed-profile d ix p e ∙ g.its, paid)

-- what a report of dossier d for query q tells its caller, and what it leaves of a buffer that held e
abbrev pub Told : List ℕ → Query → List ℕ → Written → List ℕ → Type 0
Told d q e w b = (w ≡ written (report_answer d q (length e)) (length (report d q))) × (b ≡ buffer_after d q e)

module _ (d : List ℕ) (q : Query) (e : List ℕ) where
  -- an accepted dossier's levels are in hand: all that is left to refuse is 15
  pub told-levels : (r : HourLevels) (k : ℕ) {w : Written} {b : List ℕ} → query_answer d q ≡ Accepted → packed_report r k ≡ report d q
      → Put (packed_report r k) e w b → Told d q e w b
  unfolding report_answer buffer_after or_else
  told-levels r k a f p = rw (a, ← f) p

  -- a refused dossier's refusal comes first
  pub told-refusal : (r : Refusal) → query_answer d q ≡ Err r → Told d q e (Err r) e
  unfolding report_answer buffer_after buffer_with written or_else is_accepted
  told-refusal r a = rw a (refl, refl)
