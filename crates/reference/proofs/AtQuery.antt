-- From the levels of the index at hand to those of the dossier for a query.
use mathlib.Core.Path.{◌≡◌, refl, ap, ap₂, ◌∙◌}
use mathlib.Core.List.{List}
use Prim.Native.Nat.{ℕ}
use Rattle.std.specs.Prelude.{Ok, Err}
use Rattle.records.specs.declared.Refusal.{Refusal}
use Rattle.records.specs.Answers.{Accepted}
use Rattle.station.specs.InForce.{Query}
use Rattle.station.specs.Parameters.{Parameters, Amounts, technology}
use Rattle.lookup.proofs.Held.{parameters-held, amounts-held}
use Rattle.formulas.specs.Levels.{parameters_at, query_answer, Line, lines_of, lines, levels}
use Rattle.formulas.proofs.Hours.{hour-parts, levels-fuelled}
use Rattle.arrays.specs.declared.HourLevels.{HourLevels}
use Rattle.arrays.specs.Packed.{packed, packed_at}
use Rattle.query.proofs.Asking.{Ready}
use Rattle.reference.specs.Held.{lines_held, packed_held}
use Rattle.reference.specs.Answer.{with_levels, levels_answer}

-- where a query is answered, in its profile
module _ {d : List ℕ} {q : Query} {p : ℕ} {ix : List ℕ} (g : Ready d q p ix) where
  pub lines-held : lines_held d ix p ≡ levels d q
  unfolding lines
  lines-held =
      ap₂ (λ (s : Parameters) (m : Amounts). lines_of s m p) (parameters-held q g.index) (amounts-held q g.index)
      ∙ rw (levels-fuelled d q (hour-parts d q g.drawn).2, ← g.its) refl

  pub packed-held : {r : HourLevels} → r ≡ packed_held d ix p → r ≡ packed_at d q
  packed-held e =
      e
      ∙ ap₂ (λ (s : Parameters) (l : List Line). packed (technology s) p l) (parameters-held q g.index) lines-held
      ∙ ap (λ (x : ℕ). packed (technology (parameters_at d q)) x (levels d q)) g.its

-- the levels, or the refusal
pub levels-accepted : (d : List ℕ) (q : Query) {l : HourLevels} → query_answer d q ≡ Accepted → l ≡ packed_at d q → Ok l ≡ levels_answer d q
unfolding levels_answer with_levels
levels-accepted d q e f = rw (e, f) refl

pub levels-refused : (d : List ℕ) (q : Query) {r : Refusal} → query_answer d q ≡ Err r → Err r ≡ levels_answer d q
unfolding levels_answer with_levels
levels-refused d q e = rw e refl
