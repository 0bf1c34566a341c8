-- 20, from what the index at hand tells.
use mathlib.Core.Path.{◌≡◌, refl, ap, ◌∙◌}
use mathlib.Core.Bool.{not}
use mathlib.Core.List.{List}
use Prim.Native.Nat.{ℕ, ◌≤◌, ◌<◌}
use lib.Dec.{ltb, eqb}
use lib.ListN.{length, get_or}
use borrow.Author.Tests.{ne_eqb}
use Rattle.records.specs.Table.{FU}
use Rattle.records.specs.Answers.{refuse_if, Refused}
use Rattle.station.specs.Current.{present}
use Rattle.station.specs.Parameters.{parameters}
use Rattle.index.specs.Slots.{slot}
use Rattle.lookup.specs.Parts.{Indexed, parameters_held}
use Rattle.lookup.proofs.Keys.{fuel-key}
use Rattle.lookup.proofs.Parts.{index-tells}
use Rattle.lookup.proofs.Held.{slot-fits, some_good, current-some}
use Rattle.formulas.specs.Levels.{parameters_in, profile, fuelled}
use Rattle.query.specs.Drawn.{asked, Asked, Answered}
use Rattle.query.proofs.Requests.{profile-held}

-- the hour's profile has fuel in force exactly if its slot isn't empty
module _ (h : ℕ) {d ix : List ℕ} (i : Indexed d ix) {p : ℕ} (e : p ≡ profile (parameters_in d) h) (a : 1 ≤ p) (b : p ≤ 4) where
  pub fuel-slot : slot FU p < length ix
  fuel-slot = slot-fits i FU p refl (fuel-key p a b) refl

  fuel-tells : fuelled (parameters_held d ix) h ≡ not (eqb (get_or ix (slot FU p) 0) 0)
  unfolding fuelled parameters present
  fuel-tells =
      rw (profile-held i h, ← e)
      (ap (λ (c : List ℕ). ltb 0 (length c)) (current-some i FU p) ∙ index-tells i.index (some_good i) FU p (fuel-key p a b) fuel-slot)

  -- 20, or nothing with the profile
  abbrev told : Asked
  told = asked (refuse_if (not (fuelled (parameters_held d ix) h)) 20 0) (profile (parameters_held d ix) h)

  pub without : {j : ℕ} → j ≡ slot FU p → get_or ix j 0 ≡ 0 → Refused 20 0 ≡ told
  unfolding refuse_if asked
  without s z = rw (fuel-tells, ← s, z) refl

  pub with-fuel : {j : ℕ} → j ≡ slot FU p → (get_or ix j 0 ≡ 0 → ⊥) → Answered p ≡ told
  unfolding refuse_if asked
  with-fuel {j} s z = rw (fuel-tells, ← s, ne_eqb (get_or ix j 0) 0 z, profile-held i h, ← e) refl
