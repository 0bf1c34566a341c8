-- The verdict names the first pair that fails, and of its laminations the first.
use mathlib.Core.Path.{◌≡◌, refl}
use mathlib.Core.Bool.{Bool, true, false, cond}
use mathlib.Core.List.{List, [], ◌∷◌}
use Prim.Native.Nat.{ℕ, zero, suc, ◌+◌, ◌≤◌}
use native.Mathlib.Decide.{ℕ_discrete}
use native.Mathlib.Omega.{arith}
use Rattle.lists.specs.Lists.{done, also}
use Rattle.station.specs.Parameters.{Parameters}
use Rattle.rules.specs.Fit.{energy}
use Rattle.formulas.specs.Levels.{Line}
use Rattle.verdicts.specs.declared.Verdict.{Verdict}
use Rattle.verdicts.specs.declared.Verdict.TheVariants.{Fails}
use Rattle.verdicts.specs.Test.{fails_under, failing, quantity, price_at, before, overlap, offer_from}
use Rattle.verdicts.specs.First.{First, this, later, fails_at_line, Clear, Judged, passing, failed}

module _ (s : Parameters) (c : ℕ) (o : List ℕ) where
  -- one pair: it fails first at a line; or nowhere, and what follows counts
  data Tried (k : ℕ) (l : List Line) (rest : Verdict) : Verdict → Type 0 where
    at : (x : Line) → First (fails_at_line s c o k) l x → Tried k l rest (Fails (k + 1) x.lamination)
    nowhere : Clear s c l o k → Tried k l rest rest

  tried : (k : ℕ) (l : List Line) (rest : Verdict) → Tried k l rest
      (failing energy (overlap (before o k) (quantity o k)) (fails_under s c energy (price_at o k)) (k + 1) l rest)
  unfolding failing
  tried k [] rest = nowhere done
  tried k (x ∷ l) rest = go (fails_at_line s c o k x) refl (tried k l rest)
    where
      go : {r : Verdict} (b : Bool) → fails_at_line s c o k x ≡ b → Tried k l rest r → Tried k (x ∷ l) rest (cond b (Fails (k + 1) x.lamination) r)
      go true e t = at x (this e)
      go false e (at y f) = at y (later e f)
      go false e (nowhere f) = nowhere (also e f)

  pub offer-judged : (l : List Line) (k n : ℕ) → Judged s c l o k n (offer_from s c l o k n)
  unfolding offer_from
  offer-judged l k zero = passing (λ j a b. absurd (omega arith))
  offer-judged l k (suc n) = go (tried k l (offer_from s c l o (k + 1) n)) (offer-judged l (k + 1) n)
    where
      this-too : {j : ℕ} → Dec (j ≡ k) → Clear s c l o k → (k + 1 ≤ j → Clear s c l o j) → k ≤ j → Clear s c l o j
      this-too (yes z) f g a = rw z f
      this-too (no z) f g a = g (omega (arith, z))

      go : {r q : Verdict} → Tried k l r q → Judged s c l o (k + 1) n r → Judged s c l o k (suc n) q
      go (at x f) t = failed k x (omega arith) (omega arith) (λ i a b. absurd (omega arith)) f
      go (nowhere f) (passing g) = passing (λ j a b. this-too (ℕ_discrete j k) f (λ z. g j z (omega arith)) a)
      go (nowhere f) (failed j x a b g w) = failed j x (omega arith) (omega arith) (λ i p q. this-too (ℕ_discrete i k) f (λ z. g i z q) p) w
