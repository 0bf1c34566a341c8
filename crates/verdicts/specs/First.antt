-- The test of an offer, declared: it passes if no pair fails in any lamination that it overlaps; or else the first pair that does is
-- named, and of its laminations the first. The law `offer-judged` says that `offer_from` answers this.
use Rattle.std.specs.Prelude.{◌≡◌, Bool, true, false, ◌&&◌, List, ◌∷◌, ℕ, ◌+◌, ◌≤◌, ◌<◌, eqb}
use Rattle.lists.specs.Lists.{Each}
use Rattle.station.specs.Parameters.{Parameters}
use Rattle.rules.specs.Fit.{energy}
use Rattle.formulas.specs.Levels.{Line, amount}
use Rattle.verdicts.specs.declared.Verdict.{Verdict}
use Rattle.verdicts.specs.declared.Verdict.TheVariants.{Passes, Fails}
use Rattle.verdicts.specs.Test.{fails_under, quantity, price_at, before, overlap}

-- x is the first of some lines that a test holds of
pub data First (P : Line → Bool) : List Line → Line → Type 0 where
  this : {x : Line} {l : List Line} → P x ≡ true → First P (x ∷ l) x
  later : {x y : Line} {l : List Line} → P y ≡ false → First P l x → First P (y ∷ l) x

-- pair k of an offer, counted from 0, fails in the lamination of line x
abbrev pub fails_at_line : Parameters → ℕ → List ℕ → ℕ → Line → Bool
fails_at_line s c o k x = eqb x.level energy && overlap (before o k) (quantity o k) x.from x.to && fails_under s c energy (price_at o k) (amount x)

-- it fails in none
abbrev pub Clear : Parameters → ℕ → List Line → List ℕ → ℕ → Type 0
Clear s c l o k = Each (λ x. fails_at_line s c o k x ≡ false) l

-- n pairs from pair k on, and the verdict on them
pub data Judged (s : Parameters) (c : ℕ) (l : List Line) (o : List ℕ) (k n : ℕ) : Verdict → Type 0 where
  passing : ((j : ℕ) → k ≤ j → j < k + n → Clear s c l o j) → Judged s c l o k n Passes
  failed : (j : ℕ) (x : Line) → k ≤ j → j < k + n → ((i : ℕ) → k ≤ i → i < j → Clear s c l o i) → First (fails_at_line s c o j) l x
      → Judged s c l o k n (Fails (j + 1) x.lamination)
