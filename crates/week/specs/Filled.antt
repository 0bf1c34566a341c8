-- The lists of the week while the records are read as they lie.
use Rattle.std.specs.Prelude.{◌≡◌, cond, List, [], ◌∷◌, ◌⊎◌, ℕ, suc, ◌+◌, ◌-◌, ◌≤◌, ◌<◌, leb, ltb, ℤ, pos, length, get_or, drop}
use Rattle.lists.specs.Lists.{Each}
use Rattle.records.specs.Table.{CH}
use Rattle.records.specs.Record.{mark, size, fault}
use Rattle.records.specs.Dossier.{records}
use Rattle.station.specs.Week.{intervals, week_price, week_energy}
use Rattle.index.specs.Slots.{slot}

-- a list of the week: interval n has f n at place n - 1, and what is past the week stays as it was
pub record Stands {A : Type 0} (none : A) (f : ℕ → A) (before l : List A) : Type 0 where
  pub long : length l ≡ length before
  pub places : (i : ℕ) → get_or l i none ≡ cond (ltb i intervals) (f (suc i)) (get_or before i none)

-- x is the place of one of some records, the first of them at place p
unfoldable pub At : ℕ → ℕ → List (List ℕ) → Type 0
At x p [] = ⊥
At x p (r ∷ l) = (x ≡ p) ⊎ At x (p + size (mark r)) l

-- what interval n has once the records before place p are read: f n unless its slot names a record that is yet to come
abbrev pub read_to : {A : Type 0} → List ℕ → ℕ → A → (ℕ → A) → ℕ → A
read_to ix p none f n = cond (leb (get_or ix (slot CH n) 0) p) (f n) none

-- both lists once the records before place p are read, p being where a record lies or the dossier ends
pub record Filled (d ix : List ℕ) (prices₀ : List ℤ) (energies₀ : List ℕ) (p : ℕ) (prices : List ℤ) (energies : List ℕ) : Type 0 where
  pub priced : Stands (pos 0) (read_to ix p (pos 0) (week_price d)) prices₀ prices
  pub charged : Stands 0 (read_to ix p 0 (week_energy d)) energies₀ energies
  pub rest : Each (λ r. fault r ≡ 0) (records (drop p d))
  pub ahead : (n : ℕ) → 1 ≤ n → n ≤ intervals → p < get_or ix (slot CH n) 0 → At (get_or ix (slot CH n) 0 - 1) p (records (drop p d))
