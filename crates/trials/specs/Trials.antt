-- How code tries a record: its length, and whether it fits the technology. No paper speaks of this.
use Rattle.std.specs.Prelude.{◌≡◌, Bool, true, false, ◌||◌, not, List, ℕ, eqb}
use Rattle.records.specs.Table.{FU, MM}
use Rattle.lists.specs.Lists.{Each}
use Rattle.records.specs.Record.{mark, kind_of, size}
use Rattle.station.specs.InForce.{counts}
use Rattle.rules.specs.Fit.{fits}
use Rattle.trials.specs.declared.Tried.{Tried}

-- a record's length, and whether it fits
abbrev pub tried : ℕ → Bool → Tried
tried n b = record { len = n; fits = b }

-- of a record of mark k at the front of s
abbrev pub tried_as : ℕ → ℕ → List ℕ → Tried
tried_as t k s = tried (size k) (fits t k s)

-- ---- what a record says, apart from its mark and key

-- of FU and MM, with a first hour or without, it is asked; of any other kind but RS, mark and key tell whether a record fits
unfoldable pub valued : ℕ → Bool
valued k = eqb (kind_of k) FU || eqb (kind_of k) MM

-- what a record of mark k at the front of s says fits, where it is asked
unfoldable pub value_fits : ℕ → ℕ → List ℕ → Bool
value_fits t k s = not (valued k) || fits t k s

-- of some records each that counts fits, FU and MM aside
abbrev pub KeysFit : ℕ → List (List ℕ) → Type 0
KeysFit t l = Each (λ r. counts l r ≡ true → valued (mark r) ≡ false → fits t (mark r) r ≡ true) l
