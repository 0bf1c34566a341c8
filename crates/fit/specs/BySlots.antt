-- How code looks for 6: at the slots of the index first, which tell it of every kind but FU and MM, then at what these say. Where that leaves a
-- doubt and no record has a first hour, it goes through the records. No paper speaks of this; the laws `slots-keys`, `profiles-accepted` and
-- `values-accepted` tie it to `unfit`.
use Rattle.std.specs.Prelude.{Bool, ◌&&◌, ◌||◌, not, List, ℕ, ◌+◌, ◌*◌, ltb, eqb, length, get_or}
use Rattle.lists.specs.Tests.{all_below, all_to, every_of}
use Rattle.fields.specs.Numbers.{number}
use Rattle.records.specs.Table.{RS, FU, MM, thermal, nuclear, storage, hydro}
use Rattle.records.specs.Record.{mark, size}
use Rattle.records.specs.Dossier.{records}
use Rattle.station.specs.Current.{current}
use Rattle.index.specs.Slots.{short, narrow, slot_at, slots_empty}
use Rattle.lookup.specs.Parts.{part_at}
use Rattle.rules.specs.Fit.{fits, holds}
use Rattle.trials.specs.Trials.{value_fits}

-- ---- the slots, by mark; RQ fits every station

-- n slots are empty, every fourth from slot j on
unfoldable pub fourths_empty : List ℕ → ℕ → ℕ → Bool
fourths_empty ix j n = all_below n (λ i. eqb (get_or ix (j + 4 * i) 0) 0)

-- HP is there at a thermal station alone
abbrev pub points_fit : ℕ → List ℕ → Bool
points_fit t ix = eqb t thermal || slots_empty ix 1 21

-- the items of profile p fit
unfoldable pub items_fit : ℕ → List ℕ → ℕ → Bool
items_fit t d p = all_to 8 (λ j. fits t MM (current MM (p * 256 + j) (records d)))

-- so do FU and MM of every profile, whatever they say at a thermal station
unfoldable pub profiles_fit : ℕ → List ℕ → Bool
profiles_fit t d = eqb t thermal || all_to 4 (λ p. fits t FU (current FU p (records d)) && items_fit t d p)

-- AD and TH of level v are there only where it is held: every fourth of their slots is of the same level
unfoldable pub level_fits : ℕ → List ℕ → ℕ → Bool
level_fits t ix v = holds t v || (fourths_empty ix (25 + v) 20 && fourths_empty ix (153 + v) 3)

-- AD of cost 5, four slots in each profile, is there at a nuclear station alone
abbrev pub prorated_fit : ℕ → List ℕ → Bool
prorated_fit t ix = eqb t nuclear || all_below 4 (λ p. slots_empty ix (42 + 20 * p) 4)

-- AO of level v, of either owner, is there only where it is held
unfoldable pub own_level_fits : ℕ → List ℕ → ℕ → Bool
own_level_fits t ix v = holds t v || fourths_empty ix (333 + v) 40

-- AO of cost 5, four slots in each profile of each owner, is there at a nuclear station alone
abbrev pub own_prorated_fit : ℕ → List ℕ → Bool
own_prorated_fit t ix = eqb t nuclear || all_below 8 (λ p. slots_empty ix (350 + 20 * p) 4)

-- so AO fits; the highest slot m of a record tells at once that there is none, and else empty slots do
unfoldable pub owners_fit : ℕ → List ℕ → ℕ → Bool
owners_fit t ix m = ltb m 334 || slots_empty ix 334 160 || (all_to 4 (own_level_fits t ix) && own_prorated_fit t ix)

-- HR, CH and LC are there at storage alone; the highest slot m of a record tells at once that none is, or that CH and LC are not, else the index must have
-- their slots
abbrev pub priced_fit : ℕ → List ℕ → ℕ → Bool
priced_fit t ix m =
    ltb m 166 || eqb t storage || (slots_empty ix 166 168 && (ltb m short || (not (ltb (length ix) narrow) && slots_empty ix short 2017)))

-- every slot but those of FU and MM fits, r being the current RS, which tells `KeysFit`; FP has slots where there is an FP, and fits a hydroelectric
-- station alone
unfoldable pub slots_fit : ℕ → List ℕ → List ℕ → ℕ → Bool
slots_fit t ix r m =
    (eqb t hydro || not (ltb narrow (length ix)))
    && (fits t RS r && points_fit t ix && all_to 4 (level_fits t ix) && prorated_fit t ix && owners_fit t ix m && priced_fit t ix m)

-- what all of some records say fits, FU and MM at a thermal station whatever they say
unfoldable pub values_fit : ℕ → List (List ℕ) → Bool
values_fit t l = eqb t thermal || every_of (λ r. value_fits t (mark r) r) l

-- ---- record by record

-- the record at the front of s has the issue of the current one of its mark and key, and does not fit
unfoldable pub not_fit : List ℕ → List ℕ → List ℕ → Bool → Bool
not_fit d ix s f = eqb (number 2 4 s) (number 2 4 (part_at d ix (slot_at (mark s) s) (size (mark s)))) && not f
