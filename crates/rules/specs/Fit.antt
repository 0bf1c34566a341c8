-- 6: what a technology may have, and the first record that counts at some hour and that it may not.
use Rattle.std.specs.Prelude.{Bool, true, cond, ◌&&◌, ◌||◌, not, List, [], ◌∷◌, ℕ, ◌≤◌, ltb, eqb, length}
use Rattle.lists.specs.Tests.{all_below, among}
use Rattle.records.specs.Table.{Field, row_of, field_of, thermal, nuclear, storage, hydro, AD, TH, AO}
use Rattle.records.specs.Record.{mark, kind_of, value}
use Rattle.records.specs.Answers.{Answer, refuse_if}
use Rattle.records.specs.Dossier.{first_drawn}
use Rattle.station.specs.InForce.{counts}

-- ---- the levels by number

-- "level (1): 1 energy"
abbrev pub energy : ℕ
energy = 1

-- "2 start"
abbrev pub start : ℕ
start = 2

-- "3 no-load"
abbrev pub no_load : ℕ
no_load = 3

-- "4 reserve"
abbrev pub reserve : ℕ
reserve = 4

-- ---- what a technology may have

-- one of the four technologies
abbrev pub Known : ℕ → Type 0
Known t = (1 ≤ t) × (t ≤ 4)

-- "Thermal has all four levels, nuclear level 1 only, storage 1 and 4"; of hydroelectric "levels 1 and 4 are held"
unfoldable pub levels_of : ℕ → List ℕ
levels_of t =
    cond (eqb t thermal) (energy ∷ start ∷ no_load ∷ reserve ∷ [])
    (cond (eqb t nuclear) (energy ∷ [])
    (cond (eqb t storage || eqb t hydro) (energy ∷ reserve ∷ [])
    []))

-- whether a technology holds a level
unfoldable pub holds : ℕ → ℕ → Bool
holds t v = among v (levels_of t)

-- "Thermal uses performance factor and both heats; nuclear performance factor and incremental fuel; storage charge, efficiency and window. Other such RS
-- fields are 0; used ones are above 0, except the heats"; "other RS fields are 0 as before"; "Emission is 0 unless thermal"; "S is 0 unless thermal"
unfoldable pub field_fits : ℕ → Field → ℕ → Bool
field_fits t f x = cond (among t f.used_by) (not f.positive || ltb 0 x) (eqb x 0)

-- an adder of a cost and level: its level is held; "Cost 5 is nuclear and level 1"
abbrev pub adder_fits : ℕ → ℕ → ℕ → Bool
adder_fits t c v = holds t v && (not (eqb c 5) || (eqb t nuclear && eqb v energy))

-- the level is held: "storage 1 and 4, for AD and TH alike", "levels 1 and 4 are held, for AD and TH alike"; of AV as of AD, and "AO, 18 bytes, is AD with an
-- owner byte", whoever the owner
unfoldable pub rule_fits : ℕ → ℕ → List ℕ → Bool
rule_fits t k r =
    cond (eqb (kind_of k) AD) (adder_fits t (value k 1 r) (value k 2 r))
    (cond (eqb k AO) (adder_fits t (value AO 2 r) (value AO 3 r))
    (cond (eqb k TH) (holds t (value TH 1 r)) true))

-- a record of mark k fits technology t: "HP is thermal only; HR and CH storage only"; "an FP at another technology is 6"; "LC is a storage record"; its
-- fields and its level
unfoldable pub fits : ℕ → ℕ → List ℕ → Bool
fits t k r =
    among t (row_of k).technologies && (all_below (length (row_of k).fields) (λ i. field_fits t (field_of k i) (value k i r)) && rule_fits t k r)

-- "6 current record unfit for the technology", at the start of the "first in the dossier" that is; "6 is tried on every record that counts at some hour"
unfoldable pub unfit : ℕ → List (List ℕ) → Answer
unfit t l = first_drawn (λ p r. refuse_if (counts l r && not (fits t (mark r) r)) 6 p) 0 l
