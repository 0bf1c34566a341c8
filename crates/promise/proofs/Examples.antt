-- The claims are not empty: R1, a station on a river, an idle battery and one that charged are accepted, there is a real raise of each, and their records in
-- another order are a reordering.
use mathlib.Core.Path.{◌≡◌, refl}
use mathlib.Core.List.{List, [], ◌∷◌, ◌++◌}
use Prim.Native.Nat.{ℕ}
use lib.IntN.{pos, negsuc}
use Rattle.lists.specs.Lists.{Permutation, empty, keep, swap, then, joined}
use Rattle.records.specs.Table.{thermal, storage, hydro, LC}
use Rattle.records.specs.Answers.{Accepted, number_of, Refused}
use Rattle.records.specs.Made.{minus, made}
use Rattle.records.proofs.RaiseTest.{rise_test, record_test, records_test, raise_test, raise-by}
use Rattle.station.specs.Week.{week_price, week_energy}
use Rattle.rules.specs.Answer.{answer, IsAccepted}
use Rattle.rules.specs.Week.{week_answer}
use Rattle.formulas.specs.Levels.{charging_cost, storage_energy, hydro_energy}
use Rattle.layout.proofs.Computed.{computed}
use Rattle.promise.specs.Demand.{Raise, RaiseKeeps}
use Rattle.promise.specs.Order.{SameMeaning}
use Rattle.promise.specs.Week.{LookedUp}
use Rattle.promise.specs.Stations.{r1, r1_raised, forecast, river_with, river, idle_with, idle, week_with, week}
use Rattle.promise.specs.Marked.{in_cents}
use Rattle.promise.proofs.Demand.{demand3}
use Rattle.promise.proofs.Order.{arrival-order}
use Rattle.promise.proofs.Week.{week-looked-up}

pub r1-accepted : IsAccepted (joined r1)
unfolding computed
r1-accepted = record { clean = refl }

r1-raise : Raise (joined r1) (joined r1_raised)
unfolding rise_test record_test records_test raise_test computed
r1-raise = raise-by thermal (joined r1) (joined r1_raised) refl

pub r1-keeps : RaiseKeeps (joined r1) (joined r1_raised)
r1-keeps = demand3.raise (joined r1) (joined r1_raised) r1-accepted r1-raise

-- an element behind the others
pub behind : {A : Type 0} (a : A) (l : List A) → Permutation (a ∷ l) (l ++ (a ∷ []))
behind a [] = keep a empty
behind a (b ∷ l) = then (swap a b l) (keep b (behind a l))

-- the first record of some behind the others
unfoldable pub turned : List (List ℕ) → List (List ℕ)
turned [] = []
turned (r ∷ l) = l ++ (r ∷ [])

pub turned-permuted : (l : List (List ℕ)) → Permutation l (turned l)
unfolding turned
turned-permuted [] = empty
turned-permuted (r ∷ l) = behind r l

-- its RS behind all other records
pub r1-turned : SameMeaning (joined r1) (joined (turned r1))
unfolding computed
r1-turned = arrival-order (joined r1) (joined (turned r1)) r1-accepted (record { order = turned r1; same = turned-permuted r1; made = refl })

-- ---- a station on a river

river-accepted : IsAccepted (joined river)
unfolding forecast computed
river-accepted = record { clean = refl }

-- its highest price, 50.00, and the consumables
river-level : in_cents (λ s m. hydro_energy s m 1) river ≡ 5025 ∷ []
unfolding forecast computed
river-level = refl

-- with place 50 missing it draws 17
river-short : number_of (answer (joined (river_with 0 49))) ≡ 17
unfolding forecast computed
river-short = refl

-- every price a cent dearer
river-raise : Raise (joined river) (joined (river_with 1 50))
unfolding forecast rise_test record_test records_test raise_test computed
river-raise = raise-by hydro (joined river) (joined (river_with 1 50)) refl

pub river-keeps : RaiseKeeps (joined river) (joined (river_with 1 50))
river-keeps = demand3.raise (joined river) (joined (river_with 1 50)) river-accepted river-raise

pub river-turned : SameMeaning (joined river) (joined (turned river))
unfolding forecast computed
river-turned =
    arrival-order (joined river) (joined (turned river)) river-accepted (record { order = turned river; same = turned-permuted river; made = refl })

-- ---- an idle battery

idle-accepted : IsAccepted (joined idle)
unfolding computed
idle-accepted = record { clean = refl }

-- (1.25 + 0.75) / 0.8, as in M8's week
idle-level : in_cents (λ s m. storage_energy s m 1) idle ≡ 250 ∷ []
unfolding computed
idle-level = refl

-- an LC at R1, even one of 0, draws 6
idle-thermal : number_of (answer (joined (r1 ++ (made LC 7 (0 ∷ []) ∷ [])))) ≡ 6
unfolding computed
idle-thermal = refl

-- a last cost of 1.26
idle-raise : Raise (joined idle) (joined (idle_with 1260000))
unfolding rise_test record_test records_test raise_test computed
idle-raise = raise-by storage (joined idle) (joined (idle_with 1260000)) refl

pub idle-keeps : RaiseKeeps (joined idle) (joined (idle_with 1260000))
idle-keeps = demand3.raise (joined idle) (joined (idle_with 1260000)) idle-accepted idle-raise

pub idle-turned : SameMeaning (joined idle) (joined (turned idle))
unfolding computed
idle-turned = arrival-order (joined idle) (joined (turned idle)) idle-accepted (record { order = turned idle; same = turned-permuted idle; made = refl })

-- ---- a battery that charged

week-accepted : IsAccepted (joined week)
unfolding computed
week-accepted = record { clean = refl }

-- the first interval, the second, which has no record, the one before the last and the last, whose older issue lies later
week-told-prices : (week_price (joined week) 1 ≡ pos 2000) × (week_price (joined week) 2 ≡ pos 0) × (week_price (joined week) 2015 ≡ pos 0)
    × (week_price (joined week) 2016 ≡ negsuc 499)
unfolding computed
week-told-prices = (refl, refl, refl, refl)

week-told-energies : (week_energy (joined week) 1 ≡ 1000) × (week_energy (joined week) 2 ≡ 0) × (week_energy (joined week) 2015 ≡ 0)
    × (week_energy (joined week) 2016 ≡ 3000)
unfolding computed
week-told-energies = (refl, refl, refl, refl)

-- lists of 2,016 places are enough, and one that is a place shorter is too few
week-answers : (week_answer (joined week) 2016 2016 ≡ Accepted) × (week_answer (joined week) 2015 2016 ≡ Refused 15 0)
    × (week_answer (joined week) 2016 2015 ≡ Refused 15 0)
unfolding computed
week-answers = (refl, refl, refl)

-- M8's 1.25, and (1.25 + 0.75) / 0.8
week-level : (in_cents charging_cost week ≡ 125 ∷ []) × (in_cents (λ s m. storage_energy s m 1) week ≡ 250 ∷ [])
unfolding computed
week-level = (refl, refl)

pub week-by-key : LookedUp (joined week)
week-by-key = week-looked-up (joined week) week-accepted

-- interval 2,016 at -4.00
week-raise : Raise (joined week) (joined (week_with (minus 400)))
unfolding rise_test record_test records_test raise_test computed
week-raise = raise-by storage (joined week) (joined (week_with (minus 400))) refl

pub week-keeps : RaiseKeeps (joined week) (joined (week_with (minus 400)))
week-keeps = demand3.raise (joined week) (joined (week_with (minus 400))) week-accepted week-raise

pub week-turned : SameMeaning (joined week) (joined (turned week))
unfolding computed
week-turned = arrival-order (joined week) (joined (turned week)) week-accepted (record { order = turned week; same = turned-permuted week; made = refl })
