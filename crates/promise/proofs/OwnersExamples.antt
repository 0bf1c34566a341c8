-- The claims about owners are not empty: R1 with two owners, dossiers that differ in one owner's amounts alone, a raise of such an amount, and R1 itself,
-- which names no owner.
use mathlib.Core.Path.{◌≡◌, refl, ap, ◌∙◌}
use mathlib.Core.List.{List, [], ◌∷◌, map}
use Prim.Native.Nat.{ℕ}
use native.Mathlib.Omega.{arith}
use lib.ListN.{length, get_or}
use Rattle.lists.specs.Lists.{done, also, Pairwise, joined}
use Rattle.records.specs.Answers.{Accepted, Refused}
use Rattle.records.specs.Table.{thermal}
use Rattle.records.specs.Dossier.{records}
use Rattle.records.proofs.RaiseTest.{rise_test, record_test, records_test, raise_test, raise-by}
use Rattle.station.specs.InForce.{Query, query}
use Rattle.rules.specs.Answer.{IsAccepted}
use Rattle.formulas.specs.Levels.{parameters_in, profile, query_answer, Line, levels, amount, shown}
use Rattle.layout.specs.Report.{report, report_text, prints}
use Rattle.layout.proofs.Computed.{computed}
use Rattle.promise.specs.Demand.{Raise, RaiseKeeps}
use Rattle.promise.specs.Order.{SameAt, SameMeaning}
use Rattle.promise.specs.Dated.{AsBefore}
use Rattle.promise.specs.AlikeBut.{AlikeBut, BytesBut}
use Rattle.promise.specs.Withdrawn.{withdrawn, Counted}
use Rattle.promise.specs.Owners.{of_other, Common}
use Rattle.promise.specs.Stations.{r1, shared_with, shared}
use Rattle.promise.proofs.Demand.{demand3}
use Rattle.promise.proofs.Order.{arrival-order}
use Rattle.promise.proofs.Dated.{old-marks}
use Rattle.promise.proofs.AlikeBut.{record-by-record, alike_test, alike_tests, alike-by}
use Rattle.promise.proofs.Withdrawn.{withdrawn-same}
use Rattle.promise.proofs.Retired.{retired-declared}
use Rattle.promise.proofs.Owners.{others-costs, same-to-both}
use Rattle.promise.proofs.Examples.{turned, turned-permuted}

shared-accepted : IsAccepted (joined shared)
unfolding computed
shared-accepted = record { clean = refl }

-- R1's levels, with 0.10 more for owner 1 and 0.70 more for owner 2
shared-levels : (map amount (levels (joined shared) (query 0 1)) ≡ 4240 ∷ 330000 ∷ 50000 ∷ 25 ∷ [])
    × (map amount (levels (joined shared) (query 0 2)) ≡ 4300 ∷ 330000 ∷ 50000 ∷ 25 ∷ [])
unfolding computed
shared-levels = (refl, refl)

-- owner 2 has a third-party payment, and owner 1 has none
shared-reports : (report (joined shared) (query 0 1) ≡ report_text 1 (map shown (levels (joined shared) (query 0 1))) 0)
    × (report (joined shared) (query 0 2) ≡ report_text 1 (map shown (levels (joined shared) (query 0 2))) 1)
unfolding computed
shared-reports = (refl, refl)

-- "the program names owner 1"
shared-prints : prints (0 ∷ 0 ∷ 0 ∷ 0 ∷ joined shared) ≡ report (joined shared) (query 0 1)
unfolding computed
shared-prints = refl

pub shared-counted : (q : Query) → Counted (joined shared) q (profile (parameters_in (joined shared)) q.hour)
shared-counted = retired-declared (joined shared) shared-accepted

shared-keys : (length (shared-counted (query 0 1)).keys ≡ 0) × (length (shared-counted (query 0 2)).keys ≡ 1)
unfolding computed
shared-keys = ((shared-counted (query 0 1)).many ∙ refl, (shared-counted (query 0 2)).many ∙ refl)

pub shared-turned : SameMeaning (joined shared) (joined (turned shared))
unfolding computed
shared-turned =
    arrival-order (joined shared) (joined (turned shared)) shared-accepted (record { order = turned shared; same = turned-permuted shared; made = refl })

-- it has no first hours, so that for each owner the records that speak to it are in force at every hour
pub shared-as-before : AsBefore (joined shared)
unfolding computed
shared-as-before =
    old-marks (joined shared) shared-accepted
    (also refl (also refl (also refl (also refl (also refl (also refl (also refl (also refl (also refl (also refl (also refl done)))))))))))

-- "a query with any other is 3 at place 0", of no dossier at all too
shared-drawn : (map (λ o. query_answer (joined shared) (query 0 o)) (0 ∷ 1 ∷ 2 ∷ 3 ∷ []) ≡ (Refused 3 0 ∷ Accepted ∷ Accepted ∷ Refused 3 0 ∷ []))
    × (query_answer [] (query 0 3) ≡ Refused 3 0)
unfolding computed
shared-drawn = (refl, refl)

-- ---- owner 2's amounts, of the current issue 0.90 and of the payment 0: nothing changes for owner 1

abbrev second : List (List ℕ)
second = shared_with 100000 900000 0

second-accepted : IsAccepted (joined second)
unfolding computed
second-accepted = record { clean = refl }

second_alike : Pairwise (AlikeBut (of_other 1)) (records (joined shared)) (records (joined second))
unfolding of_other alike_test alike_tests computed
second_alike = alike-by (of_other 1) (records (joined shared)) (records (joined second)) refl

second-bytes : BytesBut (of_other 1) (joined shared) (joined second)
second-bytes = record-by-record.always (of_other 1) (joined shared) (joined second) second_alike

pub second-same : (h : ℕ) → SameAt (joined shared) (joined second) (query h 1)
second-same h = (others-costs (joined shared) (joined second) shared-accepted second-accepted (query h 1) second_alike).1

-- owner 2 sees another level, so that they are not the same dossier
second-sees : map amount (levels (joined second) (query 0 2)) ≡ 4320 ∷ 330000 ∷ 50000 ∷ 25 ∷ []
unfolding computed
second-sees = refl

second-differs : SameAt (joined shared) (joined second) (query 0 2) → ⊥
unfolding computed
second-differs q = absurd (let z : ◌≡◌ {A = ℕ} 4300 4320 = ap (λ (l : List Line). get_or (map amount l) 0 0) q.levels in omega arith)

second-other : joined shared ≡ joined second → ⊥
unfolding computed
second-other e = absurd (let z : ◌≡◌ {A = ℕ} 4300 4320 = ap (λ d. get_or (map amount (levels d (query 0 2))) 0 0) e in omega arith)

-- ---- owner 1's amount, 0.30: nothing changes for owner 2

abbrev first : List (List ℕ)
first = shared_with 300000 700000 5000000

first-accepted : IsAccepted (joined first)
unfolding computed
first-accepted = record { clean = refl }

first_alike : Pairwise (AlikeBut (of_other 2)) (records (joined shared)) (records (joined first))
unfolding of_other alike_test alike_tests computed
first_alike = alike-by (of_other 2) (records (joined shared)) (records (joined first)) refl

pub first-same : (h : ℕ) → SameAt (joined shared) (joined first) (query h 2)
first-same h = (others-costs (joined shared) (joined first) shared-accepted first-accepted (query h 2) first_alike).1

first-sees : map amount (levels (joined first) (query 0 1)) ≡ 4260 ∷ 330000 ∷ 50000 ∷ 25 ∷ []
unfolding computed
first-sees = refl

-- ---- "its amounts may be raised as AD's are": owner 2's by a cent, from 0.70 to 0.71

raised-raise : Raise (joined shared) (joined (shared_with 100000 710000 5000000))
unfolding rise_test record_test records_test raise_test computed
raised-raise = raise-by thermal (joined shared) (joined (shared_with 100000 710000 5000000)) refl

pub raised_keeps : RaiseKeeps (joined shared) (joined (shared_with 100000 710000 5000000))
raised_keeps = demand3.raise (joined shared) (joined (shared_with 100000 710000 5000000)) shared-accepted raised-raise

-- its level rises by a cent, and owner 1's stays
raised-levels : (map amount (levels (joined (shared_with 100000 710000 5000000)) (query 0 1)) ≡ 4240 ∷ 330000 ∷ 50000 ∷ 25 ∷ [])
    × (map amount (levels (joined (shared_with 100000 710000 5000000)) (query 0 2)) ≡ 4301 ∷ 330000 ∷ 50000 ∷ 25 ∷ [])
unfolding computed
raised-levels = (refl, refl)

-- ---- an owner's third-party payment of another amount changes nothing for either owner

pub payment-same : SameMeaning (joined shared) (joined (shared_with 100000 700000 6000000))
unfolding withdrawn alike_test alike_tests computed
payment-same =
    withdrawn-same (joined shared) (joined (shared_with 100000 700000 6000000)) shared-accepted (record { clean = refl })
    (alike-by withdrawn (records (joined shared)) (records (joined (shared_with 100000 700000 6000000))) refl)

-- ---- R1 names no owner

pub r1-both : Common (joined r1)
unfolding computed
r1-both = same-to-both (joined r1) (also refl (also refl (also refl (also refl (also refl (also refl (also refl done)))))))
