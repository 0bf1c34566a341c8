-- The claims about third-party payments are not empty: R1 with some, two dossiers that differ in their amounts alone, and two that differ in another cost.
use mathlib.Core.Path.{◌≡◌, refl, ap, ◌∙◌}
use mathlib.Core.Bool.{Bool, ◌&&◌}
use mathlib.Core.List.{List, [], ◌∷◌, map}
use Prim.Native.Nat.{ℕ}
use native.Mathlib.Omega.{arith}
use lib.Dec.{eqb}
use lib.ListN.{length, get_or}
use Rattle.lists.specs.Lists.{Pairwise, joined}
use Rattle.records.specs.Table.{AD}
use Rattle.records.specs.Record.{kind, told}
use Rattle.records.specs.Dossier.{records}
use Rattle.station.specs.InForce.{Query, query}
use Rattle.rules.specs.Answer.{IsAccepted}
use Rattle.formulas.specs.Levels.{parameters_in, profile, Line, levels, amount, shown}
use Rattle.layout.specs.Report.{report, report_text}
use Rattle.layout.proofs.Computed.{computed}
use Rattle.promise.specs.Order.{SameMeaning}
use Rattle.promise.specs.AlikeBut.{AlikeBut, BytesBut}
use Rattle.promise.specs.Withdrawn.{withdrawn, Counted}
use Rattle.promise.specs.Stations.{r1, r1_with, r1_retired, paid_with, paid}
use Rattle.promise.proofs.AlikeBut.{record-by-record, alike_test, alike_tests, alike-by}
use Rattle.promise.proofs.Withdrawn.{withdrawn-same}
use Rattle.promise.proofs.Retired.{retired-declared}

paid-accepted : IsAccepted (joined paid)
unfolding computed
paid-accepted = record { clean = refl }

-- R1's levels, and at hour 50 one payment more: two issues of a key are one
paid-counts : (report (joined paid) (query 49 1) ≡ r1_retired 50) × (report (joined paid) (query 50 1) ≡ r1_retired 51)
unfolding computed
paid-counts = (refl, refl)

-- at hour 60 profile 2 has one payment, and no other cost but fuel
paid-profile : (map amount (levels (joined paid) (query 60 1)) ≡ 4000 ∷ 250000 ∷ 50000 ∷ 0 ∷ [])
    × (report (joined paid) (query 60 1) ≡ report_text 2 (map shown (levels (joined paid) (query 60 1))) 1)
unfolding computed
paid-profile = (refl, refl)

pub paid-counted : (q : Query) → Counted (joined paid) q (profile (parameters_in (joined paid)) q.hour)
paid-counted = retired-declared (joined paid) paid-accepted

paid-keys : length (paid-counted (query 49 1)).keys ≡ 2
unfolding computed
paid-keys = (paid-counted (query 49 1)).many ∙ refl

-- ---- an amount of 0, which counts too, and another in an issue that is not current

other-accepted : IsAccepted (joined (paid_with 0 1000000000000))
unfolding computed
other-accepted = record { clean = refl }

paid-alike : Pairwise (AlikeBut withdrawn) (records (joined paid)) (records (joined (paid_with 0 1000000000000)))
unfolding withdrawn alike_test alike_tests computed
paid-alike = alike-by withdrawn (records (joined paid)) (records (joined (paid_with 0 1000000000000))) refl

paid-bytes : BytesBut withdrawn (joined paid) (joined (paid_with 0 1000000000000))
paid-bytes = record-by-record.always withdrawn (joined paid) (joined (paid_with 0 1000000000000)) paid-alike

pub paid-same : SameMeaning (joined paid) (joined (paid_with 0 1000000000000))
paid-same = withdrawn-same (joined paid) (joined (paid_with 0 1000000000000)) paid-accepted other-accepted paid-alike

-- they are not the same dossier
paid_other : joined paid ≡ joined (paid_with 0 1000000000000) → ⊥
unfolding computed
paid_other e = absurd (let z : ◌≡◌ {A = ℕ} 76 0 = ap (λ d. get_or d 144 0) e in omega arith)

-- ---- consumables, cost 3, a cent higher: of these the claim would be wrong

consumables : List ℕ → Bool
consumables r = eqb (kind r) AD && eqb (told AD 1 r) 3

dearer-alike : Pairwise (AlikeBut consumables) (records (joined r1)) (records (joined (r1_with 4000000 1510000)))
unfolding consumables alike_test alike_tests computed
dearer-alike = alike-by consumables (records (joined r1)) (records (joined (r1_with 4000000 1510000))) refl

dearer-differs : SameMeaning (joined r1) (joined (r1_with 4000000 1510000)) → ⊥
unfolding computed
dearer-differs q =
    absurd (let z : ◌≡◌ {A = ℕ} 4230 4231 = ap (λ (l : List Line). get_or (map amount l) 0 0) (q.queries (query 0 1)).levels in omega arith)
