-- The claims are not empty where costs have first hours: R1 with dated fuel, at hours before and after, and with no fuel until hour 10.
use mathlib.Core.Path.{◌≡◌, refl, sym, ◌∙◌}
use mathlib.Core.Bool.{true, false}
use mathlib.Core.List.{[], ◌∷◌, ◌++◌, map}
use Prim.Native.Nat.{◌<◌}
use Rattle.lists.specs.Lists.{done, also, joined}
use Rattle.records.specs.Answers.{Accepted, Refused}
use Rattle.records.specs.Table.{thermal, FV}
use Rattle.records.specs.Made.{made_from}
use Rattle.records.proofs.RaiseTest.{rise_test, record_test, records_test, raise_test, raise-by}
use Rattle.station.specs.Current.{lookup_bytes}
use Rattle.station.specs.InForce.{counts, Query, query}
use Rattle.rules.specs.Answer.{answer, IsAccepted}
use Rattle.formulas.specs.Levels.{query_answer, levels, amount}
use Rattle.layout.specs.Report.{prints}
use Rattle.layout.proofs.Computed.{computed}
use Rattle.promise.specs.Demand.{Raise, RaiseKeeps}
use Rattle.promise.specs.Order.{SameAt, SameMeaning}
use Rattle.promise.specs.Dated.{AsBefore}
use Rattle.promise.specs.Stations.{r1, dearer, r1_dearer, dated_with, dated_fuel, unfit_until, late_with, late_fuel}
use Rattle.promise.proofs.Demand.{demand3}
use Rattle.promise.proofs.Order.{arrival-order}
use Rattle.promise.proofs.Dated.{not_yet, old-marks}
use Rattle.promise.proofs.Examples.{r1-accepted, behind, turned, turned-permuted}

-- ---- fuel of three issues

dated-accepted : IsAccepted (joined dated_fuel)
unfolding computed
dated-accepted = record { clean = refl }

-- 4.00 counts until hour 99, and 6.00 comes into force at hour 100
dated-comes : (map amount (levels (joined dated_fuel) (query 0 1)) ≡ 4230 ∷ 330000 ∷ 50000 ∷ 25 ∷ [])
    × (map amount (levels (joined dated_fuel) (query 99 1)) ≡ 4230 ∷ 330000 ∷ 50000 ∷ 25 ∷ [])
    × (map amount (levels (joined dated_fuel) (query 100 1)) ≡ 5830 ∷ 430000 ∷ 70000 ∷ 25 ∷ [])
unfolding computed
dated-comes = (refl, refl, refl)

-- at hour 200 it counts still: a higher issue of an earlier first hour hides the lower one, which counts at no hour
dated-hides : (map amount (levels (joined dated_fuel) (query 200 1)) ≡ 5830 ∷ 430000 ∷ 70000 ∷ 25 ∷ [])
    × (map (counts dated_fuel) dated_fuel ≡ true ∷ true ∷ true ∷ true ∷ false ∷ true ∷ true ∷ true ∷ true ∷ [])
unfolding computed
dated-hides = (refl, refl)

-- the key is shared: an FV is a twin of an FU, whatever its first hour
dated-twin : answer (joined (r1 ++ (made_from FV 1 7 (1 ∷ 4000000 ∷ 1000000 ∷ []) ∷ []))) ≡ Refused 4 130
unfolding computed
dated-twin = refl

-- and the lookup gives the highest issue under either mark
dated-looked : (lookup_bytes (joined dated_fuel) (70 ∷ 85 ∷ []) (1 ∷ []) ≡ made_from FV 3 100 (1 ∷ 6000000 ∷ 1000000 ∷ []))
    × (lookup_bytes (joined dated_fuel) (70 ∷ 86 ∷ []) (1 ∷ []) ≡ made_from FV 3 100 (1 ∷ 6000000 ∷ 1000000 ∷ []))
unfolding computed
dated-looked = (refl, refl)

-- 6.10 from hour 100 on
dated-raise : Raise (joined dated_fuel) (joined (dated_with 6100000))
unfolding rise_test record_test records_test raise_test computed
dated-raise = raise-by thermal (joined dated_fuel) (joined (dated_with 6100000)) refl

pub dated-keeps : RaiseKeeps (joined dated_fuel) (joined (dated_with 6100000))
dated-keeps = demand3.raise (joined dated_fuel) (joined (dated_with 6100000)) dated-accepted dated-raise

pub dated-turned : SameMeaning (joined dated_fuel) (joined (turned dated_fuel))
unfolding computed
dated-turned =
    arrival-order (joined dated_fuel) (joined (turned dated_fuel)) dated-accepted
    (record { order = turned dated_fuel; same = turned-permuted dated_fuel; made = refl })

-- ---- R1, and R1 with a fuel from hour 100 on: the same until hour 99, and another level then

dearer-accepted : IsAccepted (joined r1_dearer)
unfolding computed
dearer-accepted = record { clean = refl }

pub dearer-not-yet : (q : Query) → q.hour < 100 → SameAt (joined r1) (joined r1_dearer) q
unfolding computed
dearer-not-yet q p = not_yet (joined r1) (joined r1_dearer) (dearer ∷ []) r1-accepted dearer-accepted (behind dearer r1) q (also {a = dearer} p done)

dearer-then : (map amount (levels (joined r1_dearer) (query 99 1)) ≡ 4230 ∷ 330000 ∷ 50000 ∷ 25 ∷ [])
    × (map amount (levels (joined r1_dearer) (query 100 1)) ≡ 5830 ∷ 430000 ∷ 70000 ∷ 25 ∷ [])
unfolding computed
dearer-then = (refl, refl)

-- R1 itself has no first hour
pub r1-as-before : AsBefore (joined r1)
unfolding computed
r1-as-before = old-marks (joined r1) r1-accepted (also refl (also refl (also refl (also refl (also refl (also refl (also refl done)))))))

-- ---- a battery whose fuel of issue 1 has an emission price, which draws 6 if it counts at some hour

unfit-hidden : (answer (joined (unfit_until 0)) ≡ Accepted) × (answer (joined (unfit_until 1)) ≡ Refused 6 31)
unfolding computed
unfit-hidden = (refl, refl)

-- ---- no fuel before hour 10

-- 8 is met by an FV of any hour
late-accepted : IsAccepted (joined late_fuel)
unfolding computed
late-accepted = record { clean = refl }

late-before : (query_answer (joined late_fuel) (query 9 1) ≡ Refused 20 0) × (levels (joined late_fuel) (query 9 1) ≡ [])
    × (query_answer (joined late_fuel) (query 10 1) ≡ Accepted)
    × (map amount (levels (joined late_fuel) (query 10 1)) ≡ 4230 ∷ 330000 ∷ 50000 ∷ 25 ∷ [])
unfolding computed
late-before = (refl, refl, refl, refl)

-- 4.10 from hour 10 on
late-raise : Raise (joined late_fuel) (joined (late_with 4100000))
unfolding rise_test record_test records_test raise_test computed
late-raise = raise-by thermal (joined late_fuel) (joined (late_with 4100000)) refl

pub late-keeps : RaiseKeeps (joined late_fuel) (joined (late_with 4100000))
late-keeps = demand3.raise (joined late_fuel) (joined (late_with 4100000)) late-accepted late-raise

-- "an hour without fuel in force has no level before or after the raise"
late-after : query_answer (joined (late_with 4100000)) (query 9 1) ≡ Refused 20 0
late-after = sym (late-keeps.drawn (query 9 1)) ∙ late-before.0

-- the program prints `refused 20 at 0`
late-prints : prints (0 ∷ 0 ∷ 0 ∷ 9 ∷ joined late_fuel) ≡ 114 ∷ 101 ∷ 102 ∷ 117 ∷ 115 ∷ 101 ∷ 100 ∷ 32 ∷ 50 ∷ 48 ∷ 32 ∷ 97 ∷ 116 ∷ 32 ∷ 48 ∷ 10 ∷ []
unfolding computed
late-prints = refl
