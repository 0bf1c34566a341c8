-- "From records to levels": the profile at an hour, the formulas, the levels at an hour.
use Rattle.std.specs.Prelude.{◌≡◌, Bool, cond, ◌&&◌, not, List, [], ◌∷◌, ℕ, zero, suc, ◌+◌, ◌*◌, ◌-◌, ◌/◌, ◌≤◌, leb, eqb}
use Rattle.records.specs.Table.{thermal, nuclear, storage, hydro, FU, AD, RQ, AO}
use Rattle.records.specs.Answers.{Answer, or_else, refuse_if}
use Rattle.records.specs.Dossier.{records}
use Rattle.station.specs.InForce.{Query, in_force}
use Rattle.station.specs.Parameters.{Parameters, Amounts, parameters, amounts, technology, capacity, factor, start_heat, no_load_heat, incremental_fuel}
use Rattle.station.specs.Parameters.{efficiency, window, output, heat, fuel, emission, adder_key, adder, cost_c, output_w, interval_t, hours_per_start_s}
use Rattle.station.specs.Parameters.{first_hour, last_hour, requested, hour_price, charge_price, charge_energy, place_price, last_cost, own_key, own_adder}
use Rattle.rules.specs.Fit.{energy, start, no_load, reserve}
use Rattle.rules.specs.Curve.{points, rise, full_hours}
use Rattle.rules.specs.Answer.{answer}
use Rattle.lists.specs.Sums.{sum_to}
use Rattle.lists.specs.Tests.{between}
use Rattle.formulas.specs.Sums.{list_to, sum_highest, from_top}
use Rattle.formulas.specs.Exact.{Sum, whole, share, ◌⊕◌, total, per_thousand, greater, micro_dollars, exact, cents, Close}

-- ---- what a dossier's current records say

-- those of any hour, without money
abbrev pub parameters_in : List ℕ → Parameters
parameters_in d = parameters (records d)

-- the money
abbrev pub amounts_in : List ℕ → Amounts
amounts_in d = amounts (records d)

-- those in force for a query, without money: "At an hour, the highest issue whose first hour has come counts."
abbrev pub parameters_at : List ℕ → Query → Parameters
parameters_at d q = parameters (in_force q (records d))

-- the money
abbrev pub amounts_at : List ℕ → Query → Amounts
amounts_at d q = amounts (in_force q (records d))

-- ---- the profile at an hour

-- a current request that isn't withdrawn and covers the hour, "ends included"
unfoldable pub covers : Parameters → ℕ → ℕ → Bool
covers s h n = s.has RQ n && not (eqb (requested s n) 0) && leb (first_hour s n) h && leb h (last_hour s n)

-- of requests 1 to n that cover it "the highest request number; with none, profile 1"
unfoldable pub profile_of : Parameters → ℕ → ℕ → ℕ
profile_of s h zero = 1
profile_of s h (suc n) = let r = profile_of s h n in cond (covers s h (suc n)) (requested s (suc n)) r

-- "profile choice": of all 16
unfoldable pub profile : Parameters → ℕ → ℕ
profile s h = profile_of s h 16

-- ---- what a query draws

-- one of the two owners: "an owner byte, 1 or 2"
abbrev pub IsOwner : ℕ → Type 0
IsOwner o = (1 ≤ o) × (o ≤ 2)

-- "a query with any other is 3 at place 0": another owner than 1 or 2
unfoldable pub owner_refusal : ℕ → Answer
owner_refusal o = refuse_if (not (between 1 2 o)) 3 0

-- not "the hour's profile has no fuel in force"
unfoldable pub fuelled : Parameters → ℕ → Bool
fuelled s h = s.has FU (profile s h)

-- what a query draws before anything is asked of its levels: the owner's refusal first; the dossier's own; or 20, "tried after 17, at place 0"
unfoldable pub query_answer : List ℕ → Query → Answer
query_answer d q =
    or_else (owner_refusal q.owner)
    (or_else (answer d)
    (refuse_if (not (fuelled (parameters_at d q) q.hour)) 20 0))

-- ---- the formulas, of a profile p

-- "Third-party payments withdrawn": the cost of an AD whose amounts "no longer join any level"
abbrev pub third_party : ℕ
third_party = 4

-- "that owner's AO to the common amounts": of a cost and level AD's amount and AO's of either owner, of whom the one that is asked for is in force
abbrev pub common_and_own : Amounts → ℕ → ℕ → ℕ → ℕ
common_and_own m p c v = adder m p c v + own_adder m 1 p c v + own_adder m 2 p c v

-- "AD amounts join their level": the five costs of level v, third-party payments aside; "The exact level also omits them."
unfoldable pub adders : Amounts → ℕ → ℕ → Sum
adders m p v = whole (sum_to 5 (λ c. cond (eqb c third_party) 0 (common_and_own m p c v)))

-- 1 where there is a record of a kind and key, else 0
abbrev pub one_if : Parameters → ℕ → ℕ → ℕ
one_if s k n = cond (s.has k n) 1 0

-- "the cost-4 records in force at that hour for its profile", of which a level has one AD and one AO at most; amounts of 0 count too
unfoldable pub retired : Parameters → ℕ → ℕ
retired s p = sum_to 4 (λ v. one_if s AD (adder_key p third_party v) + one_if s AO (own_key 1 p third_party v) + one_if s AO (own_key 2 p third_party v))

-- "Each MM adds C × 100,000 / (W × T) to energy"
unfoldable pub maintenance : Parameters → Amounts → ℕ → Sum
maintenance s m p = total 8 (λ j. share (cost_c m p j * 100000) (output_w s p j * interval_t s p j))

-- what AD and MM add to an energy level
unfoldable pub additions : Parameters → Amounts → ℕ → Sum
additions s m p = adders m p energy ⊕ maintenance s m p

-- "and C × S × 1,000 / T to start"
unfoldable pub start_maintenance : Parameters → Amounts → ℕ → Sum
start_maintenance s m p = total 8 (λ j. share (cost_c m p j * hours_per_start_s s p j * 1000) (interval_t s p j))

-- "Thermal lamination i, points i to i+1, rises dH and dW: dH × fuel × factor / (100,000 × dW) plus dH × emission / (100 × dW)"
unfoldable pub thermal_energy : Parameters → Amounts → ℕ → ℕ → Sum
thermal_energy s m p i =
    share (rise (heat s) i * fuel m p * factor s) (100000 * rise (output s) i)
    ⊕ share (rise (heat s) i * emission m p) (100 * rise (output s) i)
    ⊕ additions s m p

-- "heat × fuel × factor / 1,000,000 plus heat × emission / 1,000"
unfoldable pub heat_cost : Parameters → Amounts → ℕ → ℕ → Sum
heat_cost s m p h = share (h * fuel m p * factor s) 1000000 ⊕ share (h * emission m p) 1000

-- the start: its heat's cost, its adders and maintenance
unfoldable pub start_cost : Parameters → Amounts → ℕ → Sum
start_cost s m p = heat_cost s m p (start_heat s) ⊕ adders m p start ⊕ start_maintenance s m p

-- "no-load the same with its heat"
unfoldable pub no_load_cost : Parameters → Amounts → ℕ → Sum
no_load_cost s m p = heat_cost s m p (no_load_heat s) ⊕ adders m p no_load

-- "incremental fuel × fuel × factor / 10^9"
unfoldable pub nuclear_energy : Parameters → Amounts → ℕ → Sum
nuclear_energy s m p = share (incremental_fuel s * fuel m p * factor s) 1000000000 ⊕ additions s m p

-- over all intervals
unfoldable pub total_energy : Parameters → ℕ
total_energy s = sum_to 2016 (charge_energy s)

-- "sum of price × energy over intervals, 0 if below 0": prices are held plus 2^31, which the difference takes off again, and it stops at 0
unfoldable pub charging_sum : Parameters → Amounts → ℕ
charging_sum s m = sum_to 2016 (λ n. charge_price m n * charge_energy s n) - 2147483648 * total_energy s

-- "× 10,000 / total energy"; LC "is used when total energy is 0; without LC the cost stays 0"
unfoldable pub charging_cost : Parameters → Amounts → Sum
charging_cost s m = cond (eqb (total_energy s) 0) (whole (last_cost m)) (share (charging_sum s m * 10000) (total_energy s))

-- "(charging cost + fuel) × 1,000 / efficiency, plus AD and MM"
unfoldable pub short_run_cost : Parameters → Amounts → ℕ → Sum
short_run_cost s m p = per_thousand (charging_cost s m ⊕ whole (fuel m p)) (efficiency s) ⊕ additions s m p

-- "the X highest of hours 1 to the window, repeated prices counted each", "their sum, 0 if below 0"
unfoldable pub highest_sum : Parameters → Amounts → ℕ
highest_sum s m = sum_highest (full_hours s) (list_to (window s) (hour_price m)) - 2147483648 * full_hours s

-- "× 10,000 / X"
unfoldable pub opportunity_cost : Parameters → Amounts → Sum
opportunity_cost s m = share (highest_sum s m * 10000) (full_hours s)

-- "Storage, one lamination"; "The greater is taken."
unfoldable pub storage_energy : Parameters → Amounts → ℕ → Sum
storage_energy s m p = greater (short_run_cost s m p) (opportunity_cost s m)

-- "the place from the top" is "the window divided by 50, fraction dropped, in the exact level too", "as the 58th highest of 2,928"; "request 1's place still
-- drop theirs"
unfoldable pub forecast_place : Parameters → ℕ
forecast_place s = window s / 50

-- "the greater of 0 and that price", "among places 1 to the window with repeated prices counted each"
unfoldable pub forecast_price : Parameters → Amounts → ℕ
forecast_price s m = from_top (forecast_place s) (list_to (window s) (place_price m)) - 2147483648

-- "Energy is the greater of 0 and that price, plus AD and MM, in one lamination": cents in micro-dollars
unfoldable pub hydro_energy : Parameters → Amounts → ℕ → Sum
hydro_energy s m p = whole (forecast_price s m * 10000) ⊕ additions s m p

-- ---- the levels

-- one level at an hour: its number, its lamination, from where to where in 0.1 MW (all 0 where it has none), its formula
pub record Line : Type 0 where
  pub level : ℕ
  pub lamination : ℕ
  pub from : ℕ
  pub to : ℕ
  pub sum : Sum

-- a line of these, in the order of `Line`
abbrev pub line : ℕ → ℕ → ℕ → ℕ → Sum → Line
line v i a b x = record { level = v; lamination = i; from = a; to = b; sum = x }

-- the level itself, in cents
abbrev pub amount : Line → ℕ
amount x = cents (micro_dollars x.sum)

-- lamination i, points i to i+1; "The first lamination reaches down to 0 MW"
abbrev pub lamination : Parameters → Amounts → ℕ → ℕ → Line
lamination s m p i = line energy i (cond (eqb i 1) 0 (output s i)) (output s (i + 1)) (thermal_energy s m p i)

-- n laminations from lamination i on, then the other levels
unfoldable pub laminations : Parameters → Amounts → ℕ → ℕ → ℕ → List Line → List Line
laminations s m p i zero others = others
laminations s m p i (suc n) others = lamination s m p i ∷ laminations s m p (i + 1) n others

-- "where a technology has one lamination, it runs from 0 to the capacity"
unfoldable pub one_lamination : Parameters → Sum → Line
one_lamination s x = line energy 1 0 (capacity s) x

-- a level without laminations
unfoldable pub single : ℕ → Sum → Line
single v x = line v 0 0 0 x

-- "energy, start-up, speed no-load and reserve levels" of a profile, by technology
unfoldable pub lines_of : Parameters → Amounts → ℕ → List Line
lines_of s m p =
    cond (eqb (technology s) thermal)
    (laminations s m p 1 (points s - 1) (single start (start_cost s m p) ∷ single no_load (no_load_cost s m p) ∷ single reserve (adders m p reserve) ∷ []))
    (cond (eqb (technology s) nuclear)
    (one_lamination s (nuclear_energy s m p) ∷ [])
    (cond (eqb (technology s) storage)
    (one_lamination s (storage_energy s m p) ∷ single reserve (adders m p reserve) ∷ [])
    (cond (eqb (technology s) hydro)
    (one_lamination s (hydro_energy s m p) ∷ single reserve (adders m p reserve) ∷ [])
    [])))

-- at an hour: "FU, AD and MM are current ones of the hour's profile"
unfoldable pub lines : Parameters → Amounts → ℕ → List Line
lines s m h = lines_of s m (profile s h)

-- the levels of a dossier for a query; "an hour without fuel in force has no level"
unfoldable pub levels : List ℕ → Query → List Line
levels d q = cond (fuelled (parameters_at d q) q.hour) (lines (parameters_at d q) (amounts_at d q) q.hour) []

-- ---- what a line shows

-- a line without its formula
pub record Shown : Type 0 where
  pub level : ℕ
  pub lamination : ℕ
  pub from : ℕ
  pub to : ℕ
  pub cents : ℕ

-- these at once, in the order of `Shown`
abbrev pub shown_as : ℕ → ℕ → ℕ → ℕ → ℕ → Shown
shown_as v i a b x = record { level = v; lamination = i; from = a; to = b; cents = x }

-- what a line shows
abbrev pub shown : Line → Shown
shown x = shown_as x.level x.lamination x.from x.to (amount x)

-- ---- levels side by side

-- "kind for kind and lamination for lamination", and no lower
pub record NoLower (a b : Line) : Type 0 where
  pub level : a.level ≡ b.level
  pub lamination : a.lamination ≡ b.lamination
  pub from : a.from ≡ b.from
  pub to : a.to ≡ b.to
  pub amount : amount a ≤ amount b

-- a level beside its exact level, "for every technology"; "the promised distances hold here too"
abbrev pub CloseLine : Line → Type 0
CloseLine x = Close (amount x) (exact x.sum)
