-- Third-party payments withdrawn: the levels take no amount of cost 4, so amounts that are the same without them give the same levels.
use mathlib.Core.Path.{◌≡◌, refl, ap, sym, ◌∙◌}
use mathlib.Core.Bool.{Bool, true, false, cond, ◌&&◌, ◌||◌}
use mathlib.Core.List.{List, ◌∷◌}
use Prim.Native.Nat.{ℕ, zero, suc, ◌+◌, ◌-◌, ◌/◌, ◌%◌, ◌<◌}
use native.Mathlib.Omega.{arith}
use lib.Dec.{eqb}
use Rattle.lists.specs.Sums.{sum_to}
use Rattle.records.specs.Table.{AD, AO}
use Rattle.station.specs.Parameters.{Parameters, Amounts, adder_key, own_key}
use Rattle.rules.specs.Curve.{points}
use Rattle.rules.specs.Fit.{energy, start, no_load, reserve}
use Rattle.formulas.specs.Levels.{profile, third_party, adders, maintenance, additions, start_maintenance, thermal_energy, heat_cost, start_cost}
use Rattle.formulas.specs.Levels.{no_load_cost, nuclear_energy, charging_sum, charging_cost, short_run_cost, highest_sum, opportunity_cost, storage_energy}
use Rattle.formulas.specs.Levels.{forecast_price, hydro_energy, Line, lamination, laminations, lines_of, lines}

-- the cost in the key of an AD or an AO
abbrev pub cost_in : ℕ → ℕ
cost_in n = n / 256 % 256

-- the amounts without third-party payments
pub claimed : Amounts → Amounts
claimed m = record { of = λ k n i. cond ((eqb k AD || eqb k AO) && eqb (cost_in n) third_party) 0 (m.of k n i) }

-- amounts are the same without them, if all others are
pub claimed-same : {m n : Amounts} → ((k i j : ℕ) → (eqb k AD || eqb k AO) && eqb (cost_in i) third_party ≡ false → m.of k i j ≡ n.of k i j)
    → claimed m ≡ claimed n
unfolding claimed
claimed-same {m} {n} same = λ t. record { of = λ k i j. others k i j t }
  where
    go : (b : Bool) (x y : ℕ) → (b ≡ false → x ≡ y) → cond b 0 x ≡ cond b 0 y
    go true x y f = refl
    go false x y f = f refl

    others : (k i j : ℕ) → (claimed m).of k i j ≡ (claimed n).of k i j
    others k i j = go ((eqb k AD || eqb k AO) && eqb (cost_in i) third_party) (m.of k i j) (n.of k i j) (same k i j)

pub cost-in : (p c v : ℕ) → c < 256 → v < 256 → cost_in (adder_key p c v) ≡ c
cost-in p c v h g = omega arith

pub own-cost-in : (o p c v : ℕ) → c < 256 → v < 256 → cost_in (own_key o p c v) ≡ c
own-cost-in o p c v h g = omega arith

module _ (s : Parameters) (m : Amounts) (p : ℕ) where
  adders-claimed : (v : ℕ) → v < 256 → adders m p v ≡ adders (claimed m) p v
  unfolding adders sum_to claimed
  adders-claimed v h =
      rw (
        cost-in p 1 v (omega arith) h,
        own-cost-in 1 p 1 v (omega arith) h,
        own-cost-in 2 p 1 v (omega arith) h,
        cost-in p 2 v (omega arith) h,
        own-cost-in 1 p 2 v (omega arith) h,
        own-cost-in 2 p 2 v (omega arith) h,
        cost-in p 3 v (omega arith) h,
        own-cost-in 1 p 3 v (omega arith) h,
        own-cost-in 2 p 3 v (omega arith) h,
        cost-in p 5 v (omega arith) h,
        own-cost-in 1 p 5 v (omega arith) h,
        own-cost-in 2 p 5 v (omega arith) h,
      ) refl

  additions-claimed : additions s m p ≡ additions s (claimed m) p
  unfolding additions maintenance claimed
  additions-claimed = rw (adders-claimed energy (omega arith)) refl

  thermal-claimed : (i : ℕ) → lamination s m p i ≡ lamination s (claimed m) p i
  unfolding thermal_energy claimed
  thermal-claimed i = rw additions-claimed refl

  start-claimed : start_cost s m p ≡ start_cost s (claimed m) p
  unfolding start_cost heat_cost start_maintenance claimed
  start-claimed = rw (adders-claimed start (omega arith)) refl

  no_load-claimed : no_load_cost s m p ≡ no_load_cost s (claimed m) p
  unfolding no_load_cost heat_cost claimed
  no_load-claimed = rw (adders-claimed no_load (omega arith)) refl

  nuclear-claimed : nuclear_energy s m p ≡ nuclear_energy s (claimed m) p
  unfolding nuclear_energy claimed
  nuclear-claimed = rw additions-claimed refl

  storage-claimed : storage_energy s m p ≡ storage_energy s (claimed m) p
  unfolding storage_energy short_run_cost charging_cost charging_sum opportunity_cost highest_sum claimed
  storage-claimed = rw additions-claimed refl

  hydro-claimed : hydro_energy s m p ≡ hydro_energy s (claimed m) p
  unfolding hydro_energy forecast_price claimed
  hydro-claimed = rw additions-claimed refl

  laminations-claimed : (n i : ℕ) (l : List Line) → laminations s m p i n l ≡ laminations s (claimed m) p i n l
  unfolding laminations
  laminations-claimed zero i l = refl
  laminations-claimed (suc n) i l = rw (thermal-claimed i) (ap (λ (k : List Line). lamination s (claimed m) p i ∷ k) (laminations-claimed n (i + 1) l))

  lines_of-claimed : lines_of s m p ≡ lines_of s (claimed m) p
  unfolding lines_of
  lines_of-claimed =
      rw (
        start-claimed,
        no_load-claimed,
        adders-claimed reserve (omega arith),
        nuclear-claimed,
        storage-claimed,
        hydro-claimed,
        laminations-claimed (points s - 1) 1 _,
      ) refl

-- no level takes an amount of cost 4
pub lines-claimed : (s : Parameters) (m : Amounts) (h : ℕ) → lines s m h ≡ lines s (claimed m) h
unfolding lines
lines-claimed s m h = lines_of-claimed s m (profile s h)

-- amounts that are the same without them give the same levels
pub lines_same : (s : Parameters) (m n : Amounts) → claimed m ≡ claimed n → (h : ℕ) → lines s m h ≡ lines s n h
lines_same s m n e h = lines-claimed s m h ∙ ap (λ (a : Amounts). lines s a h) e ∙ sym (lines-claimed s n h)
