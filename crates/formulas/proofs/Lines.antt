-- The levels: none falls when no amount does, and each is close to the exact one.
use mathlib.Core.Path.{◌≡◌, refl}
use mathlib.Core.Bool.{Bool, true, false, cond}
use mathlib.Core.List.{List, []}
use Prim.Native.Nat.{ℕ, zero, suc, ◌+◌, ◌*◌, ◌≤◌}
use native.Mathlib.Nat.{mul-le-mul_left, mul-le-mul_right, max-le}
use native.Mathlib.Omega.{arith}
use lib.Dec.{eqb, lit≤}
use borrow.Author.Tests.{eqb-true}
use Rattle.lists.specs.Lists.{Pairwise, none, more, Each, done, also}
use Rattle.lists.proofs.Tests.{cond-holds, cond-relates}
use Rattle.records.specs.Table.{FU, AD, MM, HR, CH, FP, LC, AO}
use Rattle.station.specs.Parameters.{Parameters, Amounts, Higher, technology, efficiency, window, charge_energy, charge_price, last_cost}
use Rattle.station.specs.Parameters.{adder_key, item_key, own_key}
use Rattle.rules.specs.Curve.{full_hours}
use Rattle.lists.specs.Sums.{sum_to}
use Rattle.formulas.specs.Exact.{Sum, whole, share}
use Rattle.formulas.specs.Levels.{profile, third_party, common_and_own, adders, maintenance, additions, start_maintenance, thermal_energy, heat_cost}
use Rattle.formulas.specs.Levels.{start_cost, no_load_cost}
use Rattle.formulas.specs.Levels.{nuclear_energy, total_energy, charging_sum, charging_cost, short_run_cost, highest_sum, opportunity_cost, storage_energy}
use Rattle.formulas.specs.Levels.{forecast_place, forecast_price, hydro_energy, Line, line, NoLower, CloseLine, laminations, one_lamination, single}
use Rattle.formulas.specs.Levels.{lines_of, lines}
use Rattle.lists.proofs.Sums.{sum_to-mono}
use Rattle.formulas.proofs.Sums.{list_to-mono, sum_highest-mono, from_top-mono}
use Rattle.formulas.proofs.Exact.{Below, wholes, shares, both, totals, per_thousands, greaters, micro_dollars-mono, cents-mono, divisions, Efficient}
use Rattle.formulas.proofs.Exact.{close}

-- ---- each formula, part by part

module _ (s : Parameters) {m n : Amounts} (h : Higher m n) (p : ℕ) where
  adders-below : (v : ℕ) → Below (adders m p v) (adders n p v)
  unfolding adders
  adders-below v =
      wholes (sum_to-mono 5 (λ c. cond-relates ◌≤◌ (eqb c third_party) 0 (common_and_own m p c v) 0 (common_and_own n p c v) (omega arith) (omega (
        arith,
        h AD (adder_key p c v) 3,
        h AO (own_key 1 p c v) 4,
        h AO (own_key 2 p c v) 4,
      ))))

  maintenance-below : Below (maintenance s m p) (maintenance s n p)
  unfolding maintenance
  maintenance-below = totals (λ j. shares (mul-le-mul_right 100000 (h MM (item_key p j) 2)))

  additions-below : Below (additions s m p) (additions s n p)
  unfolding additions
  additions-below = both (adders-below 1) maintenance-below

  start_maintenance-below : Below (start_maintenance s m p) (start_maintenance s n p)
  unfolding start_maintenance
  start_maintenance-below = totals (λ j. shares (mul-le-mul_right 1000 (mul-le-mul_right _ (h MM (item_key p j) 2))))

  thermal-below : (i : ℕ) → Below (thermal_energy s m p i) (thermal_energy s n p i)
  unfolding thermal_energy
  thermal-below i =
      both (both (shares (mul-le-mul_right _ (mul-le-mul_left _ (h FU p 1)))) (shares (mul-le-mul_left _ (h FU p 2)))) additions-below

  heat-below : (x : ℕ) → Below (heat_cost s m p x) (heat_cost s n p x)
  unfolding heat_cost
  heat-below x = both (shares (mul-le-mul_right _ (mul-le-mul_left _ (h FU p 1)))) (shares (mul-le-mul_left _ (h FU p 2)))

  start-below : Below (start_cost s m p) (start_cost s n p)
  unfolding start_cost
  start-below = both (both (heat-below _) (adders-below 2)) start_maintenance-below

  no_load-below : Below (no_load_cost s m p) (no_load_cost s n p)
  unfolding no_load_cost
  no_load-below = both (heat-below _) (adders-below 3)

  nuclear-below : Below (nuclear_energy s m p) (nuclear_energy s n p)
  unfolding nuclear_energy
  nuclear-below = both (shares (mul-le-mul_right _ (mul-le-mul_left _ (h FU p 1)))) additions-below

  charging_sum-le : charging_sum s m ≤ charging_sum s n
  unfolding charging_sum
  charging_sum-le =
      omega (
        arith,
        sum_to-mono 2016 {f =
            λ k. charge_price m k * charge_energy s k} {g = λ k. charge_price n k * charge_energy s k} (λ k. mul-le-mul_right _ (h CH k 1)),
      )

  highest_sum-le : highest_sum s m ≤ highest_sum s n
  unfolding highest_sum
  highest_sum-le = omega (arith, sum_highest-mono (full_hours s) (list_to-mono (window s) (λ k. h HR k 1)))

  charging-below : Below (charging_cost s m) (charging_cost s n)
  unfolding charging_cost
  charging-below =
      cond-relates Below (eqb (total_energy s) 0) _ _ _ _ (wholes (h LC 0 0)) (shares (mul-le-mul_right 10000 charging_sum-le))

  storage-below : Below (storage_energy s m p) (storage_energy s n p)
  unfolding storage_energy short_run_cost opportunity_cost
  storage-below =
      greaters
      (both (per_thousands (both charging-below (wholes (h FU p 1)))) additions-below)
      (shares (mul-le-mul_right 10000 highest_sum-le))

  forecast_price-le : forecast_price s m ≤ forecast_price s n
  unfolding forecast_price
  forecast_price-le = omega (arith, from_top-mono (forecast_place s) (list_to-mono (window s) (λ k. h FP k 1)))

  hydro-below : Below (hydro_energy s m p) (hydro_energy s n p)
  unfolding hydro_energy
  hydro-below = both (wholes (mul-le-mul_right 10000 forecast_price-le)) additions-below

-- ---- the lines: the same levels, laminations and ends, none lower

upper : (v i a b : ℕ) {x y : Sum} → Below x y → NoLower (line v i a b x) (line v i a b y)
upper v i a b h = record { level = refl; lamination = refl; from = refl; to = refl; amount = cents-mono (micro_dollars-mono h) }

module _ (s : Parameters) {m n : Amounts} (h : Higher m n) (p : ℕ) where
  laminations-upper : (k i : ℕ) {l l' : List Line} → Pairwise NoLower l l' → Pairwise NoLower (laminations s m p i k l) (laminations s n p i k l')
  unfolding laminations
  laminations-upper zero i r = r
  laminations-upper (suc k) i r = more (upper 1 i _ _ (thermal-below s h p i)) (laminations-upper k (i + 1) r)

  lines_of-upper : Pairwise NoLower (lines_of s m p) (lines_of s n p)
  unfolding lines_of one_lamination single
  lines_of-upper =
      cond-relates (Pairwise NoLower) (eqb (technology s) 1) _ _ _ _
      (laminations-upper _ 1 (more (upper 2 0 0 0 (start-below s h p))
      (more (upper 3 0 0 0 (no_load-below s h p)) (more (upper 4 0 0 0 (adders-below s h p 4)) none))))
      (cond-relates (Pairwise NoLower) (eqb (technology s) 2) _ _ _ _
      (more (upper 1 1 0 _ (nuclear-below s h p)) none)
      (cond-relates (Pairwise NoLower) (eqb (technology s) 3) _ _ _ _
      (more (upper 1 1 0 _ (storage-below s h p)) (more (upper 4 0 0 0 (adders-below s h p 4)) none))
      (cond-relates (Pairwise NoLower) (eqb (technology s) 4) _ _ _ _
      (more (upper 1 1 0 _ (hydro-below s h p)) (more (upper 4 0 0 0 (adders-below s h p 4)) none))
      none)))

pub lines-upper : (s : Parameters) {m n : Amounts} → Higher m n → (h : ℕ) → Pairwise NoLower (lines s m h) (lines s n h)
unfolding lines
lines-upper s g h = lines_of-upper s g (profile s h)

-- ---- every line is close to its exact level

module _ (s : Parameters) (m : Amounts) (p : ℕ) where
  thermal-close : (i a b : ℕ) → CloseLine (line 1 i a b (thermal_energy s m p i))
  unfolding thermal_energy additions adders maintenance divisions sum_to
  thermal-close i a b = close (thermal_energy s m p i) ((tt, tt), (tt, λ j. tt)) (lit≤ tt)

  start-close : CloseLine (single 2 (start_cost s m p))
  unfolding single start_cost heat_cost adders start_maintenance divisions sum_to
  start-close = close (start_cost s m p) (((tt, tt), tt), λ j. tt) (lit≤ tt)

  no_load-close : CloseLine (single 3 (no_load_cost s m p))
  unfolding single no_load_cost heat_cost adders divisions sum_to
  no_load-close = close (no_load_cost s m p) ((tt, tt), tt) (lit≤ tt)

  reserve-close : CloseLine (single 4 (adders m p 4))
  unfolding single adders divisions
  reserve-close = close (adders m p 4) tt (lit≤ tt)

  nuclear-close : CloseLine (one_lamination s (nuclear_energy s m p))
  unfolding one_lamination nuclear_energy additions adders maintenance divisions sum_to
  nuclear-close = close (nuclear_energy s m p) (tt, (tt, λ j. tt)) (lit≤ tt)

  -- at most one division, whether energy was charged or not
  charging-one : Efficient (charging_cost s m) × (divisions (charging_cost s m) ≤ 1)
  unfolding charging_cost divisions
  charging-one =
      cond-holds (λ x. Efficient x × (divisions x ≤ 1)) (eqb (total_energy s) 0) (whole (last_cost m)) (share (charging_sum s m * 10000) (total_energy s))
      (tt, lit≤ tt) (tt, lit≤ tt)

  storage-close : 500 ≤ efficiency s → CloseLine (one_lamination s (storage_energy s m p))
  unfolding one_lamination storage_energy short_run_cost opportunity_cost additions adders maintenance divisions sum_to
  storage-close e = close (storage_energy s m p) (((e, (charging-one.0, tt)), (tt, λ j. tt)), tt) (max-le (omega (arith, charging-one.1)) (lit≤ tt))

  hydro-close : CloseLine (one_lamination s (hydro_energy s m p))
  unfolding one_lamination hydro_energy additions adders maintenance divisions sum_to
  hydro-close = close (hydro_energy s m p) (tt, (tt, λ j. tt)) (lit≤ tt)

  laminations-close : (k i : ℕ) {l : List Line} → Each CloseLine l → Each CloseLine (laminations s m p i k l)
  unfolding laminations
  laminations-close zero i r = r
  laminations-close (suc k) i r = also (thermal-close i 0 0) (laminations-close k (i + 1) r)

  lines_of-close : (technology s ≡ 3 → 500 ≤ efficiency s) → Each CloseLine (lines_of s m p)
  unfolding lines_of
  lines_of-close g =
      by-technology (eqb (technology s) 1) (eqb (technology s) 2) (eqb (technology s) 3) (eqb (technology s) 4) refl
      (laminations-close _ 1 (also start-close (also no_load-close (also reserve-close done))))
      (also nuclear-close done)
      (λ e. also (storage-close (g (eqb-true (technology s) 3 e))) (also reserve-close done))
      (also hydro-close (also reserve-close done))
    where
      by-technology : {x y z i : List Line} (a b c d : Bool) → eqb (technology s) 3 ≡ c → Each CloseLine x → Each CloseLine y
          → (eqb (technology s) 3 ≡ true → Each CloseLine z) → Each CloseLine i → Each CloseLine (cond a x (cond b y (cond c z (cond d i []))))
      by-technology true b c d e u v w j = u
      by-technology false true c d e u v w j = v
      by-technology false false true d e u v w j = w e
      by-technology false false false true e u v w j = j
      by-technology false false false false e u v w j = done

pub lines-close : (s : Parameters) (m : Amounts) → (technology s ≡ 3 → 500 ≤ efficiency s) → (h : ℕ) → Each CloseLine (lines s m h)
unfolding lines
lines-close s m g h = lines_of-close s m (profile s h) g
