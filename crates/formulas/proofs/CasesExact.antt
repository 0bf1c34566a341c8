-- Worked exact levels, and a level as far from its exact level as one can lie.
use mathlib.Core.Path.{◌≡◌, refl}
use mathlib.Core.List.{List, [], ◌∷◌}
use Prim.Native.Nat.{ℕ, ◌*◌}
use native.Mathlib.Omega.{arith}
use lib.Dec.{lit≤, lit<}
use Rattle.records.specs.Table.{RS, FU, AD, MM, HR, CH}
use Rattle.station.specs.Parameters.{adder_key, item_key}
use Rattle.formulas.specs.Exact.{whole, share, quotient, micro_dollars, cents, ratio, exact, Close}
use Rattle.formulas.specs.Levels.{thermal_energy, short_run_cost, opportunity_cost, storage_energy, line, NoLower}
use Rattle.formulas.proofs.Computed.{computed}
use Rattle.formulas.proofs.Cases.{Entry, says, price, find, as_parameters, as_amounts, storage, halves, thirds}

-- ---- "with no division dropped and no cent rounded": one whole number over another

-- opportunity 627,110,000 / 3, short-run (60,020,000 / 3 + 750,000) × 1,000 / 800 = 622,700,000 / 24
exact-thirds : ((exact (opportunity_cost (as_parameters thirds) (as_amounts thirds))).num * 3 ≡ (exact
    (opportunity_cost (as_parameters thirds) (as_amounts thirds))).den * 627110000)
    × ((exact (short_run_cost (as_parameters thirds) (as_amounts thirds) 1)).num * 24 ≡ (exact
    (short_run_cost (as_parameters thirds) (as_amounts thirds) 1)).den * 622700000)
    × ((exact (storage_energy (as_parameters thirds) (as_amounts thirds) 1)).num * 3 ≡ (exact
    (storage_energy (as_parameters thirds) (as_amounts thirds) 1)).den * 627110000)
unfolding thirds storage find computed
exact-thirds = (refl, refl, refl)

-- of a record that is not there
exact_none : ((exact (share 8 0)).num ≡ 0) × ((exact (share 8 0)).den ≡ 1)
unfolding exact
exact_none = (refl, refl)

-- the unit of halves: fuel, emission and two items of half a micro-dollar are 2
exact-halves : (exact (thermal_energy (as_parameters halves) (as_amounts halves) 1 1)).num ≡ (exact
    (thermal_energy (as_parameters halves) (as_amounts halves) 1 1)).den * 2
unfolding halves find computed
exact-halves = refl

-- ---- how far a level may lie from its exact level

-- maintenance of half a micro-dollar
abbrev half_item : ℕ → List Entry → List Entry
half_item j l = says MM (item_key 1 j) 2 1 ∷ says MM (item_key 1 j) 3 2 ∷ says MM (item_key 1 j) 4 100000 ∷ l

-- a battery with eight such items, a charging cost of half a micro-dollar, fuel 124 and efficiency 501: 5,000 instead of 4,994.503 micro-dollars, which
-- makes a cent
far : List Entry
far =
    half_item 1 (half_item 2 (half_item 3 (half_item 4 (half_item 5 (half_item 6 (half_item 7 (half_item 8 (
    says RS 0 1 800 ∷ says RS 0 6 800 ∷ says RS 0 7 501 ∷ says RS 0 8 1
    ∷ says FU 1 1 124 ∷ says AD (adder_key 1 3 1) 3 4742
    ∷ says CH 1 1 (price 1) ∷ says CH 1 2 1 ∷ says CH 2 1 (price 0) ∷ says CH 2 2 19999
    ∷ says HR 1 1 (price 0)
    ∷ []
    ))))))))

far-level : cents (micro_dollars (storage_energy (as_parameters far) (as_amounts far) 1)) ≡ 1
unfolding far find computed
far-level = refl

-- it lies 0.0050055 dollar above, so that no shorter distance in whole micro-dollars holds
far-close : Close 1 (exact (storage_energy (as_parameters far) (as_amounts far) 1))
unfolding far find computed
far-close = record { real = lit< tt; above = lit≤ tt; below = lit≤ tt }

-- 0.005006 dollar is close on either side, a micro-dollar more is not, and nothing is close to a fraction over 0
at-the-distance : Close 0 (ratio 5006 1) × Close 1 (ratio 4994 1)
at-the-distance = (record { real = lit< tt; above = lit≤ tt; below = lit≤ tt }, record { real = lit< tt; above = lit≤ tt; below = lit≤ tt })

too-far-below : Close 0 (ratio 5007 1) → ⊥
too-far-below c = omega (arith, c.below)

too-far-above : Close 1 (ratio 4993 1) → ⊥
too-far-above c = omega (arith, c.above)

over_nothing : Close 0 (ratio 0 0) → ⊥
over_nothing c = omega (arith, c.real)

-- a level is lower by a cent, which one micro-dollar can make
lower : NoLower (line 1 1 0 5 (whole 5000)) (line 1 1 0 5 (whole 4999)) → ⊥
unfolding quotient micro_dollars cents
lower x = omega (arith, x.amount)
