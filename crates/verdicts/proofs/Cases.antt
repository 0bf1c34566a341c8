-- Worked values of the limit, in cents: document 01's M3 and M4, a limit by margin, and one without a margin; verdicts on offers and prices at
-- the edge of each rule, beside levels at hand and of whole dossiers; and of refusals where several could be drawn.
use mathlib.Core.Path.{◌≡◌, refl, sym, ap}
use mathlib.Core.Bool.{true, false, cond, ◌&&◌, ◌||◌, false≢true}
use mathlib.Core.List.{List, [], ◌∷◌, ◌++◌}
use Prim.Native.Nat.{ℕ, ◌+◌}
use native.Mathlib.Omega.{arith}
use lib.Dec.{leb, ltb, eqb}
use lib.IntN.{pos, negsuc}
use lib.ListN.{replicate}
use Rattle.lists.specs.Lists.{Each, done, also, joined}
use Rattle.fields.specs.Numbers.{bias}
use Rattle.records.specs.Answers.{Accepted, Refused as Turned}
use Rattle.records.specs.Table.{RS, HP, FU, AD, RQ, TH, FV}
use Rattle.records.specs.Made.{minus, made, made_from, pair}
use Rattle.station.specs.InForce.{query}
use Rattle.station.specs.Parameters.{Parameters, threshold_key}
use Rattle.rules.specs.Fit.{energy, start, no_load, reserve}
use Rattle.formulas.specs.Exact.{whole}
use Rattle.formulas.specs.Levels.{Line, line}
use Rattle.verdicts.specs.declared.Verdict.{Verdict}
use Rattle.verdicts.specs.declared.Verdict.TheVariants.{Passes, Fails, Refused}
use Rattle.verdicts.specs.Test.{no_margin, limit, fails}
use Rattle.verdicts.specs.Refusals.{length_refusal}
use Rattle.verdicts.specs.Verdict.{numbers, offer_verdict, price_verdict, on_offer, on_price}
use Rattle.verdicts.specs.First.{Clear, Judged, passing, failed}
use Rattle.verdicts.proofs.Computed.{computed}

-- M3: by percent 63.45, by margin 67.30
pub by-percent : limit 4230 50 2500 ≡ 6345
unfolding limit
by-percent = refl

-- level 100.00: by percent 150.00, by margin 125.00
by-margin : limit 10000 50 2500 ≡ 12500
unfolding limit
by-margin = refl

-- level 42.31, 50 percent of which is 21.155: the fraction is dropped
without-margin : limit 4231 50 no_margin ≡ 6346
unfolding limit
without-margin = refl

-- a level of a million dollars and 10,000 percent: 4,294,967,295 is no margin, one less is one
no-margin : (limit 100000000 10000 4294967295 ≡ 10100000000) × (limit 100000000 10000 4294967294 ≡ 4394967294)
unfolding limit
no-margin = (refl, refl)

-- M3: 63.45 passes, 63.46 fails
at-the-limit : fails 4230 50 2500 0 (6345 + bias) ≡ false
unfolding fails limit
at-the-limit = refl

above-the-limit : fails 4230 50 2500 0 (6346 + bias) ≡ true
unfolding fails limit
above-the-limit = refl

-- M4: floor 25.00; 24.99 passes, 25.00 fails
below-the-floor : fails 1000 50 2500 2500 (2499 + bias) ≡ false
unfolding fails limit
below-the-floor = refl

at-the-floor : fails 1000 50 2500 2500 (2500 + bias) ≡ true
unfolding fails limit
at-the-floor = refl

-- 20 pairs are an offer, 21 are not
twenty-pairs : length_refusal (replicate 120 0) ≡ Accepted
unfolding computed
twenty-pairs = refl

twenty-one-pairs : length_refusal (replicate 126 0) ≡ Turned 10 126
unfolding computed
twenty-one-pairs = refl

-- a verdict in the paper's numbers
in-numbers : (numbers Passes ≡ 0 ∷ []) × (numbers (Fails 3 2) ≡ 1 ∷ 3 ∷ 2 ∷ []) × (numbers (Refused 10 6) ≡ 2 ∷ 10 ∷ 6 ∷ [])
unfolding numbers
in-numbers = (refl, refl, refl)

-- ---- laminations of 10.00 to 50.0 MW and 20.00 to 100.0 MW; start 30.00, no-load 40.00, reserve 50.00

abbrev levels : List Line
levels =
    line energy 1 0 500 (whole 10000000) ∷ line energy 2 500 1000 (whole 20000000)
    ∷ line start 0 0 0 (whole 30000000) ∷ line no_load 0 0 0 (whole 40000000) ∷ line reserve 0 0 0 (whole 50000000)
    ∷ []

-- percent by condition and level: under condition 1, 50 for energy, 10 for start, 20 for no-load and 30 for reserve; under any other, 0
abbrev percents : ℕ → ℕ
percents n =
    cond (eqb n (threshold_key 1 energy)) 50
    (cond (eqb n (threshold_key 1 start)) 10
    (cond (eqb n (threshold_key 1 no_load)) 20
    (cond (eqb n (threshold_key 1 reserve)) 30 0)))

-- a station of 100.0 MW, of technology t, with these thresholds, no margin and no floor; condition 2 has a TH for reserve alone, 3 for energy alone. Those of a
-- condition 0 or 4, which no dossier has, count for nothing
abbrev station : ℕ → Parameters
station t =
    record {
      has = λ k n. eqb k TH && (ltb n 512 || eqb n (threshold_key 2 reserve) || eqb n (threshold_key 3 energy) || leb 1024 n);
      says = λ k n i. cond (eqb k TH) (cond (eqb i 2) (percents n) (cond (eqb i 3) no_margin 0)) (cond (eqb i 0) t 1000);
    }

-- an offer under a condition, and its verdict
record Offer : Type 0 where
  condition : ℕ
  offer : List ℕ
  wanted : Verdict

abbrev under : ℕ → List ℕ → Verdict → Offer
under c o v = record { condition = c; offer = o; wanted = v }

-- under condition 1
abbrev case : List ℕ → Verdict → Offer
case o v = under 1 o v

abbrev Judges : List Offer → Type 0
Judges l = Each (λ x. offer_verdict (station 1) x.condition levels x.offer ≡ x.wanted) l

-- limits 15.00 and 30.00: "fails if it fails in any lamination it overlaps by more than a point; the answer names the first such pair, then lamination"
abbrev offers : List Offer
offers =
    case (pair 500 1500 ++ pair 1000 3000) Passes  -- at both limits
    ∷ case (pair 500 1500 ++ pair 1000 3001) (Fails 2 2)
    ∷ case (pair 1000 1600) (Fails 1 1)  -- within the limit at its top, above that of the lamination below
    ∷ case (pair 1000 3001) (Fails 1 1)  -- in both laminations
    ∷ case (pair 500 1501 ++ pair 1000 3001) (Fails 1 1)  -- and both pairs
    ∷ case (pair 500 1500 ++ pair 1000 1501) Passes  -- pair 2 only touches the first lamination
    ∷ case (pair 499 1500 ++ pair 1000 1501) (Fails 2 1)  -- reaches into it
    ∷ case (pair 500 1500 ++ pair 501 3001) (Fails 2 2)  -- and into the second
    ∷ case (pair 500 (minus 200000)) Passes  -- a price below 0, and the lowest
    ∷ case (pair 500 200000) (Fails 1 1)  -- the highest
    ∷ []

pub offers-judged : Judges offers
unfolding computed
offers-judged = also refl (also refl (also refl (also refl (also refl (also refl (also refl (also refl (also refl (also refl done)))))))))

-- ---- as declared: no offer passes whose last pair fails, and no pair is named where one before it fails

-- the pair that a verdict names
pair_of : Verdict → ℕ
pair_of Passes = 0
pair_of (Fails k i) = k
pair_of (Refused n p) = 0

abbrev last_fails : List ℕ
last_fails = pair 500 1500 ++ pair 1000 3001

pub last-counts : Judged (station 1) 1 levels last_fails 0 2 Passes → ⊥
unfolding computed
last-counts (passing f) = go (f 1 (omega arith) (omega arith))
  where
    go : Clear (station 1) 1 levels last_fails 1 → ⊥
    go (also a (also b l)) = false≢true (sym b)

abbrev both_fail : List ℕ
both_fail = pair 500 1501 ++ pair 1000 3001

pub first-counts : {v : Verdict} → Judged (station 1) 1 levels both_fail 0 2 v → v ≡ Fails 2 2 → ⊥
unfolding pair_of computed
first-counts (passing f) e = let h : pair_of Passes ≡ 2 = ap pair_of e in omega (arith, h)
first-counts (failed j x a b g w) e = let h : j + 1 ≡ 2 = ap pair_of e in go (g 0 (omega arith) (omega (arith, h)))
  where
    go : Clear (station 1) 1 levels both_fail 0 → ⊥
    go (also a l) = false≢true (sym a)

-- "10 malformed offer: its length, a pair's price out of range, or a quantity or price against the rule above; 11 quantity above capacity"
abbrev malformed_offers : List Offer
malformed_offers =
    case [] (Refused 10 0)
    ∷ case (replicate 5 1) (Refused 10 5)
    ∷ case (pair 500 0 ++ (0 ∷ [])) (Refused 10 7)
    ∷ case (pair 500 0 ++ (0 ∷ 0 ∷ 0 ∷ [])) (Refused 10 9)
    ∷ case (pair 500 200001) (Refused 10 0)
    ∷ case (pair 500 (minus 200001)) (Refused 10 0)
    ∷ case (pair 0 0) (Refused 10 0)  -- "from above 0"
    ∷ case (pair 500 0 ++ pair 500 0) (Refused 10 6)  -- "quantities rise strictly"
    ∷ case (pair 1 0 ++ pair 2 0 ++ pair 2 0) (Refused 10 12)
    ∷ case (pair 500 1 ++ pair 600 0) (Refused 10 6)  -- "prices don't fall"
    ∷ case (pair 500 (minus 1) ++ pair 600 (minus 2)) (Refused 10 6)
    ∷ case (pair 500 (minus 1) ++ pair 600 0 ++ pair 1000 0) Passes  -- they may stay
    ∷ case (pair 1001 0) (Refused 11 0)
    ∷ case (pair 500 0 ++ pair 1001 0 ++ pair 1002 0) (Refused 11 6)
    ∷ []

pub malformed-judged : Judges malformed_offers
unfolding computed
malformed-judged =
    also refl (also refl (also refl (also refl (also refl
    (also refl (also refl (also refl (also refl (also refl (also refl (also refl (also refl (also refl done)))))))))))))

-- "12, 14, 10, 11"; "14 condition not 1 to 3 or no TH for it and the level"
abbrev turns : List Offer
turns =
    under 0 [] (Refused 14 0)
    ∷ under 4 [] (Refused 14 0)
    ∷ under 2 [] (Refused 14 0)  -- no TH for energy; 14 before 10
    ∷ under 3 (pair 1000 1000) Passes
    ∷ under 3 (pair 1000 1001) (Fails 1 1)
    ∷ under 1 (pair 2000 0 ++ pair 2000 0) (Refused 10 6)  -- 10 before 11, at a later pair
    ∷ []

pub turns-judged : Judges turns
unfolding computed
turns-judged = also refl (also refl (also refl (also refl (also refl (also refl done)))))

-- a price at a technology, for a level and under a condition, and its verdict
record Price : Type 0 where
  technology : ℕ
  level : ℕ
  condition : ℕ
  price : ℕ
  wanted : Verdict

abbrev at : ℕ → ℕ → ℕ → ℕ → Verdict → Price
at t v c x w = record { technology = t; level = v; condition = c; price = x + bias; wanted = w }

-- each level by its own limit; "12 level not 1 to 4, not held by the technology, or 1 put to the single-price test"
abbrev prices : List Price
prices =
    at 1 2 1 3300 Passes
    ∷ at 1 2 1 3301 (Fails 0 0)
    ∷ at 1 3 1 4800 Passes
    ∷ at 1 3 1 4801 (Fails 0 0)
    ∷ at 1 4 1 6500 Passes
    ∷ at 1 4 1 6501 (Fails 0 0)
    ∷ at 1 1 4 0 (Refused 12 0)  -- 12 before 14
    ∷ at 1 0 1 0 (Refused 12 0)
    ∷ at 1 5 1 0 (Refused 12 0)
    ∷ at 2 4 1 0 (Refused 12 0)  -- nuclear
    ∷ at 3 2 1 0 (Refused 12 0)  -- storage
    ∷ at 3 4 1 6500 Passes
    ∷ at 1 2 4 0 (Refused 14 0)
    ∷ at 1 2 3 0 (Refused 14 0)  -- condition 3 has a TH for energy alone
    ∷ []

pub prices-judged : Each (λ x. price_verdict (station x.technology) x.level x.condition levels x.price ≡ x.wanted) prices
unfolding computed
prices-judged =
    also refl (also refl (also refl (also refl (also refl
    (also refl (also refl (also refl (also refl (also refl (also refl (also refl (also refl (also refl done)))))))))))))

-- ---- whole dossiers

-- a thermal unit without cost but for reserve's, 0.25, and from hour 5 on, in profile 2, an adder of 1.00 to energy; condition 1 has 50 percent, no margin
-- and no floor for both
abbrev unit_with : List ℕ → List ℕ → List ℕ
unit_with fuel other_fuel =
    joined (made RS 1 (1 ∷ 1000 ∷ 1000 ∷ 0 ∷ 0 ∷ 0 ∷ 0 ∷ 0 ∷ 0 ∷ [])
    ∷ made HP 1 (1 ∷ 500 ∷ 0 ∷ []) ∷ made HP 1 (2 ∷ 1000 ∷ 0 ∷ [])
    ∷ fuel ∷ other_fuel
    ∷ made RQ 1 (1 ∷ 5 ∷ 9 ∷ 2 ∷ [])
    ∷ made AD 1 (2 ∷ 3 ∷ 1 ∷ 1000000 ∷ []) ∷ made AD 1 (1 ∷ 3 ∷ 4 ∷ 250000 ∷ [])
    ∷ made TH 1 (1 ∷ 1 ∷ 50 ∷ no_margin ∷ 0 ∷ []) ∷ made TH 1 (1 ∷ 4 ∷ 50 ∷ no_margin ∷ 0 ∷ [])
    ∷ [])

abbrev unit : List ℕ
unit = unit_with (made FU 1 (1 ∷ 0 ∷ 0 ∷ [])) (made FU 1 (2 ∷ 0 ∷ 0 ∷ []))

-- at hour 4 the limit is 0.00, at hour 5 it is 1.50; a dossier that is refused comes first
offers-of-unit : (on_offer unit (query 4 1) 1 (pair 1000 1) ≡ Fails 1 1) × (on_offer unit (query 5 1) 1 (pair 1000 150) ≡ Passes) × (on_offer unit (query 5 1) 1 (pair 1000 151) ≡ Fails 1 1)
    × (on_offer [] (query 0 1) 4 [] ≡ Refused 5 0)
unfolding computed
offers-of-unit = (refl, refl, refl, refl)

-- reserve's limit is 0.37 with its fraction dropped; a price is signed
prices-of-unit : (on_price unit (query 4 1) 4 1 (pos 37) ≡ Passes) × (on_price unit (query 4 1) 4 1 (pos 38) ≡ Fails 0 0) × (on_price unit (query 4 1) 4 1 (negsuc 37) ≡ Passes)
    × (on_price unit (query 5 1) 4 1 (pos 1) ≡ Fails 0 0) × (on_price [] (query 0 1) 1 4 (pos 0) ≡ Refused 5 0)
unfolding computed
prices-of-unit = (refl, refl, refl, refl, refl)

-- the same with fuel from hour 3 on, and in profile 2 from hour 7 on
abbrev late_unit : List ℕ
late_unit = unit_with (made_from FV 1 3 (1 ∷ 0 ∷ 0 ∷ [])) (made_from FV 1 7 (2 ∷ 0 ∷ 0 ∷ []))

-- 20 comes before 12, 14 and 10, and only in hours without fuel
offers-of-late : (on_offer late_unit (query 2 1) 4 [] ≡ Refused 20 0) × (on_offer late_unit (query 3 1) 4 [] ≡ Refused 14 0) × (on_offer late_unit (query 4 1) 1 (pair 1000 1) ≡ Fails 1 1)
    × (on_offer late_unit (query 6 1) 1 (pair 1000 150) ≡ Refused 20 0) × (on_offer late_unit (query 7 1) 1 (pair 1000 150) ≡ Passes)
unfolding computed
offers-of-late = (refl, refl, refl, refl, refl)

prices-of-late : (on_price late_unit (query 2 1) 1 4 (pos 0) ≡ Refused 20 0) × (on_price late_unit (query 3 1) 1 4 (pos 0) ≡ Refused 12 0) × (on_price late_unit (query 4 1) 4 1 (pos 37) ≡ Passes)
    × (on_price late_unit (query 6 1) 4 1 (pos 0) ≡ Refused 20 0) × (on_price [] (query 0 1) 1 4 (pos 0) ≡ Refused 5 0)
unfolding computed
prices-of-late = (refl, refl, refl, refl, refl)
