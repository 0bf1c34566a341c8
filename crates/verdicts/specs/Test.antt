-- "The test": the limit, a price against it, an offer against the laminations that it overlaps.
use Rattle.std.specs.Prelude.{Bool, true, cond, ◌&&◌, List, [], ◌∷◌, ℕ, zero, suc, ◌+◌, ◌*◌, ◌/◌, max, min, leb, ltb, eqb}
use Rattle.fields.specs.Numbers.{number, biased, bias}
use Rattle.station.specs.Parameters.{Parameters, percent, margin, floor}
use Rattle.rules.specs.Fit.{energy}
use Rattle.formulas.specs.Levels.{Line, amount}
use Rattle.verdicts.specs.declared.Verdict.{Verdict}
use Rattle.verdicts.specs.declared.Verdict.TheVariants.{Passes, Fails}

-- "margin (4), cents, 4,294,967,295 meaning none"
abbrev pub no_margin : ℕ
no_margin = 4294967295

-- "lesser of level + level × percent / 100 (fraction dropped) and level + margin, if there is one", in cents; "The conduct limit's percentage" drops its
-- fraction
unfoldable pub limit : ℕ → ℕ → ℕ → ℕ
limit level percent margin =
    cond (eqb margin no_margin)
    (level + level * percent / 100)
    (min (level + level * percent / 100) (level + margin))

-- "A price fails if it is at least the floor and above the limit"; prices are held plus 2^31
unfoldable pub fails : ℕ → ℕ → ℕ → ℕ → ℕ → Bool
fails level percent margin floor price = leb (floor + bias) price && ltb (limit level percent margin + bias) price

-- whether a price fails against a level x of kind v, under a condition
unfoldable pub fails_under : Parameters → ℕ → ℕ → ℕ → ℕ → Bool
fails_under s c v price x = fails x (percent s c v) (margin s c v) (floor s c v) price

-- "It fails if it fails in any lamination it overlaps": a price tried at each line of kind v that it meets, the first that it fails named with pair k; or
-- else what follows
unfoldable pub failing : ℕ → (ℕ → ℕ → Bool) → (ℕ → Bool) → ℕ → List Line → Verdict → Verdict
failing v meets test k [] rest = rest
failing v meets test k (x ∷ l) rest =
    let r = failing v meets test k l rest in
    cond (eqb x.level v && meets x.from x.to && test (amount x)) (Fails k x.lamination) r

-- ---- an energy offer: "pairs of quantity (2, 0.1 MW) and price s", counted here from 0

-- the quantity of a pair
unfoldable pub quantity : List ℕ → ℕ → ℕ
quantity o k = number (6 * k) 2 o

-- its price, held plus 2^31
unfoldable pub price_at : List ℕ → ℕ → ℕ
price_at o k = biased (number (6 * k + 2) 4 o)

-- "Each pair reaches from the quantity before it", the first from 0
unfoldable pub before : List ℕ → ℕ → ℕ
before o zero = 0
before o (suc k) = quantity o k

-- a pair and a lamination that it "overlaps by more than a point"
unfoldable pub overlap : ℕ → ℕ → ℕ → ℕ → Bool
overlap low high from to = ltb (max low from) (min high to)

-- "the answer names the first such pair, then lamination": n pairs from pair k on; the answer counts them from 1
unfoldable pub offer_from : Parameters → ℕ → List Line → List ℕ → ℕ → ℕ → Verdict
offer_from s c l o k zero = Passes
offer_from s c l o k (suc n) =
    failing energy (overlap (before o k) (quantity o k)) (fails_under s c energy (price_at o k)) (k + 1) l (offer_from s c l o (k + 1) n)

-- ---- "Other levels take one signed 32-bit price in cents, of any value": it has no pair and no lamination, and names 0

-- such a price against the level of its kind, tested where the level has a line
unfoldable pub price_test : Parameters → ℕ → ℕ → ℕ → List Line → Verdict
price_test s c v price l = failing v (λ a b. true) (fails_under s c v price) 0 l Passes
