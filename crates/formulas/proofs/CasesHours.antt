-- Worked queries: what a nuclear station's dated costs come to before and after their first hours, what an hour without fuel draws, and
-- what the owners' costs come to.
use mathlib.Core.Path.{◌≡◌, refl}
use mathlib.Core.List.{List, [], ◌∷◌, map}
use Prim.Native.Nat.{ℕ}
use Rattle.lists.specs.Lists.{joined}
use Rattle.records.specs.Answers.{Answer, Accepted, Refused}
use Rattle.records.specs.Table.{RS, FU, AD, RQ, AO, FV, AV, MV}
use Rattle.records.specs.Made.{made, made_from}
use Rattle.station.specs.InForce.{query}
use Rattle.formulas.specs.Levels.{parameters_at, retired, query_answer, levels, amount}
use Rattle.formulas.proofs.Computed.{computed}

-- a nuclear station whose energy level is the price of its fuel, 31 bytes
abbrev reactor : List ℕ
reactor = made RS 1 (2 ∷ 1000 ∷ 1000 ∷ 0 ∷ 0 ∷ 1000000 ∷ 0 ∷ 0 ∷ 0 ∷ [])

-- its levels for owner 1 at some hours, in cents
abbrev cents_at : List (List ℕ) → List ℕ → List (List ℕ)
cents_at l hours = map (λ h. map amount (levels (joined l) (query h 1))) hours

-- and what they draw
abbrev drawn_at : List (List ℕ) → List ℕ → List Answer
drawn_at l hours = map (λ h. query_answer (joined l) (query h 1)) hours

-- ---- "At an hour, the highest issue whose first hour has come counts."

-- fuel at 4.00; at 5.00 from hour 200 on, as issue 2; at 6.00 from hour 100 on, as issue 3; an adder of 1.00 from hour 150 on, an item of 0.50 from hour 160 on
abbrev dated : List (List ℕ)
dated =
    reactor ∷ made FU 1 (1 ∷ 4000000 ∷ 0 ∷ [])
    ∷ made_from FV 2 200 (1 ∷ 5000000 ∷ 0 ∷ [])
    ∷ made_from FV 3 100 (1 ∷ 6000000 ∷ 0 ∷ [])
    ∷ made_from AV 1 150 (1 ∷ 3 ∷ 1 ∷ 1000000 ∷ [])
    ∷ made_from MV 1 160 (1 ∷ 1 ∷ 10000 ∷ 1000 ∷ 2 ∷ 0 ∷ [])
    ∷ []

-- each from its first hour on; the fuel of issue 2 never, since a higher issue came before it
pub dated-levels : cents_at dated (0 ∷ 99 ∷ 100 ∷ 149 ∷ 150 ∷ 159 ∷ 160 ∷ 200 ∷ 4294967295 ∷ [])
    ≡ ((400 ∷ []) ∷ (400 ∷ []) ∷ (600 ∷ []) ∷ (600 ∷ []) ∷ (700 ∷ []) ∷ (700 ∷ []) ∷ (750 ∷ []) ∷ (750 ∷ []) ∷ (750 ∷ []) ∷ [])
unfolding computed
dated-levels = refl

-- ---- "20, the hour's profile has no fuel in force"

-- fuel from hour 10 on
abbrev late : List (List ℕ)
late = reactor ∷ made_from FV 1 10 (1 ∷ 4000000 ∷ 0 ∷ []) ∷ []

pub late-drawn : drawn_at late (0 ∷ 9 ∷ 10 ∷ []) ≡ (Refused 20 0 ∷ Refused 20 0 ∷ Accepted ∷ [])
unfolding computed
late-drawn = refl

pub late-levels : cents_at late (0 ∷ 9 ∷ 10 ∷ []) ≡ ([] ∷ [] ∷ (400 ∷ []) ∷ [])
unfolding computed
late-levels = refl

-- profile 2 is asked for from hour 50 to hour 70, and has fuel from hour 60 on
abbrev asked : List (List ℕ)
asked = reactor ∷ made FU 1 (1 ∷ 4000000 ∷ 0 ∷ []) ∷ made_from FV 1 60 (2 ∷ 5000000 ∷ 0 ∷ []) ∷ made RQ 1 (1 ∷ 50 ∷ 70 ∷ 2 ∷ []) ∷ []

pub asked-drawn : drawn_at asked (49 ∷ 50 ∷ 59 ∷ 60 ∷ 70 ∷ 71 ∷ []) ≡ (Accepted ∷ Refused 20 0 ∷ Refused 20 0 ∷ Accepted ∷ Accepted ∷ Accepted ∷ [])
unfolding computed
asked-drawn = refl

pub asked-levels : cents_at asked (49 ∷ 50 ∷ 59 ∷ 60 ∷ 70 ∷ 71 ∷ []) ≡ ((400 ∷ []) ∷ [] ∷ [] ∷ (500 ∷ []) ∷ (500 ∷ []) ∷ (400 ∷ []) ∷ [])
unfolding computed
asked-levels = refl

-- "tried after 17": 8 of a station without fuel for profile 1, and 17 of a hydroelectric one without a forecast, whose fuel is of hour 10
pub own_first : (query_answer (joined (reactor ∷ made_from FV 1 10 (2 ∷ 0 ∷ 0 ∷ []) ∷ [])) (query 0 1) ≡ Refused 8 50)
    × (query_answer (joined (made RS 1 (4 ∷ 500 ∷ 0 ∷ 0 ∷ 0 ∷ 0 ∷ 0 ∷ 0 ∷ 50 ∷ []) ∷ made_from FV 1 10 (1 ∷ 0 ∷ 0 ∷ []) ∷ [])) (query 0 1) ≡ Refused 17 50)
unfolding computed
own_first = (refl, refl)

-- ---- "A query names an owner and adds that owner's AO to the common amounts, and to `retired`"

-- fuel at 4.00, consumables of 1.00 for both; owner 1 has 0.10 of the same cost and a third-party payment, owner 2 has 0.70, in two issues, and 0.03 scheduled
abbrev owned : List (List ℕ)
owned =
    reactor ∷ made FU 1 (1 ∷ 4000000 ∷ 0 ∷ [])
    ∷ made AD 1 (1 ∷ 3 ∷ 1 ∷ 1000000 ∷ [])
    ∷ made AO 1 (1 ∷ 1 ∷ 3 ∷ 1 ∷ 100000 ∷ [])
    ∷ made AO 1 (1 ∷ 1 ∷ 4 ∷ 1 ∷ 9000000 ∷ [])
    ∷ made AO 2 (2 ∷ 1 ∷ 3 ∷ 1 ∷ 700000 ∷ [])
    ∷ made AO 1 (2 ∷ 1 ∷ 3 ∷ 1 ∷ 800000 ∷ [])
    ∷ made AO 1 (2 ∷ 1 ∷ 1 ∷ 1 ∷ 30000 ∷ [])
    ∷ []

pub owned-levels : map (λ o. map amount (levels (joined owned) (query 0 o))) (1 ∷ 2 ∷ []) ≡ ((510 ∷ []) ∷ (573 ∷ []) ∷ [])
unfolding computed
owned-levels = refl

pub owned-retired : map (λ o. retired (parameters_at (joined owned) (query 0 o)) 1) (1 ∷ 2 ∷ []) ≡ (1 ∷ 0 ∷ [])
unfolding computed
owned-retired = refl

-- "a query with any other is 3 at place 0", whatever the dossier is
pub owner-drawn : (map (λ o. query_answer (joined owned) (query 0 o)) (0 ∷ 1 ∷ 2 ∷ 3 ∷ []) ≡ (Refused 3 0 ∷ Accepted ∷ Accepted ∷ Refused 3 0 ∷ []))
    × (query_answer (0 ∷ []) (query 0 3) ≡ Refused 3 0) × (query_answer (0 ∷ []) (query 0 2) ≡ Refused 2 0)
unfolding computed
owner-drawn = (refl, refl, refl)

-- an owner other than 1 or 2 in a record is 3, and an AO for a level that is not held is 6, whoever asks
pub owner-record : map (λ r. query_answer (joined (reactor ∷ made FU 1 (1 ∷ 0 ∷ 0 ∷ []) ∷ r ∷ [])) (query 0 1))
    (made AO 1 (0 ∷ 1 ∷ 3 ∷ 1 ∷ 0 ∷ []) ∷ made AO 1 (3 ∷ 1 ∷ 3 ∷ 1 ∷ 0 ∷ []) ∷ made AO 1 (2 ∷ 1 ∷ 3 ∷ 4 ∷ 0 ∷ []) ∷ made AO 1 (2 ∷ 1 ∷ 5 ∷ 1 ∷ 0 ∷ []) ∷ [])
    ≡ (Refused 3 46 ∷ Refused 3 46 ∷ Refused 6 46 ∷ Accepted ∷ [])
unfolding computed
owner-record = refl
