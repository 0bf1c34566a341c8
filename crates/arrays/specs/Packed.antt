-- The levels as code hands them over: numbers in arrays of 20, without their formulas. `unpacked` reads them as lines again.
use Rattle.std.specs.Prelude.{cond, List, [], ◌∷◌, ◌++◌, map, ℕ, zero, suc, eqb, length, get_or}
use Rattle.station.specs.InForce.{Query}
use Rattle.station.specs.Parameters.{Parameters, Amounts, technology}
use Rattle.rules.specs.Fit.{energy, start, no_load, reserve, holds}
use Rattle.arrays.specs.declared.HourLevels.{HourLevels}
use Rattle.arrays.specs.declared.SingleLevels.{SingleLevels}
use Rattle.formulas.specs.Exact.{Sum}
use Rattle.formulas.specs.Levels.{parameters_at, profile, Line, amount, adders, start_cost, no_load_cost, Shown, shown_as, levels}

-- ---- from the arrays to lines

-- laminations in arrays: how many, and from, to and level of each
pub record Arrays : Type 0 where
  pub count : ℕ
  pub from : List ℕ
  pub to : List ℕ
  pub cents : List ℕ

-- n laminations in arrays a of from, b of to and x of levels
abbrev pub in_arrays : List ℕ → List ℕ → List ℕ → ℕ → Arrays
in_arrays a b x n = record { count = n; from = a; to = b; cents = x }

-- those of an hour's levels
abbrev pub arrays_of : HourLevels → Arrays
arrays_of r = in_arrays r.from r.to r.cents r.count

-- the lamination at place i of the arrays, from 0
abbrev pub lamination_at : Arrays → ℕ → Shown
lamination_at r i = shown_as energy (suc i) (get_or r.from i 0) (get_or r.to i 0) (get_or r.cents i 0)

-- n laminations from place i on
unfoldable pub laminations_from : Arrays → ℕ → ℕ → List Shown
laminations_from r i zero = []
laminations_from r i (suc n) = lamination_at r i ∷ laminations_from r (suc i) n

-- a level without laminations, where the technology holds it
unfoldable pub single_of : ℕ → ℕ → ℕ → List Shown
single_of t v x = cond (holds t v) (shown_as v 0 0 0 x ∷ []) []

-- all lines that an answer shows
unfoldable pub unpacked : HourLevels → List Shown
unpacked r =
    laminations_from (arrays_of r) 0 r.count
    ++ single_of r.technology start r.start
    ++ single_of r.technology no_load r.noload
    ++ single_of r.technology reserve r.reserve

-- ---- from lines to the arrays

-- the energy lines of some
unfoldable pub energy_lines : List Line → List Line
energy_lines [] = []
energy_lines (x ∷ l) = cond (eqb x.level energy) (x ∷ energy_lines l) (energy_lines l)

-- a level's amount among some lines, 0 where none has it
unfoldable pub amount_of : ℕ → List Line → ℕ
amount_of v [] = 0
amount_of v (x ∷ l) = cond (eqb x.level v) (amount x) (amount_of v l)

-- n numbers of a list, 0 past its end
unfoldable pub padded : ℕ → List ℕ → List ℕ
padded zero l = []
padded (suc n) [] = 0 ∷ padded n []
padded (suc n) (x ∷ l) = x ∷ padded n l

-- all fields at once, in the order of `HourLevels`
abbrev pub hour_levels : ℕ → ℕ → ℕ → List ℕ → List ℕ → List ℕ → ℕ → ℕ → ℕ → HourLevels
hour_levels t p n a b x s z r =
    record { technology = t; profile = p; count = n; from = a; to = b; cents = x; start = s; noload = z; reserve = r }

-- those beside the laminations at once, in the order of `SingleLevels`
abbrev pub single_levels : ℕ → ℕ → ℕ → ℕ → ℕ → ℕ → SingleLevels
single_levels t p n s z r = record { technology = t; profile = p; count = n; start = s; noload = z; reserve = r }

-- the levels r, with their laminations in arrays a of from, b of to and x of levels
abbrev pub hour_of : SingleLevels → List ℕ → List ℕ → List ℕ → HourLevels
hour_of r a b x = hour_levels r.technology r.profile r.count a b x r.start r.noload r.reserve

-- the levels l of technology t and profile p, packed
unfoldable pub packed : ℕ → ℕ → List Line → HourLevels
packed t p l =
    hour_levels t p (length (energy_lines l))
    (padded 20 (map (λ x. x.from) (energy_lines l)))
    (padded 20 (map (λ x. x.to) (energy_lines l)))
    (padded 20 (map (λ x. amount x) (energy_lines l)))
    (amount_of start l)
    (amount_of no_load l)
    (amount_of reserve l)

-- the levels of a dossier for a query, packed
abbrev pub packed_at : List ℕ → Query → HourLevels
packed_at d q = packed (technology (parameters_at d q)) (profile (parameters_at d q) q.hour) (levels d q)

-- the sum of a level v without laminations, where it is held
unfoldable pub single_sum : Parameters → Amounts → ℕ → ℕ → Sum
single_sum s m p v = cond (eqb v start) (start_cost s m p) (cond (eqb v no_load) (no_load_cost s m p) (adders m p reserve))
