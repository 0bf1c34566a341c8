-- Worked values of the current record: two issues of one fuel price, and of one last charging cost, in either order of arrival; and of fuel
-- with a first hour.
use mathlib.Core.Path.{◌≡◌, refl}
use mathlib.Core.Bool.{true, false}
use mathlib.Core.List.{List, [], ◌∷◌, map}
use Prim.Native.Nat.{ℕ}
use Rattle.lists.specs.Lists.{those}
use Rattle.fields.specs.Numbers.{number}
use Rattle.records.specs.Table.{FU, LC, table, row_of}
use Rattle.records.specs.Record.{mark_in, mark, is_dated, kind_of, kind, since, fields_at, issue, key_in, key_width, key_of}
use Rattle.station.specs.Current.{matches, better, current_from, current, twin}
use Rattle.station.specs.InForce.{come, counts_at, counts}

-- FU of profile 1 with fuel 4.00 dollars, issue 1
older : List ℕ
older = 70 ∷ 85 ∷ 0 ∷ 0 ∷ 0 ∷ 1 ∷ 1 ∷ 0 ∷ 61 ∷ 9 ∷ 0 ∷ 0 ∷ 0 ∷ 0 ∷ 0 ∷ []

-- the same with fuel 5.00 dollars, issue 2
newer : List ℕ
newer = 70 ∷ 85 ∷ 0 ∷ 0 ∷ 0 ∷ 2 ∷ 1 ∷ 0 ∷ 76 ∷ 75 ∷ 64 ∷ 0 ∷ 0 ∷ 0 ∷ 0 ∷ []

in_order : current FU 1 (older ∷ newer ∷ []) ≡ newer
unfolding current current_from better matches kind kind_of is_dated mark mark_in table row_of issue key_of fields_at key_width key_in number older newer
in_order = refl

-- an older issue that arrives behind a newer one does not count
older-behind : current FU 1 (newer ∷ older ∷ []) ≡ newer
unfolding current current_from better matches kind kind_of is_dated mark mark_in table row_of issue key_of fields_at key_width key_in number older newer
older-behind = refl

-- profile 2 has none
other_key : current FU 2 (newer ∷ older ∷ []) ≡ []
unfolding current current_from better matches kind kind_of is_dated mark mark_in table row_of issue key_of fields_at key_width key_in number older newer
other_key = refl

-- LC of 30.00 dollars, issue 6
pub older_cost : List ℕ
older_cost = 76 ∷ 67 ∷ 0 ∷ 0 ∷ 0 ∷ 6 ∷ 1 ∷ 201 ∷ 195 ∷ 128 ∷ []

-- LC of 10.00 dollars, issue 7
pub newer_cost : List ℕ
newer_cost = 76 ∷ 67 ∷ 0 ∷ 0 ∷ 0 ∷ 7 ∷ 0 ∷ 152 ∷ 150 ∷ 128 ∷ []

-- LC has no key, and an older one that arrives behind a newer one does not count, though it says more
pub older-cost-behind : current LC 0 (newer_cost ∷ older_cost ∷ []) ≡ newer_cost
unfolding current current_from better matches kind kind_of is_dated mark mark_in table row_of issue key_of fields_at key_width key_in number older_cost newer_cost
older-cost-behind = refl

-- nor one that arrives before it
older-cost-before : current LC 0 (older_cost ∷ newer_cost ∷ []) ≡ newer_cost
unfolding current current_from better matches kind kind_of is_dated mark mark_in table row_of issue key_of fields_at key_width key_in number older_cost newer_cost
older-cost-before = refl

-- ---- FV of profile 1 with fuel 5.00 dollars

-- issue 2, from hour 200 on
later : List ℕ
later = 70 ∷ 86 ∷ 0 ∷ 0 ∷ 0 ∷ 2 ∷ 0 ∷ 0 ∷ 0 ∷ 200 ∷ 1 ∷ 0 ∷ 76 ∷ 75 ∷ 64 ∷ 0 ∷ 0 ∷ 0 ∷ 0 ∷ []

-- issue 3, from hour 100 on
earlier : List ℕ
earlier = 70 ∷ 86 ∷ 0 ∷ 0 ∷ 0 ∷ 3 ∷ 0 ∷ 0 ∷ 0 ∷ 100 ∷ 1 ∷ 0 ∷ 76 ∷ 75 ∷ 64 ∷ 0 ∷ 0 ∷ 0 ∷ 0 ∷ []

-- of FU and the later one, FU counts until hour 199, and each counts at some hour
not_yet : (current FU 1 (come 199 (older ∷ later ∷ [])) ≡ older) × (current FU 1 (come 200 (older ∷ later ∷ [])) ≡ later) × (map (counts (older ∷
    later ∷ [])) (older ∷ later ∷ []) ≡ true ∷ true ∷ [])
unfolding counts counts_at come those since current current_from better matches kind kind_of is_dated mark mark_in table row_of issue key_of fields_at key_width
    key_in number older later
not_yet = (refl, refl, refl)

-- with the earlier one, of a higher issue, the later one counts at no hour
never : (current FU 1 (come 200 (earlier ∷ older ∷ later ∷ [])) ≡ earlier) × (map (counts (earlier ∷ older ∷ later ∷ [])) (earlier ∷ older ∷ later ∷ [])
    ≡ true ∷ true ∷ false ∷ [])
unfolding counts counts_at come those since current current_from better matches kind kind_of is_dated mark mark_in table row_of issue key_of fields_at key_width
    key_in number older later earlier
never = (refl, refl)

-- an FU and an FV of one key and issue are twins, and of another issue none
shared-key : (twin newer later ≡ true) × (twin later newer ≡ true) × (twin older later ≡ false)
unfolding twin kind kind_of is_dated mark mark_in table row_of issue key_of fields_at key_width key_in number older newer later
shared-key = (refl, refl, refl)
