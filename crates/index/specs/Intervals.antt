-- The charging week as the pass reads it: the record of an interval, and the sums over what the intervals' slots hold.
use Rattle.std.specs.Prelude.{◌≡◌, Bool, cond, ◌&&◌, List, ℕ, ◌+◌, ◌*◌, ◌≤◌, leb, eqb, length, get_or, drop}
use Rattle.lists.specs.Sums.{sum_to}
use Rattle.fields.specs.Numbers.{number, biased}
use Rattle.records.specs.Table.{CH}
use Rattle.records.specs.Record.{mark, size, ranges_hold}
use Rattle.station.specs.Week.{intervals}
use Rattle.index.specs.declared.charging.Interval.{Interval}
use Rattle.index.specs.Slots.{slot}

-- what a CH at the front of a rest says: its interval, its issue plus 1, its price plus 2^31 and its energy
unfoldable pub interval_as : List ℕ → Interval
interval_as s = record { n = number 6 2 s; issue = number 2 4 s + 1; price = biased (number 8 4 s); energy = number 12 4 s }

-- interval 0, of which there is no record
abbrev pub no_interval : Interval
no_interval = record { n = 0; issue = 0; price = 0; energy = 0 }

-- a CH without fault is at the front of a rest
unfoldable pub is_interval : List ℕ → Bool
is_interval s = leb (size CH) (length s) && eqb (mark s) CH && ranges_hold CH s

-- what is read at a place of a dossier
unfoldable pub interval_at : List ℕ → ℕ → Interval
interval_at d at = cond (is_interval (drop at d)) (interval_as (drop at d)) no_interval

-- the price plus 2^31 of the record that a slot of value v holds in dossier d, 0 where it holds none
unfoldable pub held_price : List ℕ → ℕ → ℕ
held_price d v = cond (eqb v 0) 0 (biased (number (v + 7) 4 d))

-- its energy, in the same way
unfoldable pub held_energy : List ℕ → ℕ → ℕ
held_energy d v = cond (eqb v 0) 0 (number (v + 11) 4 d)

-- the price that the slot of interval n holds
abbrev pub slot_price : List ℕ → List ℕ → ℕ → ℕ
slot_price d ix n = held_price d (get_or ix (slot CH n) 0)

-- and the energy
abbrev pub slot_energy : List ℕ → List ℕ → ℕ → ℕ
slot_energy d ix n = held_energy d (get_or ix (slot CH n) 0)

-- price × energy and energy over the slots of all intervals, none of which holds more than a CH may say, or what the dossier hasn't
pub record HeldSums (d ix : List ℕ) (cost energy : ℕ) : Type 0 where
  pub cost-sum : cost ≡ sum_to intervals (λ n. slot_price d ix n * slot_energy d ix n)
  pub energy-sum : energy ≡ sum_to intervals (slot_energy d ix)
  pub price-high : (n : ℕ) → 1 ≤ n → n ≤ intervals → slot_price d ix n ≤ 2147683648
  pub energy-high : (n : ℕ) → 1 ≤ n → n ≤ intervals → slot_energy d ix n ≤ 1000000
  pub within : (n : ℕ) → 1 ≤ n → n ≤ intervals → 1 ≤ get_or ix (slot CH n) 0 → get_or ix (slot CH n) 0 + 15 ≤ length d

-- the same of a list of two sums
abbrev pub HeldIn : List ℕ → List ℕ → List ℕ → Type 0
HeldIn d ix l = HeldSums d ix (get_or l 0 0) (get_or l 1 0)
