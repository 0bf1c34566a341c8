-- The index: a slot for each kind and key, which holds the current record so far.
use Rattle.std.specs.Prelude.{Bool, true, false, cond, ◌&&◌, ◌||◌, not, List, ℕ, zero, suc, ◌+◌, ◌*◌, ◌/◌, ◌%◌, leb, ltb, eqb, length, get_or, set, replicate}
use Rattle.lists.specs.Tests.{all_below}
use Rattle.fields.specs.Numbers.{number}
use Rattle.records.specs.Record.{mark, is_dated, kind_of, kind, fields_at, issue, key_width, key_of}
use Rattle.records.specs.Walk.{Step, Walked, ended, stopped}
use Rattle.index.specs.Passed.{Passed, Ended, Stopped}

-- ---- the slot of a kind and key: mixed radix, the kinds one after the other; behind those that every station may have HR, AO, CH and LC, FP last

-- by the key as a number; key fields count from 1, so no field is lessened
unfoldable pub slot : ℕ → ℕ → ℕ
slot zero n = 0
slot (suc zero) n = 0
slot (suc (suc zero)) n = n
slot (suc (suc (suc zero))) n = 21 + n
slot (suc (suc (suc (suc zero)))) n = 1 + n / 65536 * 20 + n / 256 % 256 * 4 + n % 256
slot (suc (suc (suc (suc (suc zero))))) n = 97 + n / 256 * 8 + n % 256
slot (suc (suc (suc (suc (suc (suc zero)))))) n = 137 + n
slot (suc (suc (suc (suc (suc (suc (suc zero))))))) n = 165 + n
slot (suc (suc (suc (suc (suc (suc (suc (suc zero)))))))) n = 493 + n
slot (suc (suc (suc (suc (suc (suc (suc (suc (suc zero))))))))) n = 149 + n / 256 * 4 + n % 256
slot (suc (suc (suc (suc (suc (suc (suc (suc (suc (suc zero)))))))))) n = 2510 + n
slot (suc (suc (suc (suc (suc (suc (suc (suc (suc (suc (suc zero))))))))))) n = 2510
slot (suc (suc (suc (suc (suc (suc (suc (suc (suc (suc (suc (suc k)))))))))))) n = 229 + n / 16777216 * 80 + n / 65536 % 256 * 20 + n / 256 % 256 * 4 + n % 256

-- the slots of marks that every station may have, which come first, of HR and of AO: an index may end behind them
abbrev pub short : ℕ
short = 494

-- the slots of all marks but FP, whose slots come last: an index may do without them
abbrev pub narrow : ℕ
narrow = 2511

-- and with them
abbrev pub wide : ℕ
wide = 6511

-- of a record of mark k at the front of the rest of a dossier, read in place
unfoldable pub slot_at : ℕ → List ℕ → ℕ
slot_at k s = slot (kind_of k) (number (fields_at k) (key_width k) s)

-- ---- what a slot holds: the place of the current record so far, plus 1; 0 for none

-- the issue of the record that a slot of value v holds in dossier d, plus 1; 0 where it holds none that the dossier could have
unfoldable pub held_issue : List ℕ → ℕ → ℕ
held_issue d v = cond (eqb v 0 || ltb (length d) (v + 5)) 0 (number (v + 1) 4 d + 1)

-- of a slot's value v and the next w, the next if its issue b is not below the issue a that is held
abbrev pub newer : ℕ → ℕ → ℕ → ℕ → ℕ
newer a b v w = cond (leb a b) w v

-- the higher of two slots
abbrev pub higher : ℕ → ℕ → ℕ
higher a b = cond (ltb a b) b a

-- the index, whether every issue so far was above all earlier ones of its kind and key, the highest slot of a record, and whether one had a first hour
pub record Kept : Type 0 where
  pub slots : List ℕ
  pub rising : Bool
  pub top : ℕ
  pub dated : Bool

-- all four at once
abbrev pub kept : List ℕ → Bool → ℕ → Bool → Kept
kept l b m f = record { slots = l; rising = b; top = m; dated = f }

-- an index of w empty slots, before the first record
abbrev pub fresh : ℕ → Kept
fresh w = kept (replicate w 0) true 0 false

-- a record r at place p of dossier d goes into the slot of its kind and key, unless a higher issue is there; one without a slot is passed over
unfoldable pub put : List ℕ → List ℕ → ℕ → List ℕ → List ℕ
put d ix p r =
    let j = slot (kind r) (key_of r) in
    let v = get_or ix j 0 in
    set ix j (newer (held_issue d v) (issue r + 1) v (p + 1))

-- and it is noted whether its issue was above all earlier ones, how high its slot is, and whether it has a first hour
unfoldable pub keep_step : List ℕ → Step Kept
keep_step d x p r =
    let j = slot (kind r) (key_of r) in
    kept (put d x.slots p r) (x.rising && ltb (held_issue d (get_or x.slots j 0)) (issue r + 1)) (higher x.top j) (x.dated || is_dated (mark r))

-- what the pass answers
unfoldable pub pass_of : Walked Kept → Passed
pass_of (ended x) = Ended x.rising x.top x.dated
pass_of (stopped n p) = Stopped n p

-- and the index that it leaves, l where it stopped
unfoldable pub slots_of : List ℕ → Walked Kept → List ℕ
slots_of l (ended x) = x.slots
slots_of l (stopped n p) = l

-- n slots from slot j on are empty
unfoldable pub slots_empty : List ℕ → ℕ → ℕ → Bool
slots_empty ix j n = all_below n (λ i. eqb (get_or ix (j + i) 0) 0)

-- none of n slots from slot j on is
unfoldable pub slots_full : List ℕ → ℕ → ℕ → Bool
slots_full ix j n = all_below n (λ i. not (eqb (get_or ix (j + i) 0) 0))
