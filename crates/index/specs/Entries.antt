-- What the record reader answers: what is found, with its slot.
use Rattle.std.specs.Prelude.{cond, List, ℕ, ltb, eqb, length, Result, Ok, Err}
use Rattle.records.specs.Record.{is_dated, size, ranges_hold}
use Rattle.records.specs.Walk.{Found, Record, Faulty, found}
use Rattle.index.specs.declared.Entry.{Entry}
use Rattle.index.specs.declared.Sound.{Sound}
use Rattle.index.specs.declared.Sound.TheVariants.{Undated, Dated}
use Rattle.index.specs.declared.Fault.{Fault}
use Rattle.index.specs.declared.Fault.TheVariants.{UnknownMark, CutShort, OutsideRange}
use Rattle.index.specs.Slots.{slot_at}

-- the paper's number of a fault: "1 unknown mark; 2 record cut short; 3 field outside its range"
abbrev pub fault_number : Fault → ℕ
fault_number UnknownMark = 1
fault_number CutShort = 2
fault_number OutsideRange = 3

-- and the fault of such a number, the law `fault-numbered`
unfoldable pub fault_numbered : ℕ → Fault
fault_numbered n = cond (eqb n 1) UnknownMark (cond (eqb n 2) CutShort OutsideRange)

-- a record without fault, or a fault
abbrev pub Reading : Type 0
Reading = Result Sound Fault

-- a length and a slot
abbrev pub entry : ℕ → ℕ → Entry
entry n j = record { len = n; slot = j }

-- the length and the slot of a record of mark k
abbrev pub entry_as : ℕ → List ℕ → Entry
entry_as k s = entry (size k) (slot_at k s)

-- of a record of mark k without fault: it is told apart whether it has a first hour
unfoldable pub sound_as : ℕ → Entry → Sound
sound_as k e = cond (is_dated k) (Dated e) (Undated e)

-- what is found, with its slot
unfoldable pub placed : List ℕ → Found → Reading
placed s (Record k n) = Ok (sound_as k (entry n (slot_at k s)))
placed s (Faulty m) = Err (fault_numbered m)

-- at the front of the rest of a dossier
unfoldable pub reading_of : List ℕ → Reading
reading_of s = placed s (found s)

-- the same of a rest that begins with mark k
unfoldable pub reading_as : ℕ → List ℕ → Reading
reading_as k s =
    cond (ltb (length s) (size k)) (Err CutShort)
    (cond (ranges_hold k s) (Ok (sound_as k (entry_as k s))) (Err OutsideRange))
