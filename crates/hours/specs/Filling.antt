-- The index of an hour, as code makes it of the index of all records: the slots of kinds that may have first hours are emptied and filled again.
use Rattle.std.specs.Prelude.{cond, ◌&&◌, List, ℕ, zero, suc, ◌+◌, leb, get_or, set}
use Rattle.fields.specs.Numbers.{number}
use Rattle.records.specs.Record.{mark, kind_of, kind, datable, since}
use Rattle.records.specs.Dossier.{records}
use Rattle.records.specs.Walk.{Step, folded}
use Rattle.index.specs.Slots.{slot_at, held_issue, newer, put}

-- an index with n slots from slot j on emptied
unfoldable pub cleared : List ℕ → ℕ → ℕ → List ℕ
cleared ix j zero = ix
cleared ix j (suc n) = set (cleared ix j n) (j + n) 0

-- the slot of a record of mark k at the front of a rest, if its kind may have first hours; else 0, which is RS's
unfoldable pub dated_slot : ℕ → List ℕ → ℕ
dated_slot k s = cond (datable (kind_of k)) (slot_at k s) 0

-- what an index becomes with a record that lies at place p of dossier d, at the front of rest s: slot j holds it, unless a higher issue is there
abbrev pub put_at : List ℕ → List ℕ → ℕ → List ℕ → ℕ → List ℕ
put_at d ix p s j = set ix j (newer (held_issue d (get_or ix j 0)) (number 2 4 s + 1) (get_or ix j 0) (p + 1))

-- the same with any record, of which those of such kinds whose first hour has come are put
unfoldable pub hour_at : ℕ → List ℕ → List ℕ → ℕ → List ℕ → List ℕ
hour_at h d ix p s = cond (datable (kind_of (mark s)) && leb (since s) h) (put_at d ix p s (dated_slot (mark s) s)) ix

-- a record of such a kind at place p of dossier d goes into its slot if its first hour has come, unless a higher issue is there
unfoldable pub hour_step : ℕ → List ℕ → Step (List ℕ)
hour_step h d ix p r = cond (datable (kind r) && leb (since r) h) (put d ix p r) ix

-- what an index becomes with those of a dossier
unfoldable pub filled_at : ℕ → List ℕ → List ℕ → List ℕ
filled_at h d ix = folded (hour_step h d) 0 ix (records d)
