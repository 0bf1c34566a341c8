-- The current records through the index, and where they lie in the dossier.
use Rattle.std.specs.Prelude.{Bool, true, false, cond, ◌||◌, not, List, [], ◌≡◌, ℕ, ◌+◌, ◌-◌, ◌≤◌, ◌<◌, ltb, eqb, length, get_or, take, drop, replicate}
use Rattle.lists.specs.Lists.{Each, those}
use Rattle.lists.specs.Tests.{every_of, same}
use Rattle.records.specs.Table.{CH, FP, LC}
use Rattle.records.specs.Record.{mark, kind, size, key_of}
use Rattle.records.specs.Answers.{Answer, Accepted, refuse_if, is_accepted}
use Rattle.records.specs.Dossier.{records, scan}
use Rattle.records.specs.Walk.{folded, walk}
use Rattle.station.specs.Current.{current, start_of, longest, readable}
use Rattle.station.specs.InForce.{Query, in_force, varies}
use Rattle.station.specs.Parameters.{Parameters, Amounts, parameters, amounts}
use Rattle.index.specs.Passed.{Passed, Stopped}
use Rattle.index.specs.Slots.{slot, short, narrow, wide, fresh, keep_step, pass_of}
use Rattle.index.specs.Holding.{held_record, IndexOf}
use Rattle.lookup.specs.declared.Part.{Part}

-- a part by its start and its length
abbrev pub part : ℕ → ℕ → Part
part a n = record { start = a; length = n }

-- the bytes of a part of a dossier
unfoldable pub part_bytes : List ℕ → Part → List ℕ
part_bytes d p = take p.length (drop p.start d)

-- the current record of a kind and key by where it starts and how long it is, 0 and 0 where there is none
unfoldable pub current_part : ℕ → ℕ → List (List ℕ) → Part
current_part k n l = part (start_of k n l) (length (current k n l))

-- the part that `lookup` hands back, by start and length; the law `lookup-bytes` says that its bytes are that part
unfoldable pub lookup_part : List ℕ → ℕ → ℕ → Part
lookup_part d k n = cond (is_accepted (readable d)) (current_part k n (records d)) (part 0 0)

-- ---- through the index

-- the index of w slots of a dossier
unfoldable pub index_of : ℕ → List ℕ → List ℕ
index_of w d = (folded (keep_step d) 0 (fresh w) (records d)).slots

-- "13; records in turn with 1, 2, 3": the refusal, or what a pass with w slots says of the issues, the highest slot and first hours
unfoldable pub scanned : ℕ → List ℕ → Passed
scanned w d = cond (ltb longest (length d)) (Stopped 13 0) (pass_of (walk (keep_step d) (fresh w) d))

-- an index before the pass: empty slots, those that come first or more
abbrev pub Empty : List ℕ → Type 0
Empty ix = (short ≤ length ix) × (ix ≡ replicate (length ix) 0)

-- no record is of CH, FP or LC, whose slots come last: a short index has a slot for each
unfoldable pub fits_short : List ℕ → Bool
fits_short d = every_of (λ r. not (eqb (mark r) CH || eqb (mark r) FP || eqb (mark r) LC)) (records d)

-- "13 dossier too long", before it is read
abbrev pub too_long : List ℕ → Answer
too_long d = refuse_if (ltb longest (length d)) 13 0

-- where the record of a slot of value v stands in a dossier of e bytes, n being its length; nowhere if there is none
abbrev pub place_in : ℕ → ℕ → ℕ → Part
place_in e v n = cond (eqb v 0 || ltb e (v - 1 + n)) (part 0 0) (part (v - 1) n)

-- the same of slot j
unfoldable pub place_at : ℕ → List ℕ → ℕ → ℕ → Part
place_at e ix j n = place_in e (get_or ix j 0) n

-- the part of the dossier where it stands
unfoldable pub part_at : List ℕ → List ℕ → ℕ → ℕ → List ℕ
part_at d ix j n = part_bytes d (place_at (length d) ix j n)

-- where the fields of the record of a slot of value v lie as its kind's do: behind a first hour, which V as second letter tells
abbrev pub body_start : List ℕ → ℕ → ℕ
body_start d v = v - 1 + cond (eqb (get_or d v 0) 86) 4 0

-- what the record of a slot of value v says there, n being the length of its kind's records; nothing if there is none
unfoldable pub body_of : List ℕ → ℕ → ℕ → List ℕ
body_of d v n = cond (eqb v 0) [] (take n (drop (body_start d v) d))

-- the same of slot j
unfoldable pub body_at : List ℕ → List ℕ → ℕ → ℕ → List ℕ
body_at d ix j n = body_of d (get_or ix j 0) n

-- the record of a slot of value v, if there is one, lies in the dossier
abbrev pub RecordIn : List ℕ → ℕ → ℕ → Type 0
RecordIn d v n = (v ≡ 0 → ⊥) → v - 1 + n ≤ length d

-- and so do its fields
abbrev pub BodyIn : List ℕ → ℕ → ℕ → Type 0
BodyIn d v n = (v ≡ 0 → ⊥) → (v < length d) × (body_start d v + n ≤ length d)

-- the whole record of a slot of value v, as long as its own mark says
unfoldable pub record_part : List ℕ → ℕ → Part
record_part d v = cond (eqb v 0 || ltb (length d) v) (part 0 0) (part (v - 1) (size (mark (drop (v - 1) d))))

-- a dossier that draws none of 1 to 3 and 13, with the index that a pass fills
pub record Whole (d ix : List ℕ) : Type 0 where
  pub roomy : short ≤ length ix
  pub short : length d ≤ 60000
  pub clean : scan 0 (records d) ≡ Accepted
  pub here : ix ≡ index_of (length ix) d

-- with an index of the records in force for a query
abbrev pub AtQuery : Query → List ℕ → List ℕ → Type 0
AtQuery q d ix = IndexOf (in_force q (records d)) d ix

-- with an index of some of its records: of kinds of which queries may see other records those that a test holds of, which no contract names, and of others all
pub record Indexed (d ix : List ℕ) : Type 0 where
  pub keep : List ℕ → Bool
  pub others : (r : List ℕ) → varies (kind r) ≡ false → keep r ≡ true
  pub index : IndexOf (those keep (records d)) d ix

-- a record stands in its slot, if queries may see other records of its kind
unfoldable pub stands : List ℕ → List ℕ → List ℕ → Bool
stands d ix r = not (varies (kind r)) || same r (held_record d (get_or ix (slot (kind r) (key_of r)) 0))

-- the records of which the index at hand holds the current ones
unfoldable pub held : List ℕ → List ℕ → List (List ℕ)
held d ix = those (stands d ix) (records d)

-- what they say, without money
abbrev pub parameters_held : List ℕ → List ℕ → Parameters
parameters_held d ix = parameters (held d ix)

-- the money
abbrev pub amounts_held : List ℕ → List ℕ → Amounts
amounts_held d ix = amounts (held d ix)

-- every record of the dossier has a slot in the index
abbrev pub Complete : List ℕ → List ℕ → Type 0
Complete d ix = Each (λ r. slot (kind r) (key_of r) < length ix) (records d)

-- no record of the dossier has a slot above m
abbrev pub UpTo : List ℕ → ℕ → Type 0
UpTo d m = Each (λ r. slot (kind r) (key_of r) ≤ m) (records d)

-- how many slots an index has that holds those of kind k
abbrev pub slots_for : ℕ → ℕ
slots_for k = cond (eqb k FP) wide (cond (eqb k CH || eqb k LC) narrow short)
