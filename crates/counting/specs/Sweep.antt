-- How code looks for 6 where some record may not fit: a number for each record that the current one of its kind and key doesn't hide at every hour,
-- without those that one of them hides so, sorted by kind, key and issue, and gone through from behind with the least first hour so far of the kind and
-- key. No paper speaks of this; the law `searched` ties it to `unfit`.
use Rattle.std.specs.Prelude.{◌≡◌, Bool, false, cond, ◌&&◌, ◌||◌, not, List, [], ◌∷◌, ℕ, ◌+◌, ◌-◌, ◌*◌, ◌/◌, ◌%◌, ◌≤◌, ◌<◌, min, leb, ltb, eqb, length, get_or, take, drop}
use Rattle.lists.specs.Lists.{Member, those}
use Rattle.fields.specs.Numbers.{number}
use Rattle.records.specs.Answers.{Answer, Accepted, Refused}
use Rattle.records.specs.Table.{AD, AO}
use Rattle.records.specs.Record.{mark, kind_of, kind, fields_at, key_width, key_of, issue, since, fault}
use Rattle.records.specs.MarkShapes.{shortest}
use Rattle.records.specs.Dossier.{first_of, records}
use Rattle.station.specs.Current.{current, twins}
use Rattle.index.specs.Slots.{slot_at}
use Rattle.lookup.specs.Parts.{Whole, Complete}
use Rattle.rules.specs.Fit.{fits}
use Rattle.trials.specs.Trials.{valued, KeysFit}
use Rattle.counting.specs.declared.Swept.{Swept}

-- ---- what is hidden at every hour

-- by the current record of its kind and key: that has a higher issue, and no later first hour
unfoldable pub hidden : List (List ℕ) → List ℕ → Bool
hidden l r = let c = current (kind r) (key_of r) l in ltb (issue r) (issue c) && leb (since c) (since r)

-- FU and MM are looked at so; any other record is shown if all kinds are sought
unfoldable pub shown : Bool → List (List ℕ) → List ℕ → Bool
shown all l r = (all || valued (mark r)) && not (valued (mark r) && hidden l r)

-- whether the record that a slot of value v holds hides one at the front of s; an FU or MM, with a first hour or without, takes 15 bytes at least
unfoldable pub hides_at : List ℕ → ℕ → List ℕ → Bool
hides_at d v s =
    let c = take 15 (drop (v - 1) d) in
    not (eqb v 0 || ltb (length d) (v + 14)) && (ltb (number 2 4 s) (number 2 4 c) && leb (since c) (since s))

-- of a record of mark k there, by its slot
unfoldable pub hidden_at : List ℕ → List ℕ → ℕ → List ℕ → Bool
hidden_at d ix k s = not (not (valued k) || ltb (length s) 15) && hides_at d (get_or ix (slot_at k s) 0) s

-- ---- a number for each record

-- kind and key in 16 bits: four for the kind, one more kind for each profile of AD, and for AO that of AD, with its key in mixed radix; the law
-- `group-apart` says that no two share it
unfoldable pub group : ℕ → ℕ → ℕ
group k n =
    cond (eqb k AO) (AD * 4096 + (n / 16777216 * 80 + n / 65536 % 256 * 20 + n / 256 % 256 * 4 + n % 256))
    (cond (eqb k AD) (11 + n / 65536) k * 4096 + n % 65536)

-- of a record of mark k at the front of s, read in place
unfoldable pub group_at : ℕ → List ℕ → ℕ
group_at k s = group (kind_of k) (number (fields_at k) (key_width k) s)

-- kind and key, then issue, then place
abbrev pub packed : ℕ → ℕ → ℕ → ℕ
packed g i p = (g * 4294967296 + i) * 65536 + p

-- the numbers of those of some records that a test holds of, the first of all at place p
unfoldable pub ids_from : (List ℕ → Bool) → ℕ → List (List ℕ) → List ℕ
ids_from f p [] = []
ids_from f p (r ∷ l) = let m = ids_from f (p + length r) l in cond (f r) (packed (group (kind r) (key_of r)) (issue r) p ∷ m) m

-- the kind and key in such a number
abbrev pub group_in : ℕ → ℕ
group_in x = x / 281474976710656

-- the place in it
abbrev pub place_in : ℕ → ℕ
place_in x = x % 65536

-- the record that stands at its place
unfoldable pub record_at : List ℕ → ℕ → List ℕ
record_at d x = first_of (drop (place_in x) d)

-- a number is that of a record without fault
pub record Numbered (d : List ℕ) (x : ℕ) : Type 0 where
  pub clean : fault (record_at d x) ≡ 0
  pub inside : place_in x ≤ length d
  pub narrow : issue (record_at d x) < 4294967296
  pub number : x ≡ packed (group (kind (record_at d x)) (key_of (record_at d x))) (issue (record_at d x)) (place_in x)

-- ---- thinned out before they are sorted

-- the record of number b, from hour h on, doesn't hide that of number x at every hour
unfoldable pub kept_by : List ℕ → ℕ → ℕ → ℕ → Bool
kept_by d b h x = (not (eqb (group_in x) (group_in b)) || leb (b / 65536) (x / 65536)) || ltb (since (drop (place_in x) d)) h

-- some numbers are all of others, or those that one of the others doesn't hide
pub data Thinned (d l m : List ℕ) : Type 0 where
  whole : m ≡ l → Thinned d l m
  without : (b : ℕ) → Member b l → m ≡ those (kept_by d b (since (drop (place_in b) d))) l → Thinned d l m

-- ---- from the last number to the first

-- later than every first hour
abbrev pub never : ℕ
never = 4294967296

-- behind every place, and above every kind and key
abbrev pub nowhere : ℕ
nowhere = 65536

-- what is known behind a record: the kind and key of the next, the least first hour of these, the least place of one that counts and doesn't fit
abbrev pub state : ℕ → ℕ → ℕ → Swept
state g h p = record { group = g; least = h; found = p }

-- the least first hour of kind and key g that is known
abbrev pub least_of : Swept → ℕ → ℕ
least_of s g = cond (eqb g s.group) s.least never

-- with one record more, of kind and key g, from hour h on, at place p, that fits or not: it counts if its hour is before all that is known
unfoldable pub swept_by : Swept → ℕ → ℕ → ℕ → Bool → Swept
swept_by s g h p b = state g (min h (least_of s g)) (cond (ltb h (least_of s g) && not b) (min p s.found) s.found)

-- with the record of a number x
unfoldable pub stepped : ℕ → List ℕ → Swept → ℕ → Swept
stepped t d s x =
    swept_by s (group_in x) (since (drop (place_in x) d)) (place_in x) (fits t (mark (drop (place_in x) d)) (drop (place_in x) d))

-- of some numbers
unfoldable pub swept_in : ℕ → List ℕ → List ℕ → Swept
swept_in t d [] = state nowhere never nowhere
swept_in t d (x ∷ l) = stepped t d (swept_in t d l) x

-- ---- what is asked of a dossier and of the room that is lent

-- it is read, draws none of 13 and 1 to 4, and has an index of all its records
abbrev pub Clean : List ℕ → List ℕ → Type 0
Clean d ix = Whole d ix × Complete d ix × (twins 0 [] (records d) ≡ Accepted)

-- where not all kinds are sought, others than FU and MM are known to fit
abbrev pub Sought : Bool → ℕ → List ℕ → Type 0
Sought all t d = all ≡ false → KeysFit t (records d)

-- a number for each record has room: none is shorter
abbrev pub Roomy : List ℕ → ℕ → Type 0
Roomy d n = (length d ≤ shortest * n) × (length d ≤ 60000)

-- 6 at a place, or none
unfoldable pub answer_at : ℕ → Answer
answer_at p = cond (ltb p nowhere) (Refused 6 p) Accepted
