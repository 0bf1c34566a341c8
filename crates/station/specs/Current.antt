-- The current record of a kind and key; 4; the lookup. "A key is shared by old and new mark", so it is a kind that has keys: FU's for FU and FV.
use Rattle.std.specs.Prelude.{Bool, false, cond, ◌&&◌, ◌||◌, List, [], ◌∷◌, ℕ, ◌+◌, leb, ltb, eqb, length}
use Rattle.fields.specs.Numbers.{number}
use Rattle.records.specs.Answers.{Accepted, Answer, or_else, refuse_if, is_accepted}
use Rattle.records.specs.Record.{mark, kind_of, kind, key_width, issue, key_of}
use Rattle.records.specs.Dossier.{records, scan}

-- ---- "Of one mark and key, the highest issue is current."

-- whether a record has the kind and the key
unfoldable pub matches : ℕ → ℕ → List ℕ → Bool
matches k n r = eqb (kind r) k && eqb (key_of r) n

-- of the best record so far and the next one: the next, if it matches and its issue is not lower
unfoldable pub better : ℕ → ℕ → List ℕ → List ℕ → List ℕ
better k n b r = cond (matches k n r && leb (issue b) (issue r)) r b

-- the best of some records after the best one before them
unfoldable pub current_from : ℕ → ℕ → List ℕ → List (List ℕ) → List ℕ
current_from k n b [] = b
current_from k n b (r ∷ l) = current_from k n (better k n b r) l

-- "The current record is found by mark and key": of some records, empty where there is none
unfoldable pub current : ℕ → ℕ → List (List ℕ) → List ℕ
current k n l = current_from k n [] l

-- where it stands, of records from place p on, after the best one before them, b at place q
unfoldable pub start_from : ℕ → ℕ → List ℕ → ℕ → ℕ → List (List ℕ) → ℕ
start_from k n b q p [] = q
start_from k n b q p (r ∷ l) = start_from k n (better k n b r) (cond (matches k n r && leb (issue b) (issue r)) p q) (p + length r) l

-- where the current record of a kind and key stands, the first record at place 0; 0 where there is none
unfoldable pub start_of : ℕ → ℕ → List (List ℕ) → ℕ
start_of k n l = start_from k n [] 0 0 l

-- whether there is one
unfoldable pub present : List ℕ → Bool
present r = ltb 0 (length r)

-- ---- "4 mark, key and issue seen before"; its place is "the first record that has an earlier twin"

-- whether two records have kind, key and issue in common: the key is shared "for 4 as well"
unfoldable pub twin : List ℕ → List ℕ → Bool
twin r s = eqb (kind r) (kind s) && eqb (key_of r) (key_of s) && eqb (issue r) (issue s)

-- whether a record has a twin among some others
unfoldable pub any_twin : List ℕ → List (List ℕ) → Bool
any_twin r [] = false
any_twin r (s ∷ l) = twin r s || any_twin r l

-- of the records from place p on, after those that were seen before it
unfoldable pub twins : ℕ → List (List ℕ) → List (List ℕ) → Answer
twins p seen [] = Accepted
twins p seen (r ∷ l) = or_else (refuse_if (any_twin r seen) 4 p) (twins (p + length r) (r ∷ seen) l)

-- ---- the lookup

-- "At most 60,000 bytes of records"; "60,000 and 60,001 bytes"
abbrev pub longest : ℕ
longest = 60_000

-- "13 dossier too long"; "13; records in turn with 1, 2, 3; then 4"
unfoldable pub readable : List ℕ → Answer
readable d =
    or_else (refuse_if (ltb longest (length d)) 13 0)
    (or_else (scan 0 (records d))
    (twins 0 [] (records d)))

-- "the part of the dossier that holds it is handed back, an empty part if the key is absent or the dossier draws 1 to 4 or 13"
unfoldable pub lookup : List ℕ → ℕ → ℕ → List ℕ
lookup d k n = cond (is_accepted (readable d)) (current k n (records d)) []

-- the same by the bytes of a mark and a key, "the highest issue, under either mark"; a key of another width than the mark's is absent
unfoldable pub lookup_bytes : List ℕ → List ℕ → List ℕ → List ℕ
lookup_bytes d m key = cond (eqb (length m) 2 && eqb (length key) (key_width (mark m))) (lookup d (kind_of (mark m)) (number 0 (length key) key)) []
