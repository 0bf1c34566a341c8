-- From the index to the lookup.
use mathlib.Core.Path.{◌≡◌, refl, ap, ◌∙◌}
use mathlib.Core.Bool.{Bool, true, false, cond, ◌&&◌}
use mathlib.Core.List.{List, [], ◌∷◌}
use Prim.Native.Nat.{ℕ, ◌+◌, ◌≤◌, ◌<◌}
use native.Mathlib.Nat.{le_trans}
use native.Mathlib.Omega.{arith}
use lib.Dec.{eqb, leb}
use lib.ListN.{length}
use borrow.Author.Tests.{eq-eqb, ne_eqb, leb-true}
use Rattle.std.specs.Prelude.{Ok, Err}
use Rattle.lists.specs.Tests.{every_of}
use Rattle.lists.proofs.Tests.{every_of-at}
use Rattle.fields.specs.Numbers.{number}
use Rattle.records.specs.Table.{Row, table, no_row, row_of, kinds}
use Rattle.records.specs.Record.{mark, kind_of, key_in, key_width}
use Rattle.records.specs.Answers.{Accepted, Answer, is_accepted, Refused}
use Rattle.records.specs.Dossier.{records}
use Rattle.station.specs.Current.{longest, current, readable, lookup, lookup_bytes}
use Rattle.station.proofs.Current.{too_long}
use Rattle.index.specs.Slots.{wide}
use Rattle.lookup.specs.declared.Part.{Part}
use Rattle.lookup.specs.Parts.{part, part_bytes, current_part, lookup_part, index_of}
use Rattle.lookup.proofs.Parts.{slots-most, current-bytes, current-ends}
use Rattle.lookup.proofs.Opening.{accepted-indexed}

-- no key is wider than four bytes
pub width-le : (k : ℕ) → key_width k ≤ 4
unfolding key_width row_of table every_of key_in
width-le k = leb-true (key_width k) 4 (every_of-at (λ (x : Row). leb (key_in x.fields) 4) (no_row ∷ table) no_row refl refl k)

-- ---- the lookup by start and length

module _ (d : List ℕ) (k n : ℕ) (b : k < kinds) where
  by_answer : (P : Part → List ℕ → Type 0) → (Accepted ≡ readable d → P (current_part k n (records d)) (current k n (records d))) → P (part 0 0) []
      → P (lookup_part d k n) (lookup d k n)
  unfolding lookup_part lookup
  by_answer P p q = go (readable d) refl
    where
      go : (a : Answer) → a ≡ readable d → P (cond (is_accepted a) (current_part k n (records d)) (part 0 0)) (cond (is_accepted a) (current k n (records d)) [])
      go (Ok x) e = unfold is_accepted in p e
      go (Err r) e = unfold is_accepted in q

  -- its bytes are the part that the lookup hands back
  pub lookup-bytes : part_bytes d (lookup_part d k n) ≡ lookup d k n
  lookup-bytes =
      by_answer (λ p l. part_bytes d p ≡ l) (λ e. let a =
      accepted-indexed d e in current-bytes d (index_of wide d) a.0 k n b (le_trans (slots-most k) a.1)) (unfold part_bytes in refl)

  pub lookup-ends : {p : Part} → p ≡ lookup_part d k n → p.start + p.length ≤ length d
  lookup-ends q =
      rw q (by_answer (λ p l. p.start + p.length ≤ length d) (λ e. let a = accepted-indexed d e in current-ends d (index_of wide d) a.0 k n b
      (le_trans (slots-most k) a.1) refl) (omega arith))

pub part-accepted : (d : List ℕ) (k n : ℕ) → Accepted ≡ readable d → current_part k n (records d) ≡ lookup_part d k n
unfolding lookup_part is_accepted
part-accepted d k n e = rw (← e) refl

pub part-refused : (d : List ℕ) (k n m p : ℕ) → Refused m p ≡ readable d → part 0 0 ≡ lookup_part d k n
unfolding lookup_part is_accepted
part-refused d k n m p e = rw (← e) refl

-- a dossier that is too long has no current record to hand back
pub part-overlong : (d : List ℕ) (k n : ℕ) → longest < length d → part 0 0 ≡ lookup_part d k n
part-overlong d k n h = part-refused d k n 13 0 (too_long d h)

-- ---- by the bytes of mark and key

pub looked : (d m key : List ℕ) {k n : ℕ} {p : Part} {l : List ℕ} → k < kinds → l ≡ part_bytes d p → p ≡ lookup_part d k n → k ≡ kind_of (mark m)
    → n ≡ number 0 (length key) key → length m ≡ 2 → length key ≡ key_width (mark m) → l ≡ lookup_bytes d m key
unfolding lookup_bytes
looked d m key {k} {n} b e q g i t w =
    e ∙ ap (part_bytes d) q ∙ lookup-bytes d k n b ∙ rw (eq-eqb (length m) 2 t, eq-eqb (length key) (key_width (mark m)) w, g, i) refl

pub other_width : (d m key : List ℕ) → (length key ≡ key_width (mark m) → ⊥) → [] ≡ lookup_bytes d m key
unfolding lookup_bytes
other_width d m key w = rw (ne_eqb (length key) (key_width (mark m)) w) (go (eqb (length m) 2))
  where
    go : (b : Bool) → [] ≡ cond (b && false) (lookup d (kind_of (mark m)) (number 0 (length key) key)) []
    go true = refl
    go false = refl
