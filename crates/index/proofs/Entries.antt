-- Laws of the record reader: by mark, and for the loops.
use mathlib.Core.Path.{◌≡◌, refl, ap, ap₂, sym, ◌∙◌}
use mathlib.Core.Bool.{Bool, true, false, cond}
use mathlib.Core.List.{List}
use Prim.Native.Nat.{ℕ, ◌≤◌, ◌<◌, ◌+◌, ◌*◌}
use native.Mathlib.Omega.{arith}
use lib.Dec.{ltb, eqb}
use Rattle.std.specs.Prelude.{Ok, Err}
use lib.ListN.{length}
use borrow.Author.Tests.{lt-ltb, le-ltb}
use Rattle.fields.specs.Numbers.{number}
use Rattle.fields.proofs.Numbers.{number-join}
use Rattle.records.specs.Table.{table}
use Rattle.records.specs.Record.{mark_in, mark, is_dated, size, fault, ranges_hold}
use Rattle.records.specs.MarkShapes.{begins}
use Rattle.records.specs.Dossier.{first_of}
use Rattle.records.specs.Walk.{Found, Record, Faulty, found}
use Rattle.records.proofs.Walk.{found-record, found-fault}
use Rattle.records.proofs.Read.{fault-first, found-short, found-unknown, found-known, begun}
use Rattle.index.specs.declared.Entry.{Entry}
use Rattle.index.specs.declared.Sound.{Sound}
use Rattle.index.specs.declared.Sound.TheVariants.{Undated, Dated}
use Rattle.index.specs.declared.Fault.{Fault}
use Rattle.index.specs.declared.Fault.TheVariants.{UnknownMark, CutShort, OutsideRange}
use Rattle.index.specs.Slots.{slot_at}
use Rattle.index.specs.Entries.{fault_number, fault_numbered, Reading, entry, entry_as, sound_as, placed, reading_of, reading_as}

-- ---- a key of two to four one-byte fields, from byte o on

pub two_fields : (o : ℕ) (s : List ℕ) → number o 1 s * 256 + number (o + 1) 1 s ≡ number o 2 s
two_fields o s = sym (number-join o 1 1 s)

pub three-fields : (o : ℕ) (s : List ℕ) → number o 1 s * 65536 + number (o + 1) 1 s * 256 + number (o + 2) 1 s ≡ number o 3 s
three-fields o s = omega (arith, number-join o 2 1 s, number-join o 1 1 s)

pub four-fields : (o : ℕ) (s : List ℕ)
    → number o 1 s * 16777216 + number (o + 1) 1 s * 65536 + number (o + 2) 1 s * 256 + number (o + 3) 1 s ≡ number o 4 s
four-fields o s = omega (arith, number-join o 3 1 s, three-fields o s)

-- ---- the arm of mark k

module _ (k : ℕ) (s : List ℕ) where
  pub as_short : length s < size k → Err CutShort ≡ reading_as k s
  unfolding reading_as
  as_short h = rw (lt-ltb (length s) (size k) h) refl

  pub as_outside : size k ≤ length s → false ≡ ranges_hold k s → Err OutsideRange ≡ reading_as k s
  unfolding reading_as
  as_outside h r = rw (le-ltb (length s) (size k) h, ← r) refl

  pub as_sound : {x : Sound} {t : Bool} {e : Entry} → size k ≤ length s → true ≡ ranges_hold k s → e ≡ entry_as k s → t ≡ is_dated k
      → x ≡ cond t (Dated e) (Undated e) → Ok x ≡ reading_as k s
  unfolding reading_as sound_as
  as_sound h r q u z = rw (le-ltb (length s) (size k) h, ← r, z, q, u) refl

-- the entry of the rest's own mark
pub entry-as : {k : ℕ} (s : List ℕ) → mark s ≡ k → entry_as k s ≡ entry_as (mark s) s
entry-as s e = ap (λ (j : ℕ). entry_as j s) (sym e)

-- a known mark
pub reading-known : (k : ℕ) (s : List ℕ) → 2 ≤ length s → mark s ≡ k → eqb k 0 ≡ false → reading_as k s ≡ reading_of s
unfolding reading_as reading_of
reading-known k s h e z = go (ltb (length s) (size k)) (ranges_hold k s) ∙ sym (ap (placed s) (found-known k s h e z))
  where
    go : (x y : Bool) → cond x (Err CutShort) (cond y (Ok (sound_as k (entry_as k s))) (Err OutsideRange))
        ≡ placed s (cond x (Faulty 2) (cond y (Record k (size k)) (Faulty 3)))
    go true y = unfold placed fault_numbered in refl
    go false true = unfold placed in refl
    go false false = unfold placed fault_numbered in refl

-- two letters that are mark k's, in a rest that has them
pub reading-as : (a b k : ℕ) (s : List ℕ) → mark_in 1 table a b ≡ k → eqb k 0 ≡ false → 2 ≤ length s → begins s a b ≡ true → reading_as k s ≡ reading_of s
reading-as a b k s m z h e = reading-known k s h (begun a b s e ∙ m) z

-- the fault of a rest that is long enough for its mark
pub fault-ranges : (k : ℕ) (s : List ℕ) → size k ≤ length s → (f : Fault) → reading_as k s ≡ Err f → OutsideRange ≡ f
unfolding reading_as
fault-ranges k s h f e = go (ranges_hold k s) (rw (le-ltb (length s) (size k) h) at e)
  where
    go : (x : Bool) → cond x (Ok (sound_as k (entry_as k s))) (Err OutsideRange) ≡ Err f → OutsideRange ≡ f
    go true q = cc q
    go false q = cc q

pub reading-short : (s : List ℕ) → length s < 2 → Err CutShort ≡ reading_of s
unfolding reading_of placed fault_numbered
reading-short s h = ap (placed s) (found-short s h)

pub reading-unknown : (s : List ℕ) → 2 ≤ length s → mark s ≡ 0 → Err UnknownMark ≡ reading_of s
unfolding reading_of placed fault_numbered
reading-unknown s h e = ap (placed s) (found-unknown s h e)

-- ---- for the loops: what was read was found

-- a record without fault with its entry, and whether it has a first hour
abbrev pub FoundAs : Bool → List ℕ → Entry → Type 0
FoundAs b s e = (fault (first_of s) ≡ 0) × (e ≡ entry_as (mark s) s) × (is_dated (mark s) ≡ b)

module _ (s : List ℕ) where
  entry_found : (e : Entry) (k n : ℕ) (b : Bool) → found s ≡ Record k n → is_dated k ≡ b → entry n (slot_at k s) ≡ e → FoundAs b s e
  entry_found e k n b q u y =
      let z = found-record s k n q in
      (z.2, sym y ∙ ap₂ (λ (i j : ℕ). entry i (slot_at j s)) z.1 z.0, sym (ap is_dated z.0) ∙ u)

  pub entry_read : (b : Bool) (e : Entry) → reading_of s ≡ Ok (cond b (Dated e) (Undated e)) → FoundAs b s e
  unfolding reading_of placed sound_as
  entry_read b e = go (found s) refl
    where
      pick : (k n : ℕ) → found s ≡ Record k n → (t u : Bool) → is_dated k ≡ t → ◌≡◌ {A = Reading}
          (Ok (cond t (Dated (entry n (slot_at k s))) (Undated (entry n (slot_at k s))))) (Ok (cond u (Dated e) (Undated e))) → FoundAs u s e
      pick k n q true true z h = entry_found e k n true q z (cc h)
      pick k n q true false z h = cc h
      pick k n q false true z h = cc h
      pick k n q false false z h = entry_found e k n false q z (cc h)

      go : (f : Found) → found s ≡ f → placed s f ≡ Ok (cond b (Dated e) (Undated e)) → FoundAs b s e
      go (Record k n) q h = pick k n q (is_dated k) b refl h
      go (Faulty m) q h = cc h

  -- a fault has one of three numbers
  pub fault-numbered : (m : ℕ) → found s ≡ Faulty m → fault_number (fault_numbered m) ≡ m
  unfolding fault_numbered
  fault-numbered m e =
      let z = found-fault s m e in
      go (ltb (length s) 2) (eqb (mark s) 0) (ltb (length s) (size (mark s))) (ranges_hold (mark s) s) (z.0 ∙ fault-first s) (λ q. z.1 (sym z.0 ∙ q))
    where
      go : (a b c d : Bool) → m ≡ cond a 2 (cond b 1 (cond c 2 (cond d 0 3))) → (m ≡ 0 → ⊥) → fault_number (fault_numbered m) ≡ m
      go true b c d q h = rw q refl
      go false true c d q h = rw q refl
      go false false true d q h = rw q refl
      go false false false true q h = absurd (h q)
      go false false false false q h = rw q refl

  pub fault-found : (f : Fault) → reading_of s ≡ Err f → found s ≡ Faulty (fault_number f)
  unfolding reading_of placed
  fault-found f = go (found s) refl
    where
      go : (g : Found) → found s ≡ g → placed s g ≡ Err f → found s ≡ Faulty (fault_number f)
      go (Record k n) q h = cc h
      go (Faulty m) q h = q ∙ ap Faulty (sym (fault-numbered m q)) ∙ ap (λ (x : Fault). Faulty (fault_number x)) (cc h)
