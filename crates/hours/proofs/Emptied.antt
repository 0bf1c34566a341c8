-- The slots of kinds that may have first hours: they lie together, apart from those of all other kinds, and an emptied index has them empty.
use mathlib.Core.Path.{◌≡◌, refl, sym, ap, subst, ◌∙◌}
use mathlib.Core.Bool.{Bool, true, false, cond, ◌&&◌, ◌||◌, false≢true}
use mathlib.Core.List.{List, []}
use Prim.Native.Nat.{ℕ, zero, suc, ◌+◌, ◌≤◌, ◌<◌}
use native.Mathlib.Decide.{ℕ_discrete}
use native.Mathlib.Numerals.{add-one}
use native.Mathlib.Omega.{arith}
use lib.Arith.{lt_of_le-ne}
use lib.Dec.{leb, ltb, eqb}
use lib.ListN.{length, get_or, set, replicate, length-set}
use lib.Seq.{get_or-set_same, get_or-set_other, paste}
use borrow.Author.Tests.{ltb-true, leb-true, ne_eqb}
use Rattle.std.proofs.lemmas.List.Edits.{paste_none, fill_from_more}
use Rattle.lists.specs.Tests.{among, all_below}
use Rattle.lists.proofs.Tests.{and_left, and_right, below_at}
use Rattle.records.specs.Table.{table, kinds}
use Rattle.records.specs.Record.{datable}
use Rattle.index.specs.Slots.{slot}
use Rattle.index.proofs.KeyBounds.{InKey}
use Rattle.index.proofs.Slots.{low, high, limits}
use Rattle.hours.specs.Filling.{cleared}

-- ---- where they lie

-- the first of the slots of FU, AD and MM
abbrev pub first_dated : ℕ
first_dated = 22

-- how many they are
abbrev pub many_dated : ℕ
many_dated = 116

-- all of a kind's lie among them, or none
inside : ℕ → Bool
inside k = leb first_dated (low k) && ltb (high k) (first_dated + many_dated)

outside : ℕ → Bool
outside k = ltb (high k) first_dated || leb (first_dated + many_dated) (low k)

lies : ℕ → Bool
lies k = eqb k 0 || cond (datable k) (inside k) (outside k)

its-slots : (k n : ℕ) → InKey k n → cond (datable k) (inside k) (outside k) ≡ true
unfolding lies
its-slots k n p =
    let t : eqb k 0 || cond (datable k) (inside k) (outside k) ≡ true =
    below_at kinds lies (unfold lies inside outside datable among low high table all_below in refl) k p.low in
    rw (ne_eqb k 0 (λ z. omega (arith, z, p.known))) at t

pub dated-slot : (k n : ℕ) → InKey k n → datable k ≡ true → (first_dated ≤ slot k n) × (slot k n < first_dated + many_dated)
unfolding inside
dated-slot k n p h =
    let t : leb first_dated (low k) && ltb (high k) (first_dated + many_dated) ≡ true = rw h at (its-slots k n p) in (
      omega (arith, limits k n p, leb-true first_dated (low k) (and_left (leb first_dated (low k)) (ltb (high k) (first_dated + many_dated)) t)),
      omega (arith, limits k n p, ltb-true (high k) (first_dated + many_dated) (and_right (leb first_dated (low k)) (ltb (high k) (first_dated + many_dated)) t)),
    )

pub other-slot : (k n : ℕ) → InKey k n → datable k ≡ false → first_dated ≤ slot k n → slot k n < first_dated + many_dated → ⊥
unfolding outside
other-slot k n p h a b = go _ _ refl refl (rw h at (its-slots k n p))
  where
    go : (x y : Bool) → ltb (high k) first_dated ≡ x → leb (first_dated + many_dated) (low k) ≡ y → x || y ≡ true → ⊥
    go true y e f w = omega (arith, a, limits k n p, ltb-true (high k) first_dated e)
    go false true e f w = omega (arith, b, limits k n p, leb-true (first_dated + many_dated) (low k) f)
    go false false e f w = false≢true w

-- ---- an index with n slots from slot j on emptied

pub cleared-length : (ix : List ℕ) (j n : ℕ) → length (cleared ix j n) ≡ length ix
unfolding cleared
cleared-length ix j zero = refl
cleared-length ix j (suc n) = length-set (cleared ix j n) (j + n) 0 ∙ cleared-length ix j n

pub cleared-in : (ix : List ℕ) (j n i : ℕ) → i < length ix → j ≤ i → i < j + n → get_or (cleared ix j n) i 0 ≡ 0
unfolding cleared
cleared-in ix j zero i h a b = absurd (omega arith)
cleared-in ix j (suc n) i h a b = go (ℕ_discrete i (j + n)) (λ q. cleared-in ix j n i h a q)
  where
    go : Dec (i ≡ j + n) → (i < j + n → get_or (cleared ix j n) i 0 ≡ 0) → get_or (cleared ix j (suc n)) i 0 ≡ 0
    go (yes e) g = rw e (get_or-set_same (cleared ix j n) (j + n) 0 0 (omega (arith, h, e, cleared-length ix j n)))
    go (no e) g = get_or-set_other (cleared ix j n) (j + n) i 0 0 e ∙ g (lt_of_le-ne (omega arith) e)

pub cleared-out : (ix : List ℕ) (j n i : ℕ) → (j ≤ i → i < j + n → ⊥) → get_or (cleared ix j n) i 0 ≡ get_or ix i 0
unfolding cleared
cleared-out ix j zero i h = refl
cleared-out ix j (suc n) i h =
    get_or-set_other (cleared ix j n) (j + n) i 0 0 (λ e. h (omega (arith, e)) (omega (arith, e)))
    ∙ cleared-out ix j n i (λ a b. h a (omega (arith, b)))

-- as a fill leaves it
pub cleared-paste : (ix : List ℕ) (j n : ℕ) → j + n ≤ length ix → paste ix j (replicate n 0) n ≡ cleared ix j n
unfolding cleared
cleared-paste ix j zero h = sym (paste_none ix j [])
cleared-paste ix j (suc n) h =
    subst (λ (m : ℕ). paste ix j (replicate m 0) m ≡ cleared ix j (suc n)) (add-one n)
    (sym (fill_from_more ix j n 0 (omega arith)) ∙ ap (λ (l : List ℕ). set l (j + n) 0) (cleared-paste ix j n (omega arith)))
