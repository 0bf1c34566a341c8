-- The index for an owner: the other owner's slots are emptied, and all others hold what they held.
use mathlib.Core.Path.{◌≡◌, refl, ap, sym, subst, ◌∙◌}
use mathlib.Core.Bool.{Bool, true, false, ◌||◌, false≢true}
use mathlib.Core.List.{List, []}
use Prim.Native.Nat.{ℕ, ◌+◌, ◌*◌, ◌-◌, ◌/◌, ◌≤◌, ◌<◌}
use native.Mathlib.Omega.{arith}
use lib.Dec.{leb, ltb, eqb}
use lib.ListN.{length, get_or}
use borrow.Author.Tests.{eqb-true, eqb-false, ne_eqb, ltb-true, leb-true}
use Rattle.lists.specs.Lists.{Each, those}
use Rattle.lists.specs.Tests.{all_below}
use Rattle.lists.proofs.Tests.{split, below_at}
use Rattle.records.specs.Table.{table, row_of, kinds, AO}
use Rattle.records.specs.Record.{fault}
use Rattle.records.specs.MarkShapes.{shape, shape_of, key_test}
use Rattle.records.specs.Dossier.{records}
use Rattle.records.proofs.Dossier.{scan-each}
use Rattle.station.specs.Current.{current}
use Rattle.station.specs.InForce.{come, speaks_to, query, in_force}
use Rattle.station.proofs.InForce.{come-each, current-those}
use Rattle.station.proofs.Owners.{speaks-common, other-owner, own-owner}
use Rattle.index.specs.Slots.{slot}
use Rattle.index.specs.Holding.{held_record, IndexOf}
use Rattle.index.proofs.KeyBounds.{InKey, Spans, test-key}
use Rattle.index.proofs.Slots.{low, high, limits}
use Rattle.hours.specs.Filling.{cleared}
use Rattle.hours.proofs.Emptied.{cleared-length, cleared-in, cleared-out}

-- ---- where the slots of AO lie

-- the first of all, and how many an owner has
abbrev first_owned : ℕ
first_owned = 334

abbrev each : ℕ
each = 80

-- a key begins with its owner
its-owner : (n : ℕ) → InKey AO n → (1 ≤ n / 16777216) × (n / 16777216 ≤ 2)
unfolding Spans shape_of shape row_of table
its-owner n i = (omega (arith, i.spans), omega (arith, i.spans))

-- whose slots lie together
own-slot : (n : ℕ) → InKey AO n → (first_owned + (n / 16777216 - 1) * each ≤ slot AO n) × (slot AO n < first_owned + n / 16777216 * each)
unfolding Spans shape_of shape row_of table slot
own-slot n i = (omega (arith, i.spans), omega (arith, i.spans))

-- no other kind's are among them
lies : ℕ → Bool
lies k = eqb k 0 || eqb k AO || ltb (high k) first_owned || leb (first_owned + 2 * each) (low k)

common-slot : (k n : ℕ) → InKey k n → eqb k AO ≡ false → first_owned ≤ slot k n → slot k n < first_owned + 2 * each → ⊥
unfolding lies
common-slot k n i e a b = go _ _ refl refl (rw (ne_eqb k 0 (λ z. omega (arith, z, i.known)), e) at its-slots)
  where
    its-slots : lies k ≡ true
    its-slots = below_at kinds lies (unfold lies low high all_below in refl) k i.low

    go : (x y : Bool) → ltb (high k) first_owned ≡ x → leb (first_owned + 2 * each) (low k) ≡ y → x || y ≡ true → ⊥
    go true y p q w = omega (arith, a, limits k n i, ltb-true (high k) first_owned p)
    go false true p q w = omega (arith, b, limits k n i, leb-true (first_owned + 2 * each) (low k) q)
    go false false p q w = false≢true w

-- ---- the other owner's emptied

module _ (o : ℕ) (a : 1 ≤ o) (b : o ≤ 2) {l : List (List ℕ)} {d ix : List ℕ} (index : IndexOf l d ix) (faultless : Each (λ r. fault r ≡ 0) l) where
  abbrev first : ℕ
  first = first_owned + (2 - o) * each

  abbrev made : List ℕ
  made = cleared ix first each

  abbrev ours : List (List ℕ)
  ours = those (speaks_to o) l

  long : length made ≡ length ix
  long = cleared-length ix first each

  -- a slot is as it was, and so is what is current; or it is emptied, and nothing is
  data Found (k n : ℕ) : Type 0 where
    same : get_or made (slot k n) 0 ≡ get_or ix (slot k n) 0 → current k n ours ≡ current k n l → Found k n
    emptied : get_or made (slot k n) 0 ≡ 0 → current k n ours ≡ [] → Found k n

  of_owner : (n : ℕ) → InKey AO n → slot AO n < length ix → Found AO n
  of_owner n i c =
      split (eqb (n / 16777216) o)
      (λ e. same (cleared-out ix first each (slot AO n) (λ p q. mine (eqb-true (n / 16777216) o e) p q)) (own-owner o n faultless e))
      (λ e. let z = theirs (eqb-false (n / 16777216) o e) in
      emptied (cleared-in ix first each (slot AO n) c z.0 z.1) (other-owner o n faultless e))
    where
      mine : n / 16777216 ≡ o → first ≤ slot AO n → slot AO n < first + each → ⊥
      mine e p q = omega (arith, own-slot n i, e, p, q, a, b)

      theirs : (n / 16777216 ≡ o → ⊥) → (first ≤ slot AO n) × (slot AO n < first + each)
      theirs e = (omega (arith, own-slot n i, its-owner n i, e, a, b), omega (arith, own-slot n i, its-owner n i, e, a, b))

  found : (k n : ℕ) → InKey k n → slot k n < length ix → Found k n
  found k n i c =
      split (eqb k AO)
      (λ e. subst (λ (j : ℕ). InKey j n → slot j n < length ix → Found j n) (sym (eqb-true k AO e)) (of_owner n) i c)
      (λ e. same (cleared-out ix first each (slot k n) (λ p q. common-slot k n i e (omega (arith, p)) (omega (arith, q, a))))
      (current-those k n (speaks_to o) (λ r w. speaks-common o r (rw w e)) l))

  owned-index : IndexOf ours d made
  owned-index =
      record {
        roomy = omega (arith, long, index.roomy);
        short = index.short;
        clean = index.clean;
        holds = λ k n u v c. holds_at k n u v (rw long at c) (found k n (test-key k n u v) (rw long at c));
        none = λ k n u v c. none-at k n u v (rw long at c) (found k n (test-key k n u v) (rw long at c));
      }
    where
      holds_at : (k n : ℕ) → k < kinds → key_test k n ≡ true → slot k n < length ix → Found k n → held_record d (get_or made (slot k n) 0) ≡ current k n ours
      holds_at k n u v c (same e f) = ap (held_record d) e ∙ index.holds k n u v c ∙ sym f
      holds_at k n u v c (emptied e f) = unfold held_record in (rw (e, f) refl)

      none-at : (k n : ℕ) → k < kinds → key_test k n ≡ true → slot k n < length ix → Found k n → current k n ours ≡ [] → get_or made (slot k n) 0 ≡ 0
      none-at k n u v c (same e f) z = e ∙ index.none k n u v c (sym f ∙ z)
      none-at k n u v c (emptied e f) z = e

  -- as code makes it
  pub owner-index : {x : List ℕ} → x ≡ made → IndexOf ours d x
  owner-index e = rw e owned-index

-- ---- the index of an hour becomes that of a query

pub query-index : (h o : ℕ) {d ix jx : List ℕ} → IndexOf (come h (records d)) d ix
    → ((l : List (List ℕ)) (e : List ℕ) → IndexOf l e ix → Each (λ r. fault r ≡ 0) l → IndexOf (those (speaks_to o) l) e jx)
    → IndexOf (in_force (query h o) (records d)) d jx
unfolding in_force
query-index h o {d} i f = f (come h (records d)) d i (come-each h (scan-each 0 (records d) i.clean))
