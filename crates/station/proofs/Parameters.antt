-- What the current records say: the same in any order, the same parameters and no lower amounts in a raise, for every query the same of kinds that don't vary, and within the table's bounds.
use mathlib.Core.Path.{◌≡◌, refl, ap, sym, ◌∙◌}
use mathlib.Core.Bool.{Bool, true, false, cond, ◌||◌, not}
use mathlib.Core.List.{List, [], ◌∷◌}
use Prim.Native.Nat.{ℕ, ◌+◌, ◌%◌, ◌≤◌, ◌<◌}
use native.Mathlib.Decide.{dec_lt}
use native.Mathlib.Nat.{le_refl}
use native.Mathlib.Omega.{arith}
use lib.Dec.{leb, ltb}
use lib.ListN.{length, get_or-eq_default}
use borrow.Author.Tests.{leb-true}
use Rattle.lists.specs.Lists.{Each, Pairwise, Permutation}
use Rattle.lists.specs.Tests.{every_of}
use Rattle.lists.proofs.Lists.{member-each}
use Rattle.fields.specs.Numbers.{number, biased}
use Rattle.fields.proofs.Numbers.{number-nil}
use Rattle.records.specs.Table.{Field, table, row_of, field_of, no_field}
use Rattle.records.specs.Record.{mark, kind, is_money, offset, read, value, told, fault}
use Rattle.records.specs.Raise.{Raised}
use Rattle.records.proofs.Record.{by-table, faultless, field-range, range-high}
use Rattle.records.proofs.Raise.{told_same, told-le}
use Rattle.records.proofs.Dated.{kind-field, told-value, told-nil}
use Rattle.station.specs.Current.{current, present}
use Rattle.station.specs.InForce.{Query, in_force, varies}
use Rattle.station.specs.Parameters.{parameters, amounts, Higher}
use Rattle.station.specs.Declared.{CurrentOf, absent, standing, Distinct}
use Rattle.station.proofs.Current.{current-found, current-raised}
use Rattle.station.proofs.Twins.{current-permuted}
use Rattle.station.proofs.Owners.{always-current}

-- ---- in another order

pub parameters-permuted : {l m : List (List ℕ)} → Permutation l m → Distinct l → parameters l ≡ parameters m
unfolding parameters
parameters-permuted p d =
    λ i. record {
      has = λ k n. present (current-permuted k n p d i);
      says = λ k n j. cond (is_money (field_of k j).role) 0 (told k j (current-permuted k n p
          d i));
    }

pub amounts-permuted : {l m : List (List ℕ)} → Permutation l m → Distinct l → amounts l ≡ amounts m
unfolding amounts
amounts-permuted p d = λ i. record { of = λ k n j. cond (is_money (field_of k j).role) (told k j (current-permuted k n p d i)) 0 }

-- ---- in a raise

nil-of-length : (s : List ℕ) → 0 ≡ length s → s ≡ []
nil-of-length [] h = refl
nil-of-length (x ∷ s) h = absurd (omega (arith, h))

module _ {t : ℕ} {l m : List (List ℕ)} (a : Pairwise (Raised t) l m) where
  -- a law of two records that holds of none and none, and of each raised pair of the kind, holds of the current ones
  pub by-current : (k n : ℕ) (P : List ℕ → List ℕ → Type 0) → P [] [] → ((r s : List ℕ) → Raised t r s → kind r ≡ k → P r s) → P (current k n l) (current k n m)
  by-current k n P z f = go (current k n l) (current k n m) (current-raised k n a) (current-found k n l)
    where
      go : (r s : List ℕ) → Raised t r s → CurrentOf k n l r → P r s
      go r s q (standing e) = f r s q e.marked
      go r s q (absent e w) = rw (e, nil-of-length s (sym (ap length e) ∙ q.long)) z

  field-same : (k n i : ℕ) → is_money (field_of k i).role ≡ false → told k i (current k n l) ≡ told k i (current k n m)
  field-same k n i e = by-current k n (λ r s. told k i r ≡ told k i s) refl (λ r s q w. told_same q k i w e)

  field-le : (k n i : ℕ) → told k i (current k n l) ≤ told k i (current k n m)
  field-le k n i = by-current k n (λ r s. told k i r ≤ told k i s) (le_refl _) (λ r s q w. told-le q k i w)

  present-same : (k n : ℕ) → present (current k n l) ≡ present (current k n m)
  unfolding present
  present-same k n = ap (λ (x : ℕ). ltb 0 x) (current-raised k n a).long

  says_same : (k n i : ℕ) → cond (is_money (field_of k i).role) 0 (told k i (current k n l)) ≡ cond (is_money (field_of k i).role) 0 (told k i (current k n m))
  says_same k n i = go (is_money (field_of k i).role) (field-same k n i)
    where
      go : (b : Bool) → (b ≡ false → told k i (current k n l) ≡ told k i (current k n m)) → cond b 0 (told k i (current k n l)) ≡ cond b 0 (told k i
          (current k n m))
      go true f = refl
      go false f = f refl

  pub same-parameters : parameters l ≡ parameters m
  unfolding parameters
  same-parameters = λ j. record { has = λ k n. present-same k n j; says = λ k n i. says_same k n i j }

  pub higher : Higher (amounts l) (amounts m)
  unfolding amounts
  higher k n i = go (is_money (field_of k i).role)
    where
      go : (b : Bool) → cond b (told k i (current k n l)) 0 ≤ cond b (told k i (current k n m)) 0
      go true = field-le k n i
      go false = le_refl 0

-- ---- for a query: what kinds say of which every query sees the same

module _ (q : Query) (k : ℕ) (other : varies k ≡ false) (l : List (List ℕ)) where
  pub has-always : (n : ℕ) → (parameters (in_force q l)).has k n ≡ (parameters l).has k n
  unfolding parameters
  has-always n = ap present (always-current q k n other l)

  pub says-always : (n i : ℕ) → (parameters (in_force q l)).says k n i ≡ (parameters l).says k n i
  unfolding parameters
  says-always n i = ap (λ (r : List ℕ). cond (is_money (field_of k i).role) 0 (told k i r)) (always-current q k n other l)

  pub of-always : (n i : ℕ) → (amounts (in_force q l)).of k n i ≡ (amounts l).of k n i
  unfolding amounts
  of-always n i = ap (λ (r : List ℕ). cond (is_money (field_of k i).role) (told k i r) 0) (always-current q k n other l)

-- ---- bounds: the 64-bit sums of the code rest on these

-- of a signed field, no record counts as the price 0, which is in its range
holds_zero : Field → Bool
holds_zero f = not f.is_signed || leb 2147483648 f.highest

value-nil : (k i : ℕ) → value k i [] ≤ (field_of k i).highest
unfolding value read biased holds_zero every_of table
value-nil k i = rw (number-nil (offset k i) (field_of k i).width) (go (field_of k i).is_signed (by-table holds_zero refl refl k i))
  where
    go : (b : Bool) → not b || leb 2147483648 (field_of k i).highest ≡ true → cond b ((0 + 2147483648) % 4294967296) 0 ≤ (field_of k i).highest
    go true h = leb-true 2147483648 (field_of k i).highest h
    go false h = omega arith

past-fields : (k i : ℕ) (r : List ℕ) → length (row_of k).fields ≤ i → value k i r ≡ 0
unfolding value read field_of number
past-fields k i r h = rw (get_or-eq_default (row_of k).fields no_field h) refl

-- a field of a current record, present or not, is at most its highest
pub current-high : {l : List (List ℕ)} → Each (λ r. fault r ≡ 0) l → (k n i : ℕ) → told k i (current k n l) ≤ (field_of k i).highest
current-high {l} e k n i = go (current k n l) (current-found k n l)
  where
    go : (r : List ℕ) → CurrentOf k n l r → told k i r ≤ (field_of k i).highest
    go r (absent p w) = rw (p, told-nil k i) (value-nil k i)
    go r (standing q) = rw (told-value k i r q.marked, ← own) (inside (dec_lt i (length (row_of (mark r)).fields)))
      where
        own : field_of (mark r) i ≡ field_of k i
        own = unfold kind in kind-field (mark r) k i q.marked

        inside : Dec (i < length (row_of (mark r)).fields) → value (mark r) i r ≤ (field_of (mark r) i).highest
        inside (yes p) = range-high (field_of (mark r) i) (value (mark r) i r) (field-range r (faultless r (member-each q.member e)) i p)
        inside (no p) = omega (arith, past-fields (mark r) i r (omega arith))

pub says-high : {l : List (List ℕ)} → Each (λ r. fault r ≡ 0) l → (k n i : ℕ) → (parameters l).says k n i ≤ (field_of k i).highest
unfolding parameters
says-high {l} e k n i = go (is_money (field_of k i).role)
  where
    go : (b : Bool) → cond b 0 (told k i (current k n l)) ≤ (field_of k i).highest
    go true = omega arith
    go false = current-high e k n i

pub amount-high : {l : List (List ℕ)} → Each (λ r. fault r ≡ 0) l → (k n i : ℕ) → (amounts l).of k n i ≤ (field_of k i).highest
unfolding amounts
amount-high {l} e k n i = go (is_money (field_of k i).role)
  where
    go : (b : Bool) → cond b (told k i (current k n l)) 0 ≤ (field_of k i).highest
    go true = current-high e k n i
    go false = omega arith
