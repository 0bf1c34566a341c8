-- A raise of given dossiers, by a computed test.
use mathlib.Core.Path.{◌≡◌, refl, sym, ◌∙◌}
use mathlib.Core.Bool.{Bool, true, false, ◌&&◌, ◌||◌, not, false≢true}
use mathlib.Core.List.{List, [], ◌∷◌}
use Prim.Native.Nat.{ℕ, ◌≤◌, ◌<◌}
use native.Mathlib.Decide.{dec_lt}
use native.Mathlib.Omega.{arith}
use lib.Dec.{leb, eqb}
use lib.ListN.{length, get_or, get_or-eq_default}
use borrow.Author.Tests.{eqb-true, leb-true}
use Rattle.lists.specs.Lists.{Pairwise, none, more}
use Rattle.lists.specs.Tests.{all_below}
use Rattle.lists.proofs.Tests.{and_left, and_right, below_at}
use Rattle.records.specs.Table.{Field, no_field, row_of, field_of}
use Rattle.records.specs.Record.{mark, is_money, value}
use Rattle.records.specs.Dossier.{records, money_at}
use Rattle.records.specs.Raise.{Rise, stays, rises, limit_of, Rising, RaiseFor}

-- one field: no money, the same, or higher within its limit
unfoldable pub rise_test : ℕ → Field → ℕ → ℕ → Bool
rise_test t f a b = not (is_money f.role) || (eqb a b || (leb a b && leb b (limit_of t f)))

unfoldable pub record_test : ℕ → List ℕ → List ℕ → Bool
record_test t r s = all_below (length (row_of (mark r)).fields) (λ i. rise_test t (field_of (mark r) i) (value (mark r) i r) (value (mark r) i s))

unfoldable pub records_test : ℕ → List (List ℕ) → List (List ℕ) → Bool
records_test t [] [] = true
records_test t [] (s ∷ m) = false
records_test t (r ∷ l) [] = false
records_test t (r ∷ l) (s ∷ m) = record_test t r s && records_test t l m

unfoldable pub raise_test : ℕ → List ℕ → List ℕ → Bool
raise_test t d e =
    eqb (length d) (length e) && (all_below (length d) (λ i. money_at d i || eqb (get_or d i 0) (get_or e i 0)) && records_test t (records d) (records e))

rise-by : (t : ℕ) (f : Field) (a b : ℕ) → rise_test t f a b ≡ true → is_money f.role ≡ true → Rise (limit_of t f) a b
unfolding rise_test
rise-by t f a b h m = go (eqb a b) refl (leb a b) refl (leb b (limit_of t f)) refl (rw m at h)
  where
    go : (x : Bool) → eqb a b ≡ x → (y : Bool) → leb a b ≡ y → (z : Bool) → leb b (limit_of t f) ≡ z → x || (y && z) ≡ true → Rise (limit_of t f) a b
    go true p y q z r e = stays (eqb-true a b p)
    go false p true q true r e = rises (leb-true a b q) (leb-true b (limit_of t f) r)
    go false p true q false r e = absurd (false≢true e)
    go false p false q z r e = absurd (false≢true e)

past : (k i : ℕ) → length (row_of k).fields ≤ i → field_of k i ≡ no_field
unfolding field_of
past k i h = get_or-eq_default (row_of k).fields no_field h

record-by : (t : ℕ) (r s : List ℕ) → record_test t r s ≡ true → Rising t r s
unfolding record_test
record-by t r s h i m = go (dec_lt i (length (row_of (mark r)).fields))
  where
    go : Dec (i < length (row_of (mark r)).fields) → Rise (limit_of t (field_of (mark r) i)) (value (mark r) i r) (value (mark r) i s)
    go (yes p) =
        rise-by t (field_of (mark r) i) (value (mark r) i r) (value (mark r) i s)
        (below_at (length (row_of (mark r)).fields) (λ j. rise_test t (field_of (mark r) j) (value (mark r) j r) (value (mark r) j s)) h i p) m
    go (no p) = absurd (false≢true (rw (past (mark r) i (omega arith)) at m))

records-by : (t : ℕ) (l m : List (List ℕ)) → records_test t l m ≡ true → Pairwise (Rising t) l m
unfolding records_test
records-by t [] [] h = none
records-by t [] (s ∷ m) h = absurd (false≢true h)
records-by t (r ∷ l) [] h = absurd (false≢true h)
records-by t (r ∷ l) (s ∷ m) h =
    more (record-by t r s (and_left (record_test t r s) (records_test t l m) h)) (records-by t l m (and_right (record_test t r s) (records_test t l m) h))

pub raise-by : (t : ℕ) (d e : List ℕ) → raise_test t d e ≡ true → RaiseFor t d e
unfolding raise_test
raise-by t d e h =
    let f : ℕ → Bool = λ i. money_at d i || eqb (get_or d i 0) (get_or e i 0) in
    let rest : Bool = all_below (length d) f && records_test t (records d) (records e) in
    let long : length d ≡ length e = eqb-true (length d) (length e) (and_left (eqb (length d) (length e)) rest h) in
    let b : rest ≡ true = and_right (eqb (length d) (length e)) rest h in
    record {
      long = long;
      alike =
          λ i z. alike long i z (dec_lt i (length d)) (λ p. below_at (length d) f
          (and_left (all_below (length d) f) (records_test t (records d) (records e)) b) i p);
      rising = records-by t (records d) (records e) (and_right (all_below (length d) f) (records_test t (records d) (records e)) b);
    }
  where
    alike : length d ≡ length e → (i : ℕ) → money_at d i ≡ false → Dec (i < length d) → (i < length d → money_at d i || eqb (get_or d i 0) (get_or e i 0) ≡ true)
        → get_or d i 0 ≡ get_or e i 0
    alike l i z (yes p) g = eqb-true (get_or d i 0) (get_or e i 0) (rw z at (g p))
    alike l i z (no p) g = get_or-eq_default d 0 (omega arith) ∙ sym (get_or-eq_default e 0 (omega (arith, l)))
