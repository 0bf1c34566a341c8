-- Records alike but for the money of those that a test picks: the current ones are so too, they say the same parameters, and the same amounts where the test
-- picks none; and dossiers whose records are so are so as bytes.
use mathlib.Core.Path.{◌≡◌, refl, ap, sym, ◌∙◌}
use mathlib.Core.Bool.{Bool, true, false, cond, ◌&&◌, ◌||◌, false≢true}
use mathlib.Core.List.{List, [], ◌∷◌, ◌++◌}
use Prim.Native.Nat.{ℕ, ◌+◌, ◌-◌, ◌≤◌, ◌<◌}
use native.Mathlib.Decide.{dec_lt}
use native.Mathlib.Nat.{add-sub_cancel_left}
use native.Mathlib.Omega.{arith}
use lib.Dec.{leb, ltb, eqb}
use lib.ListN.{length, get_or, length-append, get_or-append, get_or-eq_default}
use lib.Seq.{ext_get_or, get_or-append-add}
use borrow.Author.Tests.{lt-ltb, le-ltb, eqb-true}
use Rattle.lists.specs.Lists.{Each, done, also, Pairwise, none, more, joined}
use Rattle.lists.specs.Tests.{all_below}
use Rattle.lists.proofs.Lists.{those-pairwise}
use Rattle.lists.proofs.Tests.{split, and_left, and_right, and-false, below_at}
use Rattle.fields.specs.Numbers.{number, biased}
use Rattle.fields.proofs.Numbers.{number_same}
use Rattle.records.specs.Table.{table, row_of, field_of, AO}
use Rattle.records.specs.Record.{mark, is_dated, kind, since, fields_at, size, offset, key_width, is_money, money_byte, issue, key_of, read, value, told}
use Rattle.records.specs.Dossier.{records}
use Rattle.records.proofs.Record.{before-fields, in_head, in-key, in_field, size-ge, mark-alike}
use Rattle.records.proofs.Dated.{dated-at, kind-field, told-value}
use Rattle.records.proofs.Dossier.{joined-records, Whole, records-whole}
use Rattle.station.specs.Current.{current, present}
use Rattle.station.specs.InForce.{come, speaks_to, Query, in_force}
use Rattle.station.specs.Parameters.{parameters, amounts}
use Rattle.station.specs.Declared.{IsCurrent, CurrentOf, absent, standing}
use Rattle.station.proofs.Current.{current-related, current-found}
use Rattle.station.proofs.Owners.{speaks-common, speaks-own}
use Rattle.rules.specs.Answer.{IsAccepted}
use Rattle.rules.proofs.Sound.{accepted-sound}
use Rattle.promise.specs.AlikeBut.{AlikeBut, picked_at, RecordByRecord}

-- ---- two records

module _ {picks : List ℕ → Bool} {r s : List ℕ} (q : AlikeBut picks r s) where
  -- a byte that is no money is the same, whatever the test picks
  no-money : (i : ℕ) → money_byte (mark r) i ≡ false → get_or r i 0 ≡ get_or s i 0
  no-money i e = q.alike i (ap (λ (b : Bool). picks r && b) e ∙ and-false (picks r))

  -- a record that it doesn't pick is the same
  pub but_same : picks r ≡ false → r ≡ s
  but_same e = ext_get_or 0 r s q.long (λ i h. q.alike i (rw e refl))

  pub but-mark : mark r ≡ mark s
  but-mark = mark-alike r s (no-money 0 (in_head (mark r) 0 (omega arith))) (no-money 1 (in_head (mark r) 1 (omega arith)))

  pub but-kind : kind r ≡ kind s
  unfolding kind
  but-kind = rw but-mark refl

  pub but-issue : issue r ≡ issue s
  unfolding issue
  but-issue = number_same 2 4 r s (λ i a b. no-money i (in_head (mark r) i b))

  pub but-key : key_of r ≡ key_of s
  unfolding key_of
  but-key = rw (← but-mark) (number_same (fields_at (mark r)) (key_width (mark r)) r s (λ i a b. no-money i (in-key (mark r) i b)))

  pub but-since : since r ≡ since s
  unfolding since
  but-since = rw (← but-mark) (go (is_dated (mark r)) refl)
    where
      go : (b : Bool) → is_dated (mark r) ≡ b → cond b (number 6 4 r) 0 ≡ cond b (number 6 4 s) 0
      go true e = number_same 6 4 r s (λ i a b. no-money i (before-fields (mark r) i (omega (arith, dated-at (mark r) e))))
      go false e = refl

  value_same : (j : ℕ) → is_money (field_of (mark r) j).role ≡ false → value (mark r) j r ≡ value (mark r) j s
  unfolding value read
  value_same j e =
      ap (λ (n : ℕ). cond (field_of (mark r) j).is_signed (biased n) n)
      (number_same (offset (mark r) j) (field_of (mark r) j).width r s (λ i a b. no-money i (in_field (mark r) j i e a b)))

  -- so is a field that is no money
  pub but-told : (k j : ℕ) → kind r ≡ k → is_money (field_of k j).role ≡ false → told k j r ≡ told k j s
  unfolding kind
  but-told k j e m =
      told-value k j r e ∙ value_same j (rw (kind-field (mark r) k j e) m) ∙ ap (λ (x : ℕ). value x j s) but-mark
      ∙ sym (told-value k j s (sym but-kind ∙ e))

  -- an owner is no money
  pub but-speaks : (o : ℕ) → speaks_to o r ≡ speaks_to o s
  unfolding field_of row_of table
  but-speaks o =
      split (eqb (kind r) AO)
      (λ e. let w = eqb-true (kind r) AO e in
      speaks-own o r w ∙ ap (λ (x : ℕ). eqb x o) (but-told AO 0 w refl) ∙ sym (speaks-own o s (sym but-kind ∙ w)))
      (λ e. speaks-common o r e ∙ sym (speaks-common o s (ap (λ (x : ℕ). eqb x AO) (sym but-kind) ∙ e)))

-- ---- all the records

module _ {picks : List ℕ → Bool} {l m : List (List ℕ)} (a : Pairwise (AlikeBut picks) l m) where
  pub but-force : (t : Query) → Pairwise (AlikeBut picks) (in_force t l) (in_force t m)
  unfolding in_force come
  but-force t =
      those-pairwise (speaks_to t.owner) (λ r s q. but-speaks q t.owner)
      (those-pairwise (λ r. leb (since r) t.hour) (λ r s q. ap (λ (x : ℕ). leb x t.hour) (but-since q)) a)

  pub but-current : (k n : ℕ) → AlikeBut picks (current k n l) (current k n m)
  but-current k n =
      current-related (λ r s q. record { kind = but-kind q; key = but-key q; issue = but-issue q })
      (record { long = refl; alike = λ i h. refl })
      k n a

  -- a law of two records that holds of none and none, and of every such pair whose first is current, holds of the current ones
  by-current : (k n : ℕ) (P : List ℕ → List ℕ → Type 0) → P [] [] → ((r s : List ℕ) → AlikeBut picks r s → IsCurrent k n l r → P r s)
      → P (current k n l) (current k n m)
  by-current k n P z f = go (current k n l) (current k n m) (but-current k n) (current-found k n l)
    where
      nil : (s : List ℕ) → 0 ≡ length s → s ≡ []
      nil [] h = refl
      nil (x ∷ s) h = absurd (omega (arith, h))

      go : (r s : List ℕ) → AlikeBut picks r s → CurrentOf k n l r → P r s
      go r s q (standing e) = f r s q e
      go r s q (absent e w) = rw (e, nil s (sym (ap length e) ∙ q.long)) z

  says_same : (k n i : ℕ) → cond (is_money (field_of k i).role) 0 (told k i (current k n l)) ≡ cond (is_money (field_of k i).role) 0 (told k i (current k n m))
  says_same k n i =
      by-current k n (λ r s. cond (is_money (field_of k i).role) 0 (told k i r) ≡ cond (is_money (field_of k i).role) 0 (told k i s)) refl
      (λ r s q c. go (is_money (field_of k i).role) (told k i r) (told k i s) (but-told q k i c.marked))
    where
      go : (b : Bool) (x y : ℕ) → (b ≡ false → x ≡ y) → cond b 0 x ≡ cond b 0 y
      go true x y f = refl
      go false x y f = f refl

  pub but-parameters : parameters l ≡ parameters m
  unfolding parameters present
  but-parameters = λ j. record { has = λ k n. ltb 0 ((but-current k n).long j); says = λ k n i. says_same k n i j }

  -- an amount is the same where the test doesn't pick the current record
  pub but-amount : (k n i : ℕ) → ((r : List ℕ) → IsCurrent k n l r → picks r ≡ false) → (amounts l).of k n i ≡ (amounts m).of k n i
  unfolding amounts
  but-amount k n i f =
      ap (λ (r : List ℕ). cond (is_money (field_of k i).role) (told k i r) 0) (by-current k n (λ r s. r ≡ s) refl (λ r s q c. but_same q (f r c)))

-- ---- as bytes

-- a byte of two lists back to back is one of the first, or one of the second
byte-behind : (r l : List ℕ) (i : ℕ) → length r ≤ i → get_or (r ++ l) i 0 ≡ get_or l (i - length r) 0
byte-behind r l i h = ap (λ (n : ℕ). get_or (r ++ l) n 0) (omega arith) ∙ get_or-append-add r l (i - length r) 0

module _ (picks : List ℕ → Bool) where
  bytes-long : {l m : List (List ℕ)} → Pairwise (AlikeBut picks) l m → length (joined l) ≡ length (joined m)
  unfolding joined
  bytes-long none = refl
  bytes-long (more {a = r} {b = s} {l = l} {m = m} q a) = rw (length-append r (joined l), length-append s (joined m), q.long, bytes-long a) refl

  bytes-alike : {l m : List (List ℕ)} → Pairwise (AlikeBut picks) l m → (i : ℕ) → picked_at picks l i ≡ false → get_or (joined l) i 0 ≡ get_or (joined m) i 0
  unfolding joined picked_at
  bytes-alike none i h = refl
  bytes-alike (more {a = r} {b = s} {l = l} {m = m} q a) i h = go (dec_lt i (length r)) (bytes-alike a (i - length r))
    where
      go : Dec (i < length r) → (picked_at picks l (i - length r) ≡ false → get_or (joined l) (i - length r) 0 ≡ get_or (joined m) (i - length r) 0)
          → get_or (r ++ joined l) i 0 ≡ get_or (s ++ joined m) i 0
      go (yes p) f =
          get_or-append r (joined l) 0 i p ∙ q.alike i (rw (lt-ltb i (length r) p) at h)
          ∙ sym (get_or-append s (joined m) 0 i (rw (← q.long) p))
      go (no p) f =
          byte-behind r (joined l) i (omega arith) ∙ f (rw (le-ltb i (length r) (omega arith)) at h)
          ∙ rw q.long (sym (byte-behind s (joined m) i (omega (arith, q.long))))

  -- the other way, of whole records: marks are no money, so that they are as long one by one
  alike-bytes : {l m : List (List ℕ)} → Each Whole l → Each Whole m → length (joined l) ≡ length (joined m)
      → ((i : ℕ) → picked_at picks l i ≡ false → get_or (joined l) i 0 ≡ get_or (joined m) i 0) → Pairwise (AlikeBut picks) l m
  unfolding joined picked_at
  alike-bytes done done n h = none
  alike-bytes done (also {a = s} {l = m} w v) n h = absurd (omega (arith, n, length-append s (joined m), w, size-ge (mark s)))
  alike-bytes (also {a = r} {l = l} w v) done n h = absurd (omega (arith, n, length-append r (joined l), w, size-ge (mark r)))
  alike-bytes (also {a = r} {l = l} w v) (also {a = s} {l = m} x y) n h =
      more (record { long = long; alike = λ i e. go i e (dec_lt i (length r)) })
      (alike-bytes v y (omega (arith, n, long, length-append r (joined l), length-append s (joined m))) behind)
    where
      front : (i : ℕ) → i < length r → i < length s → picks r && money_byte (mark r) i ≡ false → get_or r i 0 ≡ get_or s i 0
      front i p p₁ e =
          sym (get_or-append r (joined l) 0 i p) ∙ h i (rw (lt-ltb i (length r) p) e) ∙ get_or-append s (joined m) 0 i p₁

      head : (i : ℕ) → i < 6 → get_or r i 0 ≡ get_or s i 0
      head i p =
          front i (omega (arith, w, size-ge (mark r))) (omega (arith, x, size-ge (mark s)))
          (ap (λ (b : Bool). picks r && b) (in_head (mark r) i p) ∙ and-false (picks r))

      long : length r ≡ length s
      long = w ∙ ap size (mark-alike r s (head 0 (omega arith)) (head 1 (omega arith))) ∙ sym x

      go : (i : ℕ) → picks r && money_byte (mark r) i ≡ false → Dec (i < length r) → get_or r i 0 ≡ get_or s i 0
      go i e (yes p) = front i p (rw (← long) p) e
      go i e (no p) = get_or-eq_default r 0 (omega arith) ∙ sym (get_or-eq_default s 0 (omega (arith, long)))

      behind : (i : ℕ) → picked_at picks l i ≡ false → get_or (joined l) i 0 ≡ get_or (joined m) i 0
      behind i e =
          sym (get_or-append-add r (joined l) i 0)
          ∙ h (length r + i) (rw (le-ltb (length r + i) (length r) (omega arith), add-sub_cancel_left (length r) i) e)
          ∙ rw long (get_or-append-add s (joined m) i 0)

pub record-by-record : RecordByRecord
record-by-record =
    record {
      only = λ picks d e a b q.
          alike-bytes picks (whole d a) (whole e b)
          (rw (joined-records d, joined-records e) q.long)
          (rw (joined-records d, joined-records e) q.alike);
      always = λ picks d e a.
          record {
            long = rw (joined-records d, joined-records e) at (bytes-long picks a);
            alike = rw (joined-records d, joined-records e) at (bytes-alike picks a);
          };
    }
  where
    whole : (d : List ℕ) → IsAccepted d → Each Whole (records d)
    whole d a = records-whole d (accepted-sound d a).1.clean

-- ---- of given records, by a computed test

unfoldable pub alike_test : (List ℕ → Bool) → List ℕ → List ℕ → Bool
alike_test picks r s = eqb (length r) (length s) && all_below (length r) (λ i. picks r && money_byte (mark r) i || eqb (get_or r i 0) (get_or s i 0))

unfoldable pub alike_tests : (List ℕ → Bool) → List (List ℕ) → List (List ℕ) → Bool
alike_tests picks [] [] = true
alike_tests picks [] (s ∷ m) = false
alike_tests picks (r ∷ l) [] = false
alike_tests picks (r ∷ l) (s ∷ m) = alike_test picks r s && alike_tests picks l m

record-by : (picks : List ℕ → Bool) (r s : List ℕ) → alike_test picks r s ≡ true → AlikeBut picks r s
unfolding alike_test
record-by picks r s h = record { long = long; alike = λ i e. go i e (dec_lt i (length r)) }
  where
    f : ℕ → Bool
    f i = picks r && money_byte (mark r) i || eqb (get_or r i 0) (get_or s i 0)

    long : length r ≡ length s
    long = eqb-true (length r) (length s) (and_left (eqb (length r) (length s)) (all_below (length r) f) h)

    go : (i : ℕ) → picks r && money_byte (mark r) i ≡ false → Dec (i < length r) → get_or r i 0 ≡ get_or s i 0
    go i e (yes p) =
        eqb-true (get_or r i 0) (get_or s i 0)
        (rw e at (below_at (length r) f (and_right (eqb (length r) (length s)) (all_below (length r) f) h) i p))
    go i e (no p) = get_or-eq_default r 0 (omega arith) ∙ sym (get_or-eq_default s 0 (omega (arith, long)))

pub alike-by : (picks : List ℕ → Bool) (l m : List (List ℕ)) → alike_tests picks l m ≡ true → Pairwise (AlikeBut picks) l m
unfolding alike_tests
alike-by picks [] [] h = none
alike-by picks [] (s ∷ m) h = absurd (false≢true h)
alike-by picks (r ∷ l) [] h = absurd (false≢true h)
alike-by picks (r ∷ l) (s ∷ m) h =
    more (record-by picks r s (and_left (alike_test picks r s) (alike_tests picks l m) h))
    (alike-by picks l m (and_right (alike_test picks r s) (alike_tests picks l m) h))
