-- Laws of a raise: the records stay in step, and whatever is no money stays.
use mathlib.Core.Path.{◌≡◌, refl, ap, sym, ◌∙◌}
use mathlib.Core.Bool.{Bool, true, false, cond}
use mathlib.Core.List.{List, [], ◌∷◌}
use Prim.Native.Nat.{ℕ, zero, suc, ◌+◌, ◌≤◌, ◌<◌}
use native.Mathlib.Decide.{dec_lt}
use native.Mathlib.Nat.{add-sub_cancel_left, le_refl, le_trans}
use native.Mathlib.Omega.{arith}
use lib.Dec.{ltb, eqb}
use lib.ListN.{length, get_or, take, drop, length-take, length-drop, get_or-eq_default}
use lib.Seq.{get_or-take, get_or-drop}
use borrow.Author.Tests.{lt-ltb, le-ltb}
use Rattle.lists.specs.Lists.{Pairwise, none, more}
use Rattle.lists.specs.Tests.{among, all_below, between}
use Rattle.lists.proofs.Tests.{split, and_left, and_right, and_both, below_at, at-below, between-low, in_between}
use Rattle.fields.specs.Numbers.{number, biased}
use Rattle.fields.proofs.Numbers.{number_same}
use Rattle.records.specs.Table.{Field, row_of, field_of}
use Rattle.records.specs.Record.{mark, is_dated, kind, since, fields_at, size, offset, is_money, key_width, money_byte, issue, key_of, read, value}
use Rattle.records.specs.Record.{told, in_range, agrees, ranges_hold, fault}
use Rattle.records.specs.Dossier.{first_of, rest_of, records_in, records, money_at_in, money_at}
use Rattle.records.specs.Raise.{Rise, stays, rises, limit_of, Rising, Raised, RaiseFor}
use Rattle.records.proofs.Record.{before-fields, in_head, in-key, in_field, size-ge, mark-take, mark-alike, money-range, agrees-alike}
use Rattle.records.proofs.Dated.{dated-at, kind-field, told-value}

pub rise-le : {u a b : ℕ} → Rise u a b → a ≤ b
rise-le (stays e) = omega arith
rise-le (rises h g) = h

limit-small : (t : ℕ) (f : Field) → limit_of t f ≤ f.highest
unfolding limit_of
limit-small t f = go (among t f.used_by)
  where
    go : (b : Bool) → cond b f.highest 0 ≤ f.highest
    go true = le_refl _
    go false = omega arith

-- ---- one record and the one that it was raised to

module _ {t : ℕ} {r s : List ℕ} (q : Raised t r s) where
  pub raised-mark : mark r ≡ mark s
  raised-mark = mark-alike r s (q.alike 0 (in_head (mark r) 0 (omega arith))) (q.alike 1 (in_head (mark r) 1 (omega arith)))

  pub raised-issue : issue r ≡ issue s
  unfolding issue
  raised-issue = number_same 2 4 r s (λ i a b. q.alike i (in_head (mark r) i b))

  pub raised-key : key_of r ≡ key_of s
  unfolding key_of
  raised-key = rw (← raised-mark) (number_same (fields_at (mark r)) (key_width (mark r)) r s (λ i a b. q.alike i (in-key (mark r) i b)))

  pub raised-kind : kind r ≡ kind s
  unfolding kind
  raised-kind = rw raised-mark refl

  -- "A raise leaves first hours alone"
  pub raised-since : since r ≡ since s
  unfolding since
  raised-since = rw (← raised-mark) (go (is_dated (mark r)) refl)
    where
      go : (b : Bool) → is_dated (mark r) ≡ b → cond b (number 6 4 r) 0 ≡ cond b (number 6 4 s) 0
      go true e = number_same 6 4 r s (λ i a b. q.alike i (before-fields (mark r) i (omega (arith, dated-at (mark r) e))))
      go false e = refl

  -- a field that is no money is the same
  pub raised-same : (j : ℕ) → is_money (field_of (mark r) j).role ≡ false → value (mark r) j r ≡ value (mark r) j s
  unfolding value read
  raised-same j e =
      ap (λ (n : ℕ). cond (field_of (mark r) j).is_signed (biased n) n)
      (number_same (offset (mark r) j) (field_of (mark r) j).width r s (λ i a b. q.alike i (in_field (mark r) j i e a b)))

  -- no field falls
  pub raised-le : (j : ℕ) → value (mark r) j r ≤ value (mark r) j s
  raised-le j = split (is_money (field_of (mark r) j).role) (λ e. rise-le (q.rising j e)) (λ e. omega (arith, raised-same j e))

  -- the same of the fields of its kind
  pub told_same : (k j : ℕ) → kind r ≡ k → is_money (field_of k j).role ≡ false → told k j r ≡ told k j s
  unfolding kind
  told_same k j e m =
      told-value k j r e ∙ raised-same j (rw (kind-field (mark r) k j e) m) ∙ ap (λ (x : ℕ). value x j s) raised-mark
      ∙ sym (told-value k j s (sym raised-kind ∙ e))

  pub told-le : (k j : ℕ) → kind r ≡ k → told k j r ≤ told k j s
  told-le k j e = rw (told-value k j r e, told-value k j s (sym raised-kind ∙ e), ← raised-mark) (raised-le j)

  -- a field in its range stays there
  rise-range : (f : Field) {a b : ℕ} → f.or_zero ≡ false → Rise (limit_of t f) a b → in_range f a ≡ true → in_range f b ≡ true
  unfolding in_range
  rise-range f e (stays p) h = rw (← p) h
  rise-range f {a} {b} e (rises p u) h =
      let g : between f.lowest f.highest a ≡ true = rw e at h in
      rw e (in_between f.lowest f.highest b (le_trans (between-low f.lowest f.highest a g) p) (le_trans u (limit-small t f)))

  range-stays : (j : ℕ) → in_range (field_of (mark r) j) (value (mark r) j r) ≡ true → in_range (field_of (mark r) j) (value (mark r) j s) ≡ true
  range-stays j h =
      split (is_money (field_of (mark r) j).role)
      (λ e. rise-range (field_of (mark r) j) (money-range (mark r) j e) (q.rising j e) h)
      (λ e. rw (← raised-same j e) h)

  pub ranges-stay : ranges_hold (mark r) r ≡ true → ranges_hold (mark r) s ≡ true
  unfolding ranges_hold
  ranges-stay h =
      let n : ℕ = length (row_of (mark r)).fields in
      let f : ℕ → Bool = λ j. in_range (field_of (mark r) j) (value (mark r) j r) in
      let g : ℕ → Bool = λ j. in_range (field_of (mark r) j) (value (mark r) j s) in
      and_both (all_below n g) (agrees (mark r) s)
      (at-below n g (λ j p. range-stays j (below_at n f (and_left (all_below n f) (agrees (mark r) r) h) j p)))
      (rw (← agrees-alike (mark r) r s (λ j e. raised-same j e)) (and_right (all_below n f) (agrees (mark r) r) h))

  -- a record without fault stays so
  pub fault-stays : fault r ≡ 0 → fault s ≡ 0
  unfolding fault
  fault-stays =
      rw (← q.long, ← raised-mark)
      (go (ltb (length r) 2) (eqb (mark r) 0) (ltb (length r) (size (mark r))) (ranges_hold (mark r) r) (ranges_hold (mark r) s) ranges-stay)
    where
      go : (a b c x y : Bool) → (x ≡ true → y ≡ true) → ◌≡◌ {A = ℕ} (cond a 2 (cond b 1 (cond c 2 (cond x 0 3)))) 0
          → ◌≡◌ {A = ℕ} (cond a 2 (cond b 1 (cond c 2 (cond y 0 3)))) 0
      go true b c x y f h = h
      go false true c x y f h = h
      go false false true x y f h = h
      go false false false true y f h = rw (f refl) refl
      go false false false false y f h = absurd (omega (arith, h))

-- no record is raised to none
pub raised-nil : (t : ℕ) → Raised t [] []
raised-nil t = record { long = refl; alike = λ i h. refl; rising = λ i h. stays refl }

pub raised-self : (t : ℕ) (r : List ℕ) → Raised t r r
raised-self t r = record { long = refl; alike = λ i h. refl; rising = λ i h. stays refl }

-- ---- a dossier and the one that it was raised to: their records are raised one by one

head-alike : (n : ℕ) (x y : List ℕ) → ((i : ℕ) → i < n → money_byte (mark x) i ≡ false → get_or x i 0 ≡ get_or y i 0) → 2 ≤ n → (i : ℕ)
    → money_byte (mark (take n x)) i ≡ false → get_or (take n x) i 0 ≡ get_or (take n y) i 0
head-alike n x y h g i q = go (dec_lt i n)
  where
    go : Dec (i < n) → get_or (take n x) i 0 ≡ get_or (take n y) i 0
    go (yes p) = rw (get_or-take n x i 0 p, get_or-take n y i 0 p) (h i p (rw (mark-take n x g) at q))
    go (no p) =
        get_or-eq_default (take n x) 0 (omega (arith, length-take n x))
        ∙ sym (get_or-eq_default (take n y) 0 (omega (arith, length-take n y)))

join : {R Q : List ℕ → List ℕ → Type 0} {r s : List ℕ} {l m : List (List ℕ)} → (R r s → Q r s) → (Pairwise R l m → Pairwise Q l m)
    → Pairwise R (r ∷ l) (s ∷ m) → Pairwise Q (r ∷ l) (s ∷ m)
join f g (more x y) = more (f x) (g y)

aligned : (t f : ℕ) (d e : List ℕ) → length d ≡ length e → ((i : ℕ) → money_at_in f d i ≡ false → get_or d i 0 ≡ get_or e i 0)
    → Pairwise (Rising t) (records_in f d) (records_in f e) → Pairwise (Raised t) (records_in f d) (records_in f e)
unfolding records_in money_at_in first_of rest_of
aligned t zero d e l h a = none
aligned t (suc f) [] [] l h a = none
aligned t (suc f) [] (c ∷ e) l h a = absurd (omega (arith, l))
aligned t (suc f) (b ∷ d) [] l h a = absurd (omega (arith, l))
aligned t (suc f) (b ∷ d) (c ∷ e) l h a =
    let x : List ℕ = b ∷ d in
    let y : List ℕ = c ∷ e in
    let n : ℕ = size (mark x) in
    let h₁ : (i : ℕ) → i < n → money_byte (mark x) i ≡ false → get_or x i 0 ≡ get_or y i 0 = λ i p q. h i (rw (lt-ltb i n p) q) in
    let h₂ : (i : ℕ) → money_at_in f (drop n x) i ≡ false → get_or (drop n x) i 0 ≡ get_or (drop n y) i 0 =
    λ i q. rw (get_or-drop n x i 0, get_or-drop n y i 0) (h (n + i) (rw (le-ltb (n + i) n (omega arith), add-sub_cancel_left n i) q)) in
    let kx : mark x ≡ mark y =
    mark-alike x y
    (h₁ 0 (omega (arith, size-ge (mark x))) (in_head (mark x) 0 (omega arith)))
    (h₁ 1 (omega (arith, size-ge (mark x))) (in_head (mark x) 1 (omega arith))) in
    rw (← kx)
    (join
    (λ v. record { long = rw (length-take n x, length-take n y, l) refl; alike = head-alike n x y h₁ (omega (arith, size-ge (mark x))); rising = v })
    (aligned t f (drop n x) (drop n y) (rw (length-drop n x, length-drop n y, l) refl) h₂)
    (rw (← kx) at a))

pub raised : {t : ℕ} {d e : List ℕ} → RaiseFor t d e → Pairwise (Raised t) (records d) (records e)
unfolding records money_at
raised {t} {d} {e} q = rw (← q.long) (aligned t (length d) d e q.long q.alike (rw (← q.long) at q.rising))
