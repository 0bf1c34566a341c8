-- What it takes for a record of each mark to fit a technology.
use mathlib.Core.Path.{◌≡◌, refl, sym, subst, ◌∙◌}
use mathlib.Core.Bool.{Bool, true, false, cond, ◌&&◌, ◌||◌, not, false≢true}
use mathlib.Core.List.{List, [], ◌∷◌}
use Prim.Native.Nat.{ℕ, zero, suc, ◌/◌, ◌%◌, ◌<◌}
use native.Mathlib.Omega.{arith}
use lib.Dec.{ltb, eqb, lit<}
use lib.ListN.{drop}
use borrow.Author.Tests.{eqb-true}
use Rattle.lists.specs.Tests.{all_below, among, between}
use Rattle.lists.proofs.Tests.{and-true, split, between-high}
use Rattle.fields.specs.Numbers.{number}
use Rattle.fields.proofs.Numbers.{number-drop}
use Rattle.records.specs.Table.{table, row_of, field_of, RS, HP, FU, AD, MM, RQ, HR, CH, TH, FP, LC, AO, FV, AV, MV, marks}
use Rattle.records.specs.MarkShapes.{body}
use Rattle.records.specs.Record.{mark, is_dated, kind_of, kind, fields_at, offset_in, offset, read, value, in_range, ranges_hold}
use Rattle.records.proofs.Record.{field_in}
use Rattle.records.proofs.EveryMark.{mark-lt, by-mark}
use Rattle.rules.specs.Fit.{Known, levels_of, holds, field_fits, rule_fits, fits}

or-false : (a : Bool) → a || false ≡ a
or-false true = refl
or-false false = refl

by-technology : (P : ℕ → Type 0) → P 1 → P 2 → P 3 → P 4 → (t : ℕ) → Known t → P t
by-technology P a b c d zero k = absurd (omega (arith, k))
by-technology P a b c d (suc zero) k = a
by-technology P a b c d (suc (suc zero)) k = b
by-technology P a b c d (suc (suc (suc zero))) k = c
by-technology P a b c d (suc (suc (suc (suc zero)))) k = d
by-technology P a b c d (suc (suc (suc (suc (suc t))))) k = absurd (omega (arith, k))

-- ---- the levels that are held

pub holds-tests : (t v : ℕ) → eqb t 1 && (eqb v 1 || eqb v 2 || eqb v 3 || eqb v 4) || eqb t 2 && eqb v 1 || (eqb t 3 || eqb t 4)
    && (eqb v 1 || eqb v 4) ≡ holds t v
unfolding holds levels_of among
holds-tests t v =
    split (eqb t 1)
    (λ e. rw (eqb-true t 1 e) (four (eqb v 1) (eqb v 2) (eqb v 3) (eqb v 4)))
    (λ e. rw e (split (eqb t 2)
    (λ f. rw (eqb-true t 2 f) refl)
    (λ f. rw f (two (eqb t 3 || eqb t 4)))))
  where
    four : (a b c d : Bool) → (a || b || c || d) || false || false ≡ a || (b || (c || (d || false)))
    four true b c d = refl
    four false true c d = refl
    four false false true d = refl
    four false false false true = refl
    four false false false false = refl

    last : (a b : Bool) → a || b ≡ a || (b || false)
    last true b = refl
    last false true = refl
    last false false = refl

    two : (b : Bool) → b && (eqb v 1 || eqb v 4) ≡ among v (cond b (1 ∷ 4 ∷ []) [])
    two true = last (eqb v 1) (eqb v 4)
    two false = refl

-- ---- by mark

module _ (t : ℕ) (s : List ℕ) (known : Known t) where
  pub fits-rs : cond (eqb t 1 || eqb t 2) (not true || ltb 0 (number 9 2 s)) (eqb (number 9 2 s) 0)
      && cond (eqb t 1) (not false || ltb 0 (number 11 4 s)) (eqb (number 11 4 s) 0)
      && cond (eqb t 1) (not false || ltb 0 (number 15 4 s)) (eqb (number 15 4 s) 0)
      && cond (eqb t 2) (not true || ltb 0 (number 19 4 s)) (eqb (number 19 4 s) 0)
      && cond (eqb t 3) (not true || ltb 0 (number 23 4 s)) (eqb (number 23 4 s) 0)
      && cond (eqb t 3) (not true || ltb 0 (number 27 2 s)) (eqb (number 27 2 s) 0)
      && cond (eqb t 3 || eqb t 4) (not true || ltb 0 (number 29 2 s)) (eqb (number 29 2 s) 0)
      ≡ fits t RS s
  unfolding fits rule_fits kind_of is_dated field_fits all_below among value read offset fields_at offset_in field_of row_of table
  fits-rs =
      by-technology
      (λ t. cond (eqb t 1 || eqb t 2) (not true || ltb 0 (number 9 2 s)) (eqb (number 9 2 s) 0)
      && cond (eqb t 1) (not false || ltb 0 (number 11 4 s)) (eqb (number 11 4 s) 0)
      && cond (eqb t 1) (not false || ltb 0 (number 15 4 s)) (eqb (number 15 4 s) 0)
      && cond (eqb t 2) (not true || ltb 0 (number 19 4 s)) (eqb (number 19 4 s) 0)
      && cond (eqb t 3) (not true || ltb 0 (number 23 4 s)) (eqb (number 23 4 s) 0)
      && cond (eqb t 3) (not true || ltb 0 (number 27 2 s)) (eqb (number 27 2 s) 0)
      && cond (eqb t 3 || eqb t 4) (not true || ltb 0 (number 29 2 s)) (eqb (number 29 2 s) 0)
      ≡ fits t RS s)
      (sym (and-true _)) (sym (and-true _)) (sym (and-true _)) (sym (and-true _)) t known

  pub fits-hp : eqb t 1 ≡ fits t HP s
  unfolding fits rule_fits kind_of is_dated field_fits all_below among value read offset fields_at offset_in field_of row_of table
  fits-hp = by-technology (λ t. eqb t 1 ≡ fits t HP s) refl refl refl refl t known

  pub fits-fu : (not (eqb t 4) || eqb (number 7 4 s) 0) && (eqb t 1 || eqb (number 11 4 s) 0) ≡ fits t FU s
  unfolding fits rule_fits kind_of is_dated field_fits all_below among value read offset fields_at offset_in field_of row_of table
  fits-fu =
      by-technology (λ t. (not (eqb t 4) || eqb (number 7 4 s) 0) && (eqb t 1 || eqb (number 11 4 s) 0) ≡ fits t FU s) refl
      (sym (and-true _)) (sym (and-true _)) (sym (and-true _)) t known

  pub fits-ad : holds t (number 8 1 s) && (not (eqb (number 7 1 s) 5) || (eqb t 2 && eqb (number 8 1 s) 1)) ≡ fits t AD s
  unfolding fits rule_fits kind_of is_dated field_fits all_below among value read offset fields_at offset_in field_of row_of table
  fits-ad =
      by-technology (λ t. holds t (number 8 1 s) && (not (eqb (number 7 1 s) 5) || (eqb t 2 && eqb (number 8 1 s) 1)) ≡ fits t AD s)
      refl refl refl refl t known

  pub fits-ao : holds t (number 9 1 s) && (not (eqb (number 8 1 s) 5) || (eqb t 2 && eqb (number 9 1 s) 1)) ≡ fits t AO s
  unfolding fits rule_fits kind_of is_dated field_fits all_below among value read offset fields_at offset_in field_of row_of table
  fits-ao =
      by-technology (λ t. holds t (number 9 1 s) && (not (eqb (number 8 1 s) 5) || (eqb t 2 && eqb (number 9 1 s) 1)) ≡ fits t AO s)
      refl refl refl refl t known

  pub fits-mm : eqb t 1 || eqb (number 22 2 s) 0 ≡ fits t MM s
  unfolding fits rule_fits kind_of is_dated field_fits all_below among value read offset fields_at offset_in field_of row_of table
  fits-mm = by-technology (λ t. eqb t 1 || eqb (number 22 2 s) 0 ≡ fits t MM s) refl (sym (and-true _)) (sym (and-true _)) (sym (and-true _)) t known

  pub fits-hr : eqb t 3 ≡ fits t HR s
  unfolding fits rule_fits kind_of is_dated field_fits all_below among value read offset fields_at offset_in field_of row_of table
  fits-hr = by-technology (λ t. eqb t 3 ≡ fits t HR s) refl refl refl refl t known

  pub fits-ch : eqb t 3 ≡ fits t CH s
  unfolding fits rule_fits kind_of is_dated field_fits all_below among value read offset fields_at offset_in field_of row_of table
  fits-ch = by-technology (λ t. eqb t 3 ≡ fits t CH s) refl refl refl refl t known

  pub fits-fp : eqb t 4 ≡ fits t FP s
  unfolding fits rule_fits kind_of is_dated field_fits all_below among value read offset fields_at offset_in field_of row_of table
  fits-fp = by-technology (λ t. eqb t 4 ≡ fits t FP s) refl refl refl refl t known

  pub fits-lc : eqb t 3 ≡ fits t LC s
  unfolding fits rule_fits kind_of is_dated field_fits all_below among value read offset fields_at offset_in field_of row_of table
  fits-lc = by-technology (λ t. eqb t 3 ≡ fits t LC s) refl refl refl refl t known

  pub fits-th : holds t (number 7 1 s) ≡ fits t TH s
  unfolding fits rule_fits kind_of is_dated field_fits all_below among value read offset fields_at offset_in field_of row_of table
  fits-th = by-technology (λ t. holds t (number 7 1 s) ≡ fits t TH s) refl refl refl refl t known

  pub fits-none : true ≡ fits t 0 s
  unfolding fits rule_fits kind_of is_dated field_fits all_below among value read offset fields_at offset_in field_of row_of table
  fits-none = by-technology (λ t. true ≡ fits t 0 s) refl refl refl refl t known

  pub fits-rq : true ≡ fits t RQ s
  unfolding fits rule_fits kind_of is_dated field_fits all_below among value read offset fields_at offset_in field_of row_of table
  fits-rq = by-technology (λ t. true ≡ fits t RQ s) refl refl refl refl t known

  pub fits-fv : (not (eqb t 4) || eqb (number 11 4 s) 0) && (eqb t 1 || eqb (number 15 4 s) 0) ≡ fits t FV s
  unfolding fits rule_fits kind_of is_dated field_fits all_below among value read offset fields_at offset_in field_of row_of table
  fits-fv =
      by-technology (λ t. (not (eqb t 4) || eqb (number 11 4 s) 0) && (eqb t 1 || eqb (number 15 4 s) 0) ≡ fits t FV s) refl
      (sym (and-true _)) (sym (and-true _)) (sym (and-true _)) t known

  pub fits-av : holds t (number 12 1 s) && (not (eqb (number 11 1 s) 5) || (eqb t 2 && eqb (number 12 1 s) 1)) ≡ fits t AV s
  unfolding fits rule_fits kind_of is_dated field_fits all_below among value read offset fields_at offset_in field_of row_of table
  fits-av =
      by-technology (λ t. holds t (number 12 1 s) && (not (eqb (number 11 1 s) 5) || (eqb t 2 && eqb (number 12 1 s) 1)) ≡ fits t AV s)
      refl refl refl refl t known

  pub fits-mv : eqb t 1 || eqb (number 26 2 s) 0 ≡ fits t MV s
  unfolding fits rule_fits kind_of is_dated field_fits all_below among value read offset fields_at offset_in field_of row_of table
  fits-mv = by-technology (λ t. eqb t 1 || eqb (number 26 2 s) 0 ≡ fits t MV s) refl (sym (and-true _)) (sym (and-true _)) (sym (and-true _)) t known

-- ---- a record with a first hour fits as the record of its kind that it is without

fits-rest : (t k : ℕ) (r : List ℕ) → (k ≡ 0 → ⊥) → k < marks → is_dated k ≡ true → fits t k r ≡ fits t (kind_of k) (drop 4 r)
unfolding fits rule_fits kind_of is_dated field_fits all_below among value read offset fields_at offset_in field_of row_of table
fits-rest t k r z l =
    by-mark (λ k. is_dated k ≡ true → fits t k r ≡ fits t (kind_of k) (drop 4 r))
    (λ e. absurd (false≢true e)) (λ e. absurd (false≢true e)) (λ e. absurd (false≢true e)) (λ e. absurd (false≢true e)) (λ e. absurd (false≢true e))
    (λ e. absurd (false≢true e)) (λ e. absurd (false≢true e)) (λ e. absurd (false≢true e)) (λ e. absurd (false≢true e)) (λ e. absurd (false≢true e))
    (λ e. absurd (false≢true e)) (λ e. absurd (false≢true e))
    (λ e. rw (number-drop 4 6 1 r, number-drop 4 7 4 r, number-drop 4 11 4 r) refl)
    (λ e. rw (number-drop 4 6 1 r, number-drop 4 7 1 r, number-drop 4 8 1 r, number-drop 4 9 8 r) refl)
    (λ e. rw (number-drop 4 6 1 r, number-drop 4 7 1 r, number-drop 4 8 8 r, number-drop 4 16 2 r, number-drop 4 18 4 r, number-drop 4 22 2 r) refl)
    k z l

pub fits-body : (t : ℕ) (r : List ℕ) → fits t (mark r) r ≡ fits t (kind r) (body r)
unfolding kind body
fits-body t r =
    split (is_dated (mark r))
    (λ e. rw e (fits-rest t (mark r) r (λ z. absurd (not-dated (rw z at e))) (mark-lt r) e))
    (λ e. unfold kind_of in rw e refl)
  where
    not-dated : is_dated 0 ≡ true → ⊥
    not-dated e = false≢true (unfold is_dated row_of table in e)

-- ---- AD and TH by their keys

nuclear-level : (v : ℕ) → holds 2 v ≡ true → eqb v 1 ≡ true
unfolding holds levels_of among
nuclear-level v e = sym (or-false (eqb v 1)) ∙ e

-- what is asked of the cost and the level in an adder's key
adder-held : (t n : ℕ) → holds t (n % 256) ≡ true → (n / 256 % 256 ≡ 5 → t ≡ 2)
    → holds t (n % 256) && (not (eqb (n / 256 % 256) 5) || (eqb t 2 && eqb (n % 256) 1)) ≡ true
adder-held t n e f =
    split (eqb (n / 256 % 256) 5)
    (λ w. let two : t ≡ 2 = f (eqb-true (n / 256 % 256) 5 w)
    in rw (e, w, two, nuclear-level (n % 256) (subst (λ (x : ℕ). holds x (n % 256) ≡ true) two e)) refl)
    (λ w. rw (e, w) refl)

module _ (t : ℕ) (s : List ℕ) (known : Known t) where
  -- AD fits if its level is held and its cost is another than 5, or the station is nuclear
  pub held-ad : ranges_hold AD s ≡ true → holds t (number 6 3 s % 256) ≡ true → (number 6 3 s / 256 % 256 ≡ 5 → t ≡ 2) → fits t AD s ≡ true
  unfolding in_range value read offset fields_at offset_in field_of row_of table number
  held-ad h e f =
      let high = between-high 1 5 (number 7 1 s) (field_in AD 1 s h (lit< tt)) in
      let low = between-high 1 4 (number 8 1 s) (field_in AD 2 s h (lit< tt)) in
      let c : number 6 3 s / 256 % 256 ≡ number 7 1 s = omega (arith, high, low) in
      let v : number 6 3 s % 256 ≡ number 8 1 s = omega (arith, low) in
      sym (fits-ad t s known) ∙ rw (← c, ← v) (adder-held t (number 6 3 s) e f)

  -- and AV, whose key lies four bytes further on
  pub held-av : ranges_hold AV s ≡ true → holds t (number 10 3 s % 256) ≡ true → (number 10 3 s / 256 % 256 ≡ 5 → t ≡ 2) → fits t AV s ≡ true
  unfolding in_range value read offset fields_at offset_in field_of row_of table number
  held-av h e f =
      let high = between-high 1 5 (number 11 1 s) (field_in AV 1 s h (lit< tt)) in
      let low = between-high 1 4 (number 12 1 s) (field_in AV 2 s h (lit< tt)) in
      let c : number 10 3 s / 256 % 256 ≡ number 11 1 s = omega (arith, high, low) in
      let v : number 10 3 s % 256 ≡ number 12 1 s = omega (arith, low) in
      sym (fits-av t s known) ∙ rw (← c, ← v) (adder-held t (number 10 3 s) e f)

  -- and AO, with an owner first in its key
  pub held-ao : ranges_hold AO s ≡ true → holds t (number 6 4 s % 256) ≡ true → (number 6 4 s / 256 % 256 ≡ 5 → t ≡ 2) → fits t AO s ≡ true
  unfolding in_range value read offset fields_at offset_in field_of row_of table number
  held-ao h e f =
      let high = between-high 1 5 (number 8 1 s) (field_in AO 2 s h (lit< tt)) in
      let low = between-high 1 4 (number 9 1 s) (field_in AO 3 s h (lit< tt)) in
      let c : number 6 4 s / 256 % 256 ≡ number 8 1 s = omega (arith, high, low) in
      let v : number 6 4 s % 256 ≡ number 9 1 s = omega (arith, low) in
      sym (fits-ao t s known) ∙ rw (← c, ← v) (adder-held t (number 6 4 s) e f)

  -- TH fits if its level is held
  pub held-th : ranges_hold TH s ≡ true → holds t (number 6 2 s % 256) ≡ true → fits t TH s ≡ true
  unfolding in_range value read offset fields_at offset_in field_of row_of table number
  held-th h e =
      let v : between 1 4 (number 7 1 s) ≡ true = field_in TH 1 s h (lit< tt) in
      sym (fits-th t s known) ∙ subst (λ (n : ℕ). holds t n ≡ true) (omega (arith, between-high 1 4 (number 7 1 s) v)) e
