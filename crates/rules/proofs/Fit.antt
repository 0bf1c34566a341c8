-- A record that fits the technology fits still when it is raised.
use mathlib.Core.Path.{◌≡◌, refl, subst}
use mathlib.Core.Bool.{Bool, true, false, cond, ◌&&◌, ◌||◌, not}
use mathlib.Core.List.{List}
use Prim.Native.Nat.{ℕ, ◌≤◌}
use native.Mathlib.Omega.{arith}
use lib.Dec.{ltb, eqb}
use lib.ListN.{length}
use borrow.Author.Tests.{eqb-true, eq-eqb, ltb-true, lt-ltb}
use Rattle.lists.specs.Tests.{all_below, among}
use Rattle.lists.proofs.Tests.{split, and_left, and_right, and_both, below_at, at-below}
use Rattle.records.specs.Table.{Field, table, row_of, field_of, AD, TH, AO}
use Rattle.records.specs.Record.{mark, kind_of, is_money, value}
use Rattle.records.specs.Raise.{Rise, stays, rises, limit_of, Raised}
use Rattle.records.proofs.Dated.{kind-field}
use Rattle.records.proofs.Raise.{raised-same}
use Rattle.rules.specs.Fit.{holds, field_fits, adder_fits, rule_fits, fits}

rise-fits : (t : ℕ) (f : Field) {a b : ℕ} → Rise (limit_of t f) a b → field_fits t f a ≡ true → field_fits t f b ≡ true
unfolding field_fits limit_of
rise-fits t f (stays e) h = rw (← e) h
rise-fits t f {a} {b} (rises p q) h = go (among t f.used_by) f.positive q h
  where
    go : (u m : Bool) → b ≤ cond u f.highest 0 → cond u (not m || ltb 0 a) (eqb a 0) ≡ true → cond u (not m || ltb 0 b) (eqb b 0) ≡ true
    go true true y z = lt-ltb 0 b (omega (arith, ltb-true 0 a z))
    go true false y z = refl
    go false m y z = eq-eqb b 0 (omega arith)

module _ {t : ℕ} {r s : List ℕ} (q : Raised t r s) where
  field-stays : (j : ℕ) → field_fits t (field_of (mark r) j) (value (mark r) j r) ≡ true → field_fits t (field_of (mark r) j) (value (mark r) j s) ≡ true
  field-stays j h =
      split (is_money (field_of (mark r) j).role)
      (λ e. rise-fits t (field_of (mark r) j) (q.rising j e) h)
      (λ e. rw (← raised-same q j e) h)

  same_at : (k j : ℕ) → mark r ≡ k → is_money (field_of k j).role ≡ false → value k j r ≡ value k j s
  same_at k j e m = subst (λ (x : ℕ). value x j r ≡ value x j s) e (raised-same q j (rw e m))

  rule-stays : rule_fits t (mark r) r ≡ true → rule_fits t (mark r) s ≡ true
  unfolding rule_fits
  rule-stays = go (eqb (kind_of (mark r)) AD) refl (eqb (mark r) AO) refl (eqb (mark r) TH) refl
    where
      -- an adder's cost and level, and a threshold's level, are no money
      adders : (j : ℕ) → eqb (kind_of (mark r)) AD ≡ true → is_money (field_of AD j).role ≡ false → value (mark r) j r ≡ value (mark r) j s
      adders j e m = raised-same q j (rw (kind-field (mark r) AD j (eqb-true (kind_of (mark r)) AD e)) m)

      -- so are those of an owner's adder
      own : (j : ℕ) → eqb (mark r) AO ≡ true → is_money (field_of AO j).role ≡ false → value AO j r ≡ value AO j s
      own j e m = same_at AO j (eqb-true (mark r) AO e) m

      go : (a : Bool) → eqb (kind_of (mark r)) AD ≡ a → (c : Bool) → eqb (mark r) AO ≡ c → (b : Bool) → eqb (mark r) TH ≡ b
          → cond a (adder_fits t (value (mark r) 1 r) (value (mark r) 2 r)) (cond c (adder_fits t (value AO 2 r) (value AO 3 r))
          (cond b (holds t (value TH 1 r)) true)) ≡ true
          → cond a (adder_fits t (value (mark r) 1 s) (value (mark r) 2 s)) (cond c (adder_fits t (value AO 2 s) (value AO 3 s))
          (cond b (holds t (value TH 1 s)) true)) ≡ true
      go true e c w b f h = rw (← adders 1 e (unfold field_of row_of table in refl), ← adders 2 e (unfold field_of row_of table in refl)) h
      go false e true w b f h = rw (← own 2 w (unfold field_of row_of table in refl), ← own 3 w (unfold field_of row_of table in refl)) h
      go false e false w true f h = rw (← same_at TH 1 (eqb-true (mark r) TH f) (unfold field_of row_of table in refl)) h
      go false e false w false f h = refl

  pub fits-stays : fits t (mark r) r ≡ true → fits t (mark r) s ≡ true
  unfolding fits
  fits-stays h =
      let n : ℕ = length (row_of (mark r)).fields in
      let f : ℕ → Bool = λ i. field_fits t (field_of (mark r) i) (value (mark r) i r) in
      let g : ℕ → Bool = λ i. field_fits t (field_of (mark r) i) (value (mark r) i s) in
      let u : Bool = among t (row_of (mark r)).technologies in
      let z = and_right u (all_below n f && rule_fits t (mark r) r) h in
      and_both u (all_below n g && rule_fits t (mark r) s)
      (and_left u (all_below n f && rule_fits t (mark r) r) h)
      (and_both (all_below n g) (rule_fits t (mark r) s)
      (at-below n g (λ i p. field-stays i (below_at n f (and_left (all_below n f) (rule_fits t (mark r) r) z) i p)))
      (rule-stays (and_right (all_below n f) (rule_fits t (mark r) r) z)))
