-- What the current record of a kind and key hides at every hour doesn't count, and what counts without it is what counts with it.
use mathlib.Core.Path.{◌≡◌, refl, ap₂, sym, ◌∙◌}
use mathlib.Core.Bool.{Bool, true, false, cond, ◌&&◌, ◌||◌, not, false≢true}
use mathlib.Core.List.{List, ◌∷◌}
use Prim.Native.Nat.{ℕ, ◌≤◌, ◌<◌}
use native.Mathlib.Nat.{le_refl}
use native.Mathlib.Omega.{arith}
use lib.Dec.{leb, ltb}
use borrow.Author.Tests.{ltb-true, le-ltb, leb-true, eq-eqb}
use Rattle.lists.specs.Lists.{Each, Member, here, there, those}
use Rattle.lists.proofs.Lists.{each_map, each_both, member-each, members, those-each, each-those, those-test, member-those}
use Rattle.lists.proofs.Tests.{split, and_left, and_right, and_both, or-true}
use Rattle.records.specs.Record.{mark, kind, key_of, issue, since}
use Rattle.station.specs.Current.{matches, current}
use Rattle.station.specs.InForce.{counts}
use Rattle.station.specs.Declared.{IsCurrent, CurrentOf, absent, standing, Counting}
use Rattle.station.proofs.Current.{current-found, matches-kind, matches-key, matches-self}
use Rattle.station.proofs.InForce.{declared-counts, counts-declared}
use Rattle.rules.specs.Fit.{fits}
use Rattle.trials.specs.Trials.{valued, KeysFit}
use Rattle.counting.specs.Sweep.{hidden, shown}

those-member : {A : Type 0} (f : A → Bool) {a : A} {l : List A} → Member a l → f a ≡ true → Member a (those f l)
unfolding those
those-member f here e = rw e here
those-member f {a} (there {b = b} {l = l} m) e = go (f b) (those-member f m e)
  where
    go : (x : Bool) → Member a (those f l) → Member a (cond x (b ∷ those f l) (those f l))
    go true n = there n
    go false n = n

pub same_truth : (a b : Bool) → (a ≡ true → b ≡ true) → (b ≡ true → a ≡ true) → a ≡ b
same_truth true b f g = sym (f refl)
same_truth false true f g = g refl
same_truth false false f g = refl

module _ (l : List (List ℕ)) where
  -- the one that hides
  abbrev over : List ℕ → List ℕ
  over r = current (kind r) (key_of r) l

  its-current : (r : List ℕ) → Member r l → IsCurrent (kind r) (key_of r) l (over r)
  its-current r m = go (current-found (kind r) (key_of r) l)
    where
      go : {c : List ℕ} → CurrentOf (kind r) (key_of r) l c → IsCurrent (kind r) (key_of r) l c
      go (absent p w) = absurd (false≢true (sym (member-each m w) ∙ matches-self r))
      go (standing q) = q

  parts : (r : List ℕ) → hidden l r ≡ true → (issue r < issue (over r)) × (since (over r) ≤ since r)
  unfolding hidden
  parts r h = (
    ltb-true (issue r) (issue (over r)) (and_left (ltb (issue r) (issue (over r))) (leb (since (over r)) (since r)) h),
    leb-true (since (over r)) (since r) (and_right (ltb (issue r) (issue (over r))) (leb (since (over r)) (since r)) h),
  )

  matched : (r s : List ℕ) → kind s ≡ kind r → key_of s ≡ key_of r → matches (kind r) (key_of r) s ≡ true
  unfolding matches
  matched r s e f = and_both _ _ (eq-eqb (kind s) (kind r) e) (eq-eqb (key_of s) (key_of r) f)

  hidden-not : (r : List ℕ) → Member r l → hidden l r ≡ true → counts l r ≡ false
  hidden-not r m h =
      split (counts l r)
      (λ c.
      let q = its-current r m in
      let p = parts r h in
      absurd (omega (arith, member-each q.member (counts-declared l r m c) (matched r (over r) q.marked q.keyed) p.0, p.1)))
      (λ c. c)

  module _ (all : Bool) where
    -- what is not shown is hidden, or of a kind that is not sought
    unshown : {P : Type 0} (r : List ℕ) → shown all l r ≡ false → (valued (mark r) ≡ true → hidden l r ≡ true → P)
        → (all ≡ false → valued (mark r) ≡ false → P) → P
    unfolding shown
    unshown {P} r e f g = go all (valued (mark r)) (hidden l r) e f g
      where
        go : (x v h : Bool) → (x || v) && not (v && h) ≡ false → (v ≡ true → h ≡ true → P) → (x ≡ false → v ≡ false → P) → P
        go true true true e f g = f refl refl
        go true true false e f g = absurd (false≢true (sym e))
        go true false h e f g = absurd (false≢true (sym e))
        go false true true e f g = f refl refl
        go false true false e f g = absurd (false≢true (sym e))
        go false false h e f g = g refl refl

    unsought : (r : List ℕ) → all ≡ false → valued (mark r) ≡ false → shown all l r ≡ false
    unfolding shown
    unsought r a v = rw (a, v) refl

    valued-kind : (r s : List ℕ) → kind s ≡ kind r → valued (mark s) ≡ valued (mark r)
    unfolding valued kind
    valued-kind r s e = rw e refl

    -- what is not shown does not count, or fits
    pub unshown-fits : (t : ℕ) → (all ≡ false → KeysFit t l) → (r : List ℕ) → Member r l → shown all l r ≡ false → counts l r && not (fits t (mark r) r) ≡ false
    unshown-fits t keys r m e =
        unshown r e
        (λ _ h. rw (hidden-not r m h) refl)
        (λ a v. split (counts l r) (λ c. rw (c, member-each m (keys a) c v) refl) (λ c. rw c refl))

    -- a current record of a kind that is looked at is shown
    current-shown : (k n : ℕ) {c : List ℕ} → IsCurrent k n l c → current k n l ≡ c → valued (mark c) ≡ true → shown all l c ≡ true
    unfolding shown hidden
    current-shown k n {c} q e v =
        let same : over c ≡ c = ap₂ (λ (x y : ℕ). current x y l) q.marked q.keyed ∙ e in
        rw (same, le-ltb (issue c) (issue c) (le_refl (issue c)), v, or-true all) refl

    -- a record that is shown counts among those that are exactly if it does among all
    pub counts-shown : Each (λ r. counts (those (shown all l) l) r ≡ counts l r) (those (shown all l) l)
    counts-shown =
        each_map (λ r q. same_truth (counts (those (shown all l) l) r) (counts l r)
        (λ c. declared-counts l r (member-those (shown all l) l q.0) (back r q.1 (counts-declared (those (shown all l) l) r q.0 c)))
        (λ c. declared-counts (those (shown all l) l) r q.0 (those-each (shown all l) (counts-declared l r (member-those (shown all l) l q.0) c))))
        (each_both (members (those (shown all l) l)) (those-test (shown all l) l))
      where
        back : (r : List ℕ) → shown all l r ≡ true → Counting (those (shown all l) l) r → Counting l r
        back r sr e = each_map (λ s q mt lt. split (shown all l s) (λ w. q.0 w mt lt) (λ w. through s q.1 w mt lt)) (each_both shown_ones (members l))
          where
            shown_ones : Each (λ s. shown all l s ≡ true → matches (kind r) (key_of r) s ≡ true → issue r < issue s → since r < since s) l
            shown_ones = each-those (shown all l) l e

            not-sought : all ≡ false → valued (mark r) ≡ false → ⊥
            not-sought a v = false≢true (sym (unsought r a v) ∙ sr)

            through : (s : List ℕ) → Member s l → shown all l s ≡ false → matches (kind r) (key_of r) s ≡ true → issue r < issue s → since r < since s
            through s m w mt lt =
                let q = its-current s m in
                let ks = matches-kind (kind r) (key_of r) s mt in
                let n = q.keyed ∙ matches-key (kind r) (key_of r) s mt in
                unshown s w
                (λ v h.
                let p = parts s h in
                omega (
                  arith,
                  member-each q.member shown_ones (current-shown (kind s) (key_of s) q refl (valued-kind s (over s) q.marked ∙ v))
                      (matched r (over s) (q.marked ∙ ks) n) (omega (arith, lt, p)),
                  p,
                ))
                (λ a v. absurd (not-sought a (sym (valued-kind r s ks) ∙ v)))
