-- What the index holds after the pass: for each kind and key the current record; and where every issue rose there are no twins.
use mathlib.Core.Path.{◌≡◌, refl, ap, ap₂, sym, subst, ◌∙◌}
use mathlib.Core.Bool.{Bool, true, false, cond, ◌&&◌, false≢true, ◌||◌}
use mathlib.Core.List.{List, [], ◌∷◌, ◌++◌, append_assoc}
use Prim.Native.Nat.{ℕ, ◌+◌, ◌≤◌, ◌<◌}
use native.Mathlib.Nat.{zero-add, le_refl, le_trans, lt_of_le_of_lt}
use native.Mathlib.Decide.{ℕ_discrete}
use native.Mathlib.Omega.{arith}
use lib.Dec.{leb, ltb, eqb}
use lib.ListN.{length, get_or, set, take, drop, length-append, length-set, length-replicate, get_or-replicate}
use lib.Seq.{take_at, drop_at, get_or-set_same, get_or-set_other}
use borrow.Author.Tests.{le-ltb, le-leb, lt-leb, ne_eqb, ltb-true, ltb-false, leb-true, leb-false, eqb-true}
use Rattle.lists.specs.Lists.{Each, done, also, joined}
use Rattle.lists.proofs.Lists.{each_map}
use Rattle.lists.proofs.Tests.{and_left, and_right, split}
use Rattle.fields.specs.Numbers.{number}
use Rattle.fields.proofs.Numbers.{number-nil, number-drop}
use Rattle.records.specs.Record.{mark, kind, size, issue, key_of, fault}
use Rattle.records.specs.Answers.{Accepted, refuse_if}
use Rattle.records.specs.Dossier.{records, scan}
use Rattle.records.specs.Walk.{folded}
use Rattle.records.proofs.Answers.{parts-or_else, refuse_if-not}
use Rattle.records.proofs.Dossier.{joined-records, scan-each, Whole, records-whole}
use Rattle.records.proofs.Record.{size-ge}
use Rattle.records.proofs.Read.{number-take}
use Rattle.station.specs.Current.{matches, better, current_from, current, start_from, start_of, twin, any_twin, twins}
use Rattle.station.proofs.Current.{matches-kind, matches-key, matches-self}
use Rattle.index.specs.Slots.{slot, held_issue, newer, Kept, kept, fresh, put, keep_step}
use Rattle.index.proofs.KeyBounds.{InKey, in-key}
use Rattle.index.proofs.Slots.{slot_apart}

-- a slot's value v holds record c of kind k, which stands at q, before place p of the dossier
pub data Holds (k : ℕ) (d : List ℕ) (p v : ℕ) (c : List ℕ) (q : ℕ) : Type 0 where
  absent : v ≡ 0 → c ≡ [] → q ≡ 0 → Holds k d p v c q
  there : v ≡ q + 1 → q + length c ≤ p → length c ≡ size (mark c) → kind c ≡ k → take (length c) (drop q d) ≡ c → Holds k d p v c q

-- a record that is faultless and whole
abbrev pub Good : List ℕ → Type 0
Good r = (fault r ≡ 0) × (length r ≡ size (mark r))

issue-nil : issue [] ≡ 0
unfolding issue
issue-nil = number-nil 2 4

-- ---- the issue that is held is read where the record stands

held_none : (d : List ℕ) → held_issue d 0 ≡ 0
unfolding held_issue
held_none d = refl

held-there : (d c : List ℕ) (q : ℕ) → 6 ≤ length c → q + length c ≤ length d → take (length c) (drop q d) ≡ c → held_issue d (q + 1) ≡ issue c + 1
unfolding held_issue issue
held-there d c q z w g =
    let e : number (q + 1 + 1) 4 d ≡ number 2 4 c = ap (λ (o : ℕ). number o 4 d) (omega arith) ∙ sym (number-drop q 2 4 d)
    ∙ sym (number-take (length c) 2 4 (drop q d) z) ∙ ap (number 2 4) g in
    rw (ne_eqb (q + 1) 0 (λ x. omega (arith, x)), le-ltb (length d) (q + 1 + 5) (omega (arith, z, w)), e) refl

leb-next : (a b : ℕ) → leb (a + 1) (b + 1) ≡ leb a b
leb-next a b =
    split (leb a b)
    (λ e. le-leb (a + 1) (b + 1) (omega (arith, leb-true a b e)) ∙ sym e)
    (λ e. lt-leb (a + 1) (b + 1) (omega (arith, leb-false a b e)) ∙ sym e)

-- the later record counts if its issue is not lower
takes : (k : ℕ) (d : List ℕ) (p v : ℕ) (c r : List ℕ) (q : ℕ) → p ≤ length d → Holds k d p v c q
    → leb (held_issue d v) (issue r + 1) ≡ leb (issue c) (issue r)
takes k d p v c r q h (absent e z _) = rw (e, held_none d, z, issue-nil) (le-leb 0 (issue r + 1) (omega arith) ∙ sym (le-leb 0 (issue r) (omega arith)))
takes k d p v c r q h (there e w f m g) =
    rw (e, held-there d c q (omega (arith, size-ge (mark c), f)) (omega (arith, w, h)) g) (leb-next (issue c) (issue r))

-- a record in a dossier, read where it stands
at_place : (front r rest : List ℕ) → take (length r) (drop (length front) (front ++ (r ++ rest))) ≡ r
at_place front r rest = rw (drop_at front (r ++ rest) (length front) refl) (take_at r rest (length r) refl)

ends : (front r rest : List ℕ) → length front + length r ≤ length (front ++ (r ++ rest))
ends front r rest = omega (arith, length-append front (r ++ rest), length-append r rest)

pub put-length : (d ix : List ℕ) (p : ℕ) (r : List ℕ) → length (put d ix p r) ≡ length ix
put-length d ix p r = unfold put in (length-set ix _ _)

kept-length : (d : List ℕ) (x : Kept) (p : ℕ) (r : List ℕ) → length (keep_step d x p r).slots ≡ length x.slots
kept-length d x p r = unfold keep_step in (put-length d x.slots p r)

pub later-holds : {k : ℕ} {d : List ℕ} {p v : ℕ} {c : List ℕ} {q : ℕ} (m : ℕ) → Holds k d p v c q → Holds k d (p + m) v c q
later-holds m (absent e z y) = absent e z y
later-holds m (there e w f g h) = there e (omega (arith, w)) f g h

-- of a kind and key that have a slot among w
module _ (d : List ℕ) (k n : ℕ) (i : InKey k n) (w : ℕ) (fit : slot k n < w) where
  abbrev Held : ℕ → ℕ → List ℕ → ℕ → Type 0
  Held p v c q = Holds k d p v c q

  -- a record that is put into its slot
  pub put_holds : (front r rest ix : List ℕ) (c : List ℕ) (q : ℕ) → front ++ (r ++ rest) ≡ d → length ix ≡ w → Good r
      → Held (length front) (get_or ix (slot k n) 0) c q
      → Held (length front + length r) (get_or (put d ix (length front) r) (slot k n) 0) (better k n c r)
      (cond (matches k n r && leb (issue c) (issue r)) (length front) q)
  unfolding put better
  put_holds front r rest ix c q whole len good old = go (matches k n r) refl
    where
      p : ℕ
      p = length front

      next : ℕ → ℕ
      next j = newer (held_issue d (get_or ix j 0)) (issue r + 1) (get_or ix j 0) (p + 1)

      new : kind r ≡ k → Held (p + length r) (p + 1) r p
      new m = there refl (omega arith) good.1 m (rw (← whole) (at_place front r rest))

      pick : kind r ≡ k → (t : Bool) → Held (p + length r) (cond t (p + 1) (get_or ix (slot k n) 0)) (cond t r c) (cond t p q)
      pick m true = new m
      pick m false = later-holds (length r) old

      within : p ≤ length d
      within = omega (arith, ends front r rest, ap length whole)

      go : (m : Bool) → matches k n r ≡ m
          → Held (p + length r) (get_or (set ix (slot (kind r) (key_of r)) (next (slot (kind r) (key_of r)))) (slot k n) 0)
          (cond (m && leb (issue c) (issue r)) r c) (cond (m && leb (issue c) (issue r)) p q)
      go true e =
          rw (
            matches-kind k n r e,
            matches-key k n r e,
            get_or-set_same ix (slot k n) (next (slot k n)) 0 (omega (arith, len, fit)),
            takes k d p (get_or ix (slot k n) 0) c r q within old,
          )
          (pick (matches-kind k n r e) (leb (issue c) (issue r)))
      go false e =
          rw (get_or-set_other ix (slot (kind r) (key_of r)) (slot k n) (next (slot (kind r) (key_of r))) 0 apart)
          (later-holds (length r) old)
        where
          apart : slot k n ≡ slot (kind r) (key_of r) → ⊥
          apart w =
              let z = slot_apart k n (kind r) (key_of r) i (in-key r good.0) w in
              false≢true (sym e ∙ ap₂ (λ (x y : ℕ). matches x y r) z.0 z.1 ∙ matches-self r)

  slots-from : (front : List ℕ) (l : List (List ℕ)) (x : Kept) (c : List ℕ) (q : ℕ) → front ++ joined l ≡ d → Each Good l → length x.slots ≡ w
      → Held (length front) (get_or x.slots (slot k n) 0) c q
      → Held (length front + length (joined l)) (get_or (folded (keep_step d) (length front) x l).slots (slot k n) 0) (current_from k n c l)
      (start_from k n c q (length front) l)
  unfolding folded current_from start_from joined
  slots-from front [] x c q whole g len old = subst (λ (p : ℕ). Held p (get_or x.slots (slot k n) 0) c q) (sym (omega arith)) old
  slots-from front (r ∷ l) x c q whole (also g e) len old =
      let a : length (r ++ joined l) ≡ length r + length (joined l) = length-append r (joined l) in
      let b : length (front ++ r) ≡ length front + length r = length-append front r in
      let at = cond (matches k n r && leb (issue c) (issue r)) (length front) q in
      let y = keep_step d x (length front) r in
      let z = slots-from (front ++ r) l y (better k n c r) at (append_assoc front r (joined l) ∙ whole) e (kept-length d x (length front) r ∙ len)
      (rw b (unfold keep_step in put_holds front r (joined l) x.slots c q whole len g old)) in
      subst (λ (p : ℕ). Held p (get_or (folded (keep_step d) (length front + length r) y l).slots (slot k n) 0) (current_from k n (better k n c r) l)
      (start_from k n (better k n c r) at (length front + length r) l)) (omega (arith, a))
      (rw b at z)

pub good-records : (d : List ℕ) → scan 0 (records d) ≡ Accepted → Each Good (records d)
good-records d h = go (scan-each 0 (records d) h) (records-whole d (scan-each 0 (records d) h))
  where
    go : {l : List (List ℕ)} → Each (λ r. fault r ≡ 0) l → Each Whole l → Each Good l
    go done done = done
    go (also {a = r} f e) (also w m) = also (f, w) (go e m)

-- the index of a clean dossier, from an empty one
pub index-holds : (d : List ℕ) (w : ℕ) → scan 0 (records d) ≡ Accepted → (k n : ℕ) → InKey k n → slot k n < w
    → Holds k d (length d) (get_or (folded (keep_step d) 0 (fresh w) (records d)).slots (slot k n) 0) (current k n (records d)) (start_of k n (records d))
unfolding current start_of
index-holds d w s k n i fit =
    let a = slots-from d k n i w fit [] (records d) (fresh w) [] 0 (joined-records d) (good-records d s) (length-replicate {A = ℕ} w 0)
    (absent (get_or-replicate w (slot k n) 0 0 fit) refl refl) in
    subst (λ (p : ℕ). Holds k d p (get_or (folded (keep_step d) 0 (fresh w) (records d)).slots (slot k n) 0) (current_from k n [] (records d))
    (start_from k n [] 0 0 (records d))) (zero-add (length (joined (records d))) ∙ ap length (joined-records d)) a

-- ---- where every issue rose

-- the issues that are held only grow
grows : (d ix : List ℕ) (j i p : ℕ) {a : ℕ} → j < length ix → held_issue d (p + 1) ≡ a
    → held_issue d (get_or ix i 0) ≤ held_issue d (get_or (set ix j (newer (held_issue d (get_or ix j 0)) a (get_or ix j 0) (p + 1))) i 0)
grows d ix j i p {a} h e = go (ℕ_discrete i j)
  where
    next : ℕ
    next = newer (held_issue d (get_or ix j 0)) a (get_or ix j 0) (p + 1)

    mine : (t : Bool) → leb (held_issue d (get_or ix j 0)) a ≡ t → held_issue d (get_or ix j 0) ≤ held_issue d (cond t (p + 1) (get_or ix j 0))
    mine true x = rw e (leb-true (held_issue d (get_or ix j 0)) a x)
    mine false x = le_refl (held_issue d (get_or ix j 0))

    go : Dec (i ≡ j) → held_issue d (get_or ix i 0) ≤ held_issue d (get_or (set ix j next) i 0)
    go (yes x) = rw (x, get_or-set_same ix j next 0 h) (mine (leb (held_issue d (get_or ix j 0)) a) refl)
    go (no x) = rw (get_or-set_other ix j i next 0 x) (le_refl (held_issue d (get_or ix i 0)))

module _ (d : List ℕ) where
  abbrev held_at : List ℕ → List ℕ → ℕ
  held_at ix s = held_issue d (get_or ix (slot (kind s) (key_of s)) 0)

  abbrev Under : List ℕ → List ℕ → Type 0
  Under ix s = issue s + 1 ≤ held_at ix s

  no-twin : (r : List ℕ) (ix : List ℕ) → held_at ix r < issue r + 1 → {seen : List (List ℕ)} → Each (Under ix) seen → any_twin r seen ≡ false
  unfolding any_twin twin
  no-twin r ix h done = refl
  no-twin r ix h (also {a = s} {l = seen} u e) =
      go (eqb (kind r) (kind s)) refl (eqb (key_of r) (key_of s)) refl (eqb (issue r) (issue s)) refl (no-twin r ix h e)
    where
      go : (a : Bool) → eqb (kind r) (kind s) ≡ a → (b : Bool) → eqb (key_of r) (key_of s) ≡ b → (c : Bool) → eqb (issue r) (issue s) ≡ c
          → any_twin r seen ≡ false → a && b && c || any_twin r seen ≡ false
      go true x true y true z w =
          absurd (omega (
            arith,
            h,
            u,
            ap₂ (λ (m n : ℕ). held_issue d (get_or ix (slot m n) 0)) (eqb-true (kind r) (kind s) x) (eqb-true (key_of r) (key_of s) y),
            eqb-true (issue r) (issue s) z,
          ))
      go true x true y false z w = w
      go true x false y c z w = w
      go false x b y c z w = w

  still : (p : ℕ) (x : Kept) (l : List (List ℕ)) → (folded (keep_step d) p x l).rising ≡ true → x.rising ≡ true
  unfolding folded keep_step
  still p x [] e = e
  still p x (r ∷ l) e = and_left x.rising (ltb (held_at x.slots r) (issue r + 1)) (still (p + length r) (keep_step d x p r) l e)

  -- the highest slot after a record is no lower than that before it, nor than the record's
  step-top : (p : ℕ) (x : Kept) (r : List ℕ) → (x.top ≤ (keep_step d x p r).top) × (slot (kind r) (key_of r) ≤ (keep_step d x p r).top)
  unfolding keep_step
  step-top p x r = go (ltb x.top (slot (kind r) (key_of r))) refl
    where
      go : (t : Bool) → ltb x.top (slot (kind r) (key_of r)) ≡ t → (x.top ≤ cond t (slot (kind r) (key_of r)) x.top)
          × (slot (kind r) (key_of r) ≤ cond t (slot (kind r) (key_of r)) x.top)
      go true e = let h = ltb-true x.top (slot (kind r) (key_of r)) e in (omega (arith, h), le_refl (slot (kind r) (key_of r)))
      go false e = (le_refl x.top, ltb-false x.top (slot (kind r) (key_of r)) e)

  top-grows : (p : ℕ) (x : Kept) (l : List (List ℕ)) → x.top ≤ (folded (keep_step d) p x l).top
  unfolding folded
  top-grows p x [] = le_refl x.top
  top-grows p x (r ∷ l) = le_trans (step-top p x r).0 (top-grows (p + length r) (keep_step d x p r) l)

  first-top : (p : ℕ) (x : Kept) (r : List ℕ) (l : List (List ℕ)) → slot (kind r) (key_of r) ≤ (folded (keep_step d) p x (r ∷ l)).top
  unfolding folded
  first-top p x r l = le_trans (step-top p x r).1 (top-grows (p + length r) (keep_step d x p r) l)

  -- no record has a slot above the highest
  pub top-slots : (p : ℕ) (x : Kept) (l : List (List ℕ)) → Each (λ r. slot (kind r) (key_of r) ≤ (folded (keep_step d) p x l).top) l
  unfolding folded
  top-slots p x [] = done
  top-slots p x (r ∷ l) = also {a = r} (first-top p x r l) (top-slots (p + length r) (keep_step d x p r) l)

  rising-from : (front : List ℕ) (x : Kept) (seen : List (List ℕ)) {l : List (List ℕ)} → front ++ joined l ≡ d → Each Good l → Each (Under x.slots) seen
      → (folded (keep_step d) (length front) x l).top < length x.slots → (folded (keep_step d) (length front) x l).rising ≡ true
      → twins (length front) seen l ≡ Accepted
  unfolding folded twins joined
  rising-from front x seen whole done u w e = refl
  rising-from front x seen whole (also {a = r} {l = l} g m) u w e =
      parts-or_else (refuse_if (any_twin r seen) 4 p) (twins (p + length r) (r ∷ seen) l)
      (refuse_if-not (any_twin r seen) 4 p (no-twin r x.slots below u))
      (rw (length-append front r) at
      (rising-from (front ++ r) (keep_step d x p r) (r ∷ seen) (append_assoc front r (joined l) ∙ whole) m
      (also {a = r} mine (each_map more u)) (rw (length-append front r, kept-length d x p r) w) (rw (length-append front r) e)))
    where
      p : ℕ
      p = length front

      j : ℕ
      j = slot (kind r) (key_of r)

      j-lt : j < length x.slots
      j-lt = lt_of_le_of_lt (first-top p x r l) w

      below : held_at x.slots r < issue r + 1
      below =
          ltb-true (held_at x.slots r) (issue r + 1)
          (and_right x.rising (ltb (held_at x.slots r) (issue r + 1)) (unfold keep_step in (still (p + length r) (keep_step d x p r) l e)))

      here : held_issue d (p + 1) ≡ issue r + 1
      here =
          held-there d r p (omega (arith, g.1, size-ge (mark r))) (omega (arith, ends front r (joined l), ap length whole))
          (rw (← whole) (at_place front r (joined l)))

      mine : Under (keep_step d x p r).slots r
      mine =
          unfold keep_step put in
          (rw (
            get_or-set_same x.slots j (newer (held_at x.slots r) (issue r + 1) (get_or x.slots j 0) (p + 1)) 0 j-lt,
            le-leb (held_at x.slots r) (issue r + 1) (omega (arith, below)),
            here,
          ) (le_refl (issue r + 1)))

      more : (s : List ℕ) → Under x.slots s → Under (keep_step d x p r).slots s
      more s h = unfold keep_step put in (omega (arith, h, grows d x.slots j (slot (kind s) (key_of s)) p j-lt here))

pub rising-twins : (d ix : List ℕ) → scan 0 (records d) ≡ Accepted → (folded (keep_step d) 0 (kept ix true 0 false) (records d)).top < length ix
    → (folded (keep_step d) 0 (kept ix true 0 false) (records d)).rising ≡ true → twins 0 [] (records d) ≡ Accepted
rising-twins d ix s w e = rising-from d [] (kept ix true 0 false) [] (joined-records d) (good-records d s) done w e

pub folded-length : (d : List ℕ) (p : ℕ) (x : Kept) (l : List (List ℕ)) → length (folded (keep_step d) p x l).slots ≡ length x.slots
unfolding folded
folded-length d p x [] = refl
folded-length d p x (r ∷ l) = folded-length d (p + length r) (keep_step d x p r) l ∙ kept-length d x p r
