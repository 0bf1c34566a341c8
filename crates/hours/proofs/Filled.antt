-- What the slots hold, emptied and filled again with what has come by an hour: the current ones of those.
use mathlib.Core.Path.{◌≡◌, refl, ap, sym, ◌∙◌}
use mathlib.Core.Bool.{Bool, true, false, cond, ◌&&◌, true≢false}
use mathlib.Core.List.{List, [], ◌∷◌, ◌++◌, append_assoc}
use Prim.Native.Nat.{ℕ, ◌+◌, ◌<◌}
use native.Mathlib.Omega.{arith}
use lib.Dec.{leb}
use lib.ListN.{length, get_or, length-append}
use lib.Seq.{get_or-set_other}
use Rattle.lists.specs.Lists.{Each, done, also, joined, those}
use Rattle.lists.proofs.Tests.{split}
use Rattle.records.specs.Record.{kind, datable, since, issue, key_of}
use Rattle.records.specs.Dossier.{records}
use Rattle.records.specs.Walk.{folded}
use Rattle.records.specs.MarkShapes.{key_test}
use Rattle.records.specs.Table.{kinds}
use Rattle.records.proofs.Dossier.{joined-records}
use Rattle.station.specs.Current.{matches, better, current_from, current}
use Rattle.station.specs.InForce.{come}
use Rattle.station.proofs.Current.{matches-kind}
use Rattle.station.proofs.InForce.{come-always}
use Rattle.index.specs.Slots.{slot, put}
use Rattle.index.specs.Holding.{held_record, IndexOf}
use Rattle.index.proofs.KeyBounds.{InKey, in-key, test-key}
use Rattle.index.proofs.Holds.{Holds, absent, Good, put-length, later-holds, put_holds, good-records}
use Rattle.index.proofs.Holding.{held-is, held_none}
use Rattle.hours.specs.Filling.{cleared, hour_step, filled_at}
use Rattle.hours.proofs.Emptied.{first_dated, many_dated, dated-slot, other-slot, cleared-length, cleared-in, cleared-out}

module _ (h : ℕ) (d : List ℕ) where
  step-length : (ix : List ℕ) (p : ℕ) (r : List ℕ) → length (hour_step h d ix p r) ≡ length ix
  unfolding hour_step
  step-length ix p r = go (datable (kind r) && leb (since r) h)
    where
      go : (b : Bool) → length (cond b (put d ix p r) ix) ≡ length ix
      go true = put-length d ix p r
      go false = refl

  fold-length : (p : ℕ) (ix : List ℕ) (l : List (List ℕ)) → length (folded (hour_step h d) p ix l) ≡ length ix
  unfolding folded
  fold-length p ix [] = refl
  fold-length p ix (r ∷ l) = fold-length (p + length r) (hour_step h d ix p r) l ∙ step-length ix p r

  -- ---- the slots of a kind that has no first hours stay as they were

  module _ (k n : ℕ) (i : InKey k n) (o : datable k ≡ false) where
    other_step : (ix : List ℕ) (p : ℕ) (r : List ℕ) → Good r → get_or (hour_step h d ix p r) (slot k n) 0 ≡ get_or ix (slot k n) 0
    unfolding hour_step put
    other_step ix p r g = go (datable (kind r)) refl (leb (since r) h)
      where
        apart : datable (kind r) ≡ true → slot k n ≡ slot (kind r) (key_of r) → ⊥
        apart e w = let z = dated-slot (kind r) (key_of r) (in-key r g.0) e in other-slot k n i o (omega (arith, w, z)) (omega (arith, w, z))

        go : (a : Bool) → datable (kind r) ≡ a → (b : Bool) → get_or (cond (a && b) (put d ix p r) ix) (slot k n) 0 ≡ get_or ix (slot k n) 0
        go true e true = get_or-set_other ix (slot (kind r) (key_of r)) (slot k n) _ 0 (apart e)
        go true e false = refl
        go false e b = refl

    other_from : (p : ℕ) (ix : List ℕ) {l : List (List ℕ)} → Each Good l → get_or (folded (hour_step h d) p ix l) (slot k n) 0 ≡ get_or ix (slot k n) 0
    unfolding folded
    other_from p ix done = refl
    other_from p ix (also {a = r} g e) = other_from (p + length r) (hour_step h d ix p r) e ∙ other_step ix p r g

  -- ---- those of any other kind hold what counts at the hour, from what they held before

  module _ (k n : ℕ) (i : InKey k n) (o : datable k ≡ true) (w : ℕ) (fit : slot k n < w) where
    -- a slot's value holds a record before some place
    abbrev Held : ℕ → List ℕ → Type 0
    Held v c = (p q : ℕ) × Holds k d p v c q

    -- a record that may have no first hour is of another kind
    no-match : (c r : List ℕ) → datable (kind r) ≡ false → better k n c r ≡ c
    unfolding better
    no-match c r e = go (matches k n r) refl
      where
        go : (m : Bool) → matches k n r ≡ m → cond (m && leb (issue c) (issue r)) r c ≡ c
        go true f = absurd (true≢false (sym o ∙ ap datable (sym (matches-kind k n r f)) ∙ e))
        go false f = refl

    -- the best record so far, after the next one
    abbrev after : List ℕ → List ℕ → List ℕ
    after c r = cond (leb (since r) h) (better k n c r) c

    step-holds : (front r rest ix c : List ℕ) (q : ℕ) → front ++ (r ++ rest) ≡ d → length ix ≡ w → Good r
        → Holds k d (length front) (get_or ix (slot k n) 0) c q
        → (x : ℕ) × Holds k d (length front + length r) (get_or (hour_step h d ix (length front) r) (slot k n) 0) (after c r) x
    unfolding hour_step
    step-holds front r rest ix c q whole len g old = go (datable (kind r)) refl (leb (since r) h)
      where
        stays : Holds k d (length front + length r) (get_or ix (slot k n) 0) c q
        stays = later-holds (length r) old

        go : (a : Bool) → datable (kind r) ≡ a → (b : Bool)
            → (x : ℕ) × Holds k d (length front + length r) (get_or (cond (a && b) (put d ix (length front) r) ix) (slot k n) 0) (cond b (better k n c r) c) x
        go true e true = (_, put_holds d k n i w fit front r rest ix c q whole len g old)
        go true e false = (q, stays)
        go false e true = (q, rw (no-match c r e) stays)
        go false e false = (q, stays)

    come-step : (c r : List ℕ) (l : List (List ℕ)) → current_from k n c (come h (r ∷ l)) ≡ current_from k n (after c r) (come h l)
    unfolding come those current_from
    come-step c r l = go (leb (since r) h)
      where
        go : (b : Bool) → current_from k n c (cond b (r ∷ come h l) (come h l)) ≡ current_from k n (cond b (better k n c r) c) (come h l)
        go true = refl
        go false = refl

    dated-from : (front ix c : List ℕ) (q : ℕ) {l : List (List ℕ)} → front ++ joined l ≡ d → length ix ≡ w → Each Good l
        → Holds k d (length front) (get_or ix (slot k n) 0) c q
        → Held (get_or (folded (hour_step h d) (length front) ix l) (slot k n) 0) (current_from k n c (come h l))
    unfolding folded joined
    dated-from front ix c q whole len done old = (length front, q, unfold come those current_from in old)
    dated-from front ix c q whole len (also {a = r} {l = l} g e) old =
        let b : length (front ++ r) ≡ length front + length r = length-append front r in
        let z = step-holds front r (joined l) ix c q whole len g old in
        let y = dated-from (front ++ r) (hour_step h d ix (length front) r) (after c r) z.0 (append_assoc front r (joined l) ∙ whole)
        (step-length ix (length front) r ∙ len) e (rw b z.1) in
        rw (come-step c r l) (rw b at y)

-- ---- the index of an hour

module _ (h : ℕ) (d ix : List ℕ) (all : IndexOf (records d) d ix) where
  -- with the slots of kinds that may have first hours emptied
  abbrev emptied : List ℕ
  emptied = cleared ix first_dated many_dated

  -- and filled again
  abbrev made : List ℕ
  made = filled_at h d emptied

  abbrev at : ℕ → ℕ → ℕ
  at k n = get_or made (slot k n) 0

  good : Each Good (records d)
  good = good-records d all.clean

  long : length made ≡ length ix
  unfolding filled_at
  long = fold-length h d 0 emptied (records d) ∙ cleared-length ix first_dated many_dated

  dated-held : (k n : ℕ) → InKey k n → datable k ≡ true → slot k n < length ix → (p q : ℕ) × Holds k d p (at k n) (current k n (come h (records d))) q
  unfolding filled_at current
  dated-held k n i o c =
      let z = dated-slot k n i o in
      dated-from h d k n i o (length ix) c [] emptied [] 0 (joined-records d) (cleared-length ix first_dated many_dated) good
      (absent (cleared-in ix first_dated many_dated (slot k n) c z.0 z.1) refl refl)

  other-same : (k n : ℕ) → InKey k n → datable k ≡ false → at k n ≡ get_or ix (slot k n) 0
  unfolding filled_at
  other-same k n i o = other_from h d k n i o 0 emptied good ∙ cleared-out ix first_dated many_dated (slot k n) (other-slot k n i o)

  hour-index : IndexOf (come h (records d)) d made
  hour-index =
      record {
        roomy = omega (arith, long, all.roomy);
        short = all.short;
        clean = all.clean;
        holds = holds_at;
        none = none-at;
      }
    where
      holds_at : (k n : ℕ) → k < kinds → key_test k n ≡ true → slot k n < length made → held_record d (at k n) ≡ current k n (come h (records d))
      holds_at k n a b c =
          split (datable k)
          (λ o. held-is d _ (dated-held k n (test-key k n a b) o (rw long at c)).2)
          (λ o. ap (held_record d) (other-same k n (test-key k n a b) o) ∙ all.holds k n a b (rw long at c) ∙ sym (come-always h k n o (records d)))

      none-at : (k n : ℕ) → k < kinds → key_test k n ≡ true → slot k n < length made → current k n (come h (records d)) ≡ [] → at k n ≡ 0
      none-at k n a b c e =
          split (datable k)
          (λ o. held_none d _ (dated-held k n (test-key k n a b) o (rw long at c)).2 e)
          (λ o. other-same k n (test-key k n a b) o ∙ all.none k n a b (rw long at c) (sym (come-always h k n o (records d)) ∙ e))

  -- as code makes it
  pub made-index : {x y : List ℕ} → x ≡ emptied → y ≡ filled_at h d x → IndexOf (come h (records d)) d y
  made-index ex ey = rw (ey, ex) hour-index
