-- A list of the week: cleared, with one interval put, and whole.
use mathlib.Core.Path.{◌≡◌, refl, ap, sym, subst, ◌∙◌}
use mathlib.Core.Bool.{Bool, true, false, cond}
use mathlib.Core.List.{List, ◌++◌}
use Prim.Native.Nat.{ℕ, suc, ◌+◌, ◌-◌, ◌≤◌, ◌<◌}
use native.Mathlib.Decide.{ℕ_discrete, dec_lt}
use native.Mathlib.Omega.{arith}
use lib.Dec.{ltb}
use lib.ListN.{length, get_or, set, take, drop, replicate, length-append, length-drop, length-set, length-replicate, get_or-append, get_or-replicate}
use lib.Seq.{length-take-le, ext_get_or, get_or-append-add, get_or-drop, get_or-set_same, get_or-set_other}
use borrow.Author.Tests.{lt-ltb, le-ltb, ltb-true}
use Rattle.lists.specs.Sums.{up_to}
use Rattle.station.specs.Week.{intervals}
use Rattle.lists.proofs.Sums.{up_to-length, up_to-at}
use Rattle.week.specs.Filled.{Stands}

module _ {A : Type 0} (none : A) (before : List A) where
  -- ---- cleared

  -- the places of the first i intervals, filled by as many of `none`, l
  pub cleared : (i : ℕ) {l : List A} → i ≡ intervals → i ≤ length before → l ≡ replicate (length (take i before)) none
      → Stands none (λ n. none) before (l ++ drop i before)
  cleared i e h f =
      let n : length (take i before) ≡ i = length-take-le i before h in
      rw (f, n)
      (record {
        long = length-append (replicate i none) (drop i before) ∙ rw (length-replicate i none, length-drop i before) (omega arith);
        places = λ k. subst (λ (j : ℕ). get_or (replicate i none ++ drop i before) k none ≡ cond (ltb k j) none (get_or before k none)) e (go k (dec_lt k i));
      })
    where
      go : (k : ℕ) → Dec (k < i) → get_or (replicate i none ++ drop i before) k none ≡ cond (ltb k i) none (get_or before k none)
      go k (yes p) =
          get_or-append (replicate i none) (drop i before) none k (rw (length-replicate i none) p)
          ∙ get_or-replicate i k none none p ∙ rw (lt-ltb k i p) refl
      go k (no p) =
          let e : k ≡ length (replicate i none) + (k - i) = rw (length-replicate i none) (omega arith) in
          ap (λ (j : ℕ). get_or (replicate i none ++ drop i before) j none) e
          ∙ get_or-append-add (replicate i none) (drop i before) (k - i) none
          ∙ get_or-drop i before (k - i) none
          ∙ rw (le-ltb k i (omega arith)) (ap (λ (j : ℕ). get_or before j none) (omega arith))

  -- ---- interval by interval

  module _ {f : ℕ → A} {l : List A} (s : Stands none f before l) where
    -- the same by another name
    pub stands_same : (g : ℕ → A) → ((n : ℕ) → 1 ≤ n → n ≤ intervals → f n ≡ g n) → Stands none g before l
    stands_same g h = record { long = s.long; places = λ i. s.places i ∙ go i (ltb i intervals) refl }
      where
        go : (i : ℕ) (b : Bool) → ltb i intervals ≡ b → cond b (f (suc i)) (get_or before i none) ≡ cond b (g (suc i)) (get_or before i none)
        go i true e = h (suc i) (omega arith) (omega (arith, ltb-true i intervals e))
        go i false e = refl

    -- interval n put, all others the same
    pub stands_set : (g : ℕ → A) (n : ℕ) (x : A) → intervals ≤ length before → 1 ≤ n → n ≤ intervals
        → ((m : ℕ) → 1 ≤ m → m ≤ intervals → (m ≡ n → ⊥) → f m ≡ g m) → x ≡ g n → Stands none g before (set l (n - 1) x)
    stands_set g n x room a b h e = record { long = length-set l (n - 1) x ∙ s.long; places = λ i. go i (ℕ_discrete i (n - 1)) }
      where
        back : suc (n - 1) ≡ n
        back = omega arith

        other : (i : ℕ) → (i ≡ n - 1 → ⊥) → (t : Bool) → ltb i intervals ≡ t
            → cond t (f (suc i)) (get_or before i none) ≡ cond t (g (suc i)) (get_or before i none)
        other i z true q = h (suc i) (omega arith) (omega (arith, ltb-true i intervals q)) (λ w. z (omega arith))
        other i z false q = refl

        go : (i : ℕ) → Dec (i ≡ n - 1) → get_or (set l (n - 1) x) i none ≡ cond (ltb i intervals) (g (suc i)) (get_or before i none)
        go i (yes z) =
            rw (z, get_or-set_same l (n - 1) x none (omega (arith, s.long)), lt-ltb (n - 1) intervals (omega arith), back) e
        go i (no z) = get_or-set_other l (n - 1) i x none z ∙ s.places i ∙ other i z (ltb i intervals) refl

    -- the list is the week's numbers and what is past them
    pub stands-whole : intervals ≤ length before → l ≡ up_to intervals f ++ drop intervals before
    stands-whole room =
        ext_get_or none l (up_to intervals f ++ drop intervals before)
        (s.long ∙ sym (length-append (up_to intervals f) (drop intervals before) ∙ rw (up_to-length f intervals, length-drop intervals before) (omega arith)))
        (λ i z. s.places i ∙ sym (go i (dec_lt i intervals)))
      where
        go : (i : ℕ) → Dec (i < intervals) → get_or (up_to intervals f ++ drop intervals before) i none
            ≡ cond (ltb i intervals) (f (suc i)) (get_or before i none)
        go i (yes p) =
            get_or-append (up_to intervals f) (drop intervals before) none i (rw (up_to-length f intervals) p)
            ∙ up_to-at f intervals i none p ∙ rw (lt-ltb i intervals p) refl
        go i (no p) =
            let e : i ≡ length (up_to intervals f) + (i - intervals) = rw (up_to-length f intervals) (omega arith) in
            ap (λ (j : ℕ). get_or (up_to intervals f ++ drop intervals before) j none) e
            ∙ get_or-append-add (up_to intervals f) (drop intervals before) (i - intervals) none
            ∙ get_or-drop intervals before (i - intervals) none
            ∙ rw (le-ltb i intervals (omega arith)) (ap (λ (j : ℕ). get_or before j none) (omega arith))
