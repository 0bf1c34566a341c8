-- Laws of the walk: over the bytes it is the fold over the list of records, and how a loop keeps it.
use mathlib.Core.Path.{◌≡◌, refl, ap, sym, ◌∙◌}
use mathlib.Core.Bool.{Bool, true, false, cond}
use mathlib.Core.List.{List, [], ◌∷◌}
use Prim.Native.Nat.{ℕ, zero, suc, ◌+◌, ◌≤◌, ◌<◌}
use native.Mathlib.Omega.{arith}
use lib.Dec.{eqb}
use lib.ListN.{length, take, drop, length-take, length-drop}
use lib.Seq.{drop-drop}
use borrow.Author.Tests.{eqb-true, eqb-false, eq-eqb, ne_eqb}
use Rattle.std.specs.Prelude.{Ok, Err}
use Rattle.records.specs.Record.{mark, size, fault}
use Rattle.records.specs.Answers.{Accepted, Answer, or_else, drawn, Refused}
use Rattle.records.specs.Dossier.{first_of, rest_of, records_in, records, first_drawn, scan}
use Rattle.records.specs.Walk.{Record, Faulty, found, Step, Walked, ended, stopped, folded, walk_from, walk, Rest}
use Rattle.records.proofs.Answers.{or_else-assoc, or_else-none}
use Rattle.records.proofs.Dossier.{first-length}
use Rattle.records.proofs.Record.{size-ge}

-- ---- what is found

-- a record that it finds is not empty, and within the rest
pub found-record : (s : List ℕ) (k n : ℕ) → found s ≡ Record k n → (k ≡ mark s) × (n ≡ size (mark s)) × (fault (first_of s) ≡ 0)
unfolding found
found-record s k n = go (eqb (fault (first_of s)) 0) refl
  where
    go : (b : Bool) → eqb (fault (first_of s)) 0 ≡ b → cond b (Record (mark s) (size (mark s))) (Faulty (fault (first_of s))) ≡ Record k n → (k ≡ mark s)
        × (n ≡ size (mark s)) × (fault (first_of s) ≡ 0)
    go true e h = (
      sym (ap (λ x. elim x [ Record i j ↦ i | Faulty m ↦ k ]) h),
      sym (ap (λ x. elim x [ Record i j ↦ j | Faulty m ↦ n ]) h),
      eqb-true (fault (first_of s)) 0 e,
    )
    go false e h = absurd (let z : ◌≡◌ {A = ℕ} 0 1 = ap (λ x. elim x [ Record i j ↦ 1 | Faulty m ↦ 0 ]) h in omega arith)

pub found_within : (s : List ℕ) (k n : ℕ) → found s ≡ Record k n → (1 ≤ n) × (n ≤ length s)
unfolding first_of
found_within s k n h =
    let z = found-record s k n h in
    (omega (arith, z.1, size-ge (mark s)), omega (arith, z.1, first-length s z.2, length-take (size (mark s)) s))

pub found-fault : (s : List ℕ) (m : ℕ) → found s ≡ Faulty m → (m ≡ fault (first_of s)) × (fault (first_of s) ≡ 0 → ⊥)
unfolding found
found-fault s m = go (eqb (fault (first_of s)) 0) refl
  where
    go : (b : Bool) → eqb (fault (first_of s)) 0 ≡ b → cond b (Record (mark s) (size (mark s))) (Faulty (fault (first_of s))) ≡ Faulty m
        → (m ≡ fault (first_of s)) × (fault (first_of s) ≡ 0 → ⊥)
    go true e h = absurd (let z : ◌≡◌ {A = ℕ} 1 0 = ap (λ x. elim x [ Record i j ↦ 1 | Faulty i ↦ 0 ]) h in omega arith)
    go false e h = (sym (ap (λ x. elim x [ Record i j ↦ m | Faulty i ↦ i ]) h), eqb-false (fault (first_of s)) 0 e)

-- ---- the fold

-- a loop that keeps the first answer that refuses
pub first-fold : (test : ℕ → List ℕ → Answer) (p : ℕ) (a : Answer) (l : List (List ℕ))
    → folded (λ b q r. or_else b (test q r)) p a l ≡ or_else a (first_drawn test p l)
unfolding folded first_drawn
first-fold test p a [] = sym (or_else-none a)
first-fold test p a (r ∷ l) = first-fold test (p + length r) (or_else a (test p r)) l ∙ or_else-assoc a (test p r) (first_drawn test (p + length r) l)

-- ---- the walk over the bytes is the fold over the records, where the scan is clean; else it stops where the scan does

unfoldable pub outcome : {A : Type 0} → Answer → A → Walked A
outcome (Ok x) a = ended a
outcome (Err r) a = stopped r.number r.place

module _ {A : Type 0} (step : Step A) where
  walk-in : (f p : ℕ) (a : A) (s : List ℕ) → walk_from step f p a s ≡ outcome (scan p (records_in f s)) (folded step p a (records_in f s))
  unfolding walk_from records_in scan first_drawn folded outcome or_else drawn
  walk-in zero p a s = refl
  walk-in (suc f) p a [] = refl
  walk-in (suc f) p a (b ∷ s) =
      go (eqb (fault (first_of x)) 0) refl (walk-in f (p + size (mark x)) (step a p (first_of x)) (rest_of x))
    where
      x : List ℕ
      x = b ∷ s

      go : (t : Bool) → eqb (fault (first_of x)) 0 ≡ t
          → walk_from step f (p + size (mark x)) (step a p (first_of x)) (rest_of x) ≡ outcome (scan (p + size (mark x)) (records_in f (rest_of x)))
          (folded step (p + size (mark x)) (step a p (first_of x)) (records_in f (rest_of x)))
          → cond t (walk_from step f (p + size (mark x)) (step a p (first_of x)) (rest_of x)) (stopped (fault (first_of x)) p)
          ≡ outcome (or_else (cond t Accepted (Refused (fault (first_of x)) p)) (scan (p + length (first_of x)) (records_in f (rest_of x))))
          (folded step (p + length (first_of x)) (step a p (first_of x)) (records_in f (rest_of x)))
      go true e i = rw (first-length x (eqb-true (fault (first_of x)) 0 e)) i
      go false e i = refl

  pub walk-is-fold : (a : A) (d : List ℕ) → walk step a d ≡ outcome (scan 0 (records d)) (folded step 0 a (records d))
  unfolding walk records
  walk-is-fold a d = walk-in (length d) 0 a d

  one : (f p : ℕ) (a : A) (s : List ℕ) → 0 < length s → fault (first_of s) ≡ 0
      → walk_from step (suc f) p a s ≡ walk_from step f (p + size (mark s)) (step a p (first_of s)) (rest_of s)
  unfolding walk_from
  one f p a [] h e = absurd (omega arith)
  one f p a (b ∷ s) h e = rw (eq-eqb (fault (first_of (b ∷ s))) 0 e) refl

  none_left : (f p : ℕ) (a : A) (s : List ℕ) → length s ≡ 0 → walk_from step f p a s ≡ ended a
  unfolding walk_from
  none_left zero p a s h = refl
  none_left (suc f) p a [] h = refl
  none_left (suc f) p a (b ∷ s) h = absurd (omega arith)

  halt : (f p : ℕ) (a : A) (s : List ℕ) → 0 < length s → (fault (first_of s) ≡ 0 → ⊥) → walk_from step (suc f) p a s ≡ stopped (fault (first_of s)) p
  unfolding walk_from
  halt f p a [] h e = absurd (omega arith)
  halt f p a (b ∷ s) h e = rw (ne_eqb (fault (first_of (b ∷ s))) 0 e) refl

  module _ (a₀ : A) (d : List ℕ) where
    pub start : Rest step a₀ d 0 a₀
    unfolding walk
    start = (length d, omega arith, refl)

    left : (p : ℕ) → p < length d → 0 < length (drop p d)
    left p h = simp length-drop (omega arith)

    pub next : (p : ℕ) (a : A) (k n : ℕ) → p < length d → Rest step a₀ d p a → found (drop p d) ≡ Record k n
        → Rest step a₀ d (p + n) (step a p (take n (drop p d)))
    unfolding first_of rest_of
    next p a k n h (zero, b, e) r = absurd (omega arith)
    next p a k n h (suc f, b, e) r =
        let z = found-record (drop p d) k n r in
        let w = found_within (drop p d) k n r in
        rw z.1 (
          f,
          omega (arith, w.0, z.1),
          ap (walk_from step f (p + size (mark (drop p d))) (step a p (first_of (drop p d))))
              (sym (drop-drop (size (mark (drop p d))) p d)) ∙ sym (one f p a (drop p d) (left p h) z.2) ∙ e,
        )

    pub stop : (p : ℕ) (a : A) (m : ℕ) → p < length d → Rest step a₀ d p a → found (drop p d) ≡ Faulty m → walk step a₀ d ≡ stopped m p
    stop p a m h (zero, b, e) r = absurd (omega arith)
    stop p a m h (suc f, b, e) r =
        let z = found-fault (drop p d) m r in
        sym e ∙ halt f p a (drop p d) (left p h) z.1 ∙ ap (λ (x : ℕ). stopped x p) (sym z.0)

    pub end : (p : ℕ) (a : A) → length d ≤ p → Rest step a₀ d p a → walk step a₀ d ≡ ended a
    end p a h (f, b, e) = sym e ∙ none_left f p a (drop p d) (simp length-drop (omega arith))
