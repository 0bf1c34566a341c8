-- A loop over the records of a dossier without faults, from place to place: one law for every such loop. What is sought of the whole dossier
-- is a function `f` of a state, a place and the records from there on. A turn keeps that `f`, at the loop's state and place, is what is sought;
-- so the loop may answer as soon as `f` is told, or take the record at hand and go on. `P` is what is known of every record besides.
use mathlib.Core.Path.{◌≡◌, refl, ap, sym, ◌∙◌}
use mathlib.Core.List.{List, [], ◌∷◌}
use Prim.Native.Nat.{ℕ, ◌+◌, ◌-◌, ◌≤◌, ◌<◌}
use native.Mathlib.Omega.{arith}
use lib.ListN.{length, take, drop, length-take, length-drop, drop_of_length-le}
use lib.Seq.{drop-drop, take_all}
use borrow.Author.Tests.{eq-eqb}
use Rattle.lists.specs.Lists.{Each, also}
use Rattle.records.specs.Record.{mark, size, fault}
use Rattle.records.specs.Dossier.{first_of, rest_of, records_in, records}
use Rattle.records.specs.Walk.{Record, found}
use Rattle.records.proofs.Dossier.{first-mark, first-length, records-step}
use Rattle.records.proofs.Record.{size-ge}

-- the bytes that code reads of a dossier from a place on are all that is left
pub tail : (d : List ℕ) (p : ℕ) → take (length d - p) (drop p d) ≡ drop p d
tail d p = take_all (length d - p) (drop p d) (simp length-drop (omega arith))

-- at place p and state a: each record from there on is as known, and the rest gives what the whole gives from state a₀
pub record Over {A B : Type 0} (P : List ℕ → Type 0) (f : A → ℕ → List (List ℕ) → B) (a₀ : A) (d : List ℕ) (p : ℕ) (a : A) : Type 0 where
  pub known : Each P (records (drop p d))
  pub rest : f a p (records (drop p d)) ≡ f a₀ 0 (records d)

-- of the first and of the others
both : {P : List ℕ → Type 0} {r : List ℕ} {l : List (List ℕ)} → Each P (r ∷ l) → P r × Each P l
both (also h e) = (h, e)

module _ {A B : Type 0} {P : List ℕ → Type 0} {f : A → ℕ → List (List ℕ) → B} {a₀ : A} {d : List ℕ} where
  pub begins : Each P (records d) → Over P f a₀ d 0 a₀
  begins e = record { known = e; rest = refl }

  pub ends : {p : ℕ} {a : A} → length d ≤ p → Over P f a₀ d p a → f a p [] ≡ f a₀ 0 (records d)
  unfolding records records_in
  ends {p = p} h o = rw (drop_of_length-le d {i = p} h) at o.rest

  -- inside the dossier, where what is known of a record says that it has no fault; code has its length n by its mark
  module _ (sane : (r : List ℕ) → P r → fault r ≡ 0) {p : ℕ} {a : A} (h : p < length d) (o : Over P f a₀ d p a) {n : ℕ}
      (en : n ≡ size (mark (take (length d - p) (drop p d)))) where
    its-size : n ≡ size (mark (drop p d))
    its-size = en ∙ ap (λ (s : List ℕ). size (mark s)) (tail d p)

    -- the record there, and those behind it
    parts : records (drop p d) ≡ take n (drop p d) ∷ records (drop (p + n) d)
    unfolding first_of rest_of
    parts = rw (its-size, ← drop-drop (size (mark (drop p d))) p d) (records-step (drop p d) (simp length-drop (omega arith)))

    each : P (take n (drop p d)) × Each P (records (drop (p + n) d))
    each = both (rw parts at o.known)

    pub its-known : P (take n (drop p d))
    its-known = each.0

    pub its-fault : fault (take n (drop p d)) ≡ 0
    its-fault = sane _ its-known

    pub its-mark : mark (take n (drop p d)) ≡ mark (drop p d)
    unfolding first_of
    its-mark = rw its-size (first-mark (drop p d))

    pub its-length : length (take n (drop p d)) ≡ n
    unfolding first_of
    its-length = rw its-size (first-length (drop p d) (rw its-size at its-fault))

    pub within : (1 ≤ n) × (n ≤ length d - p)
    within = (omega (arith, its-size, size-ge (mark (drop p d))), omega (arith, its-length, length-take n (drop p d), length-drop p d))

    -- a dossier without faults needs no second reading: the mark tells the record
    pub its-found : found (drop p d) ≡ Record (mark (drop p d)) n
    unfolding found first_of
    its-found = rw (its-size, eq-eqb (fault (first_of (drop p d))) 0 (rw its-size at its-fault)) refl

    -- with the record at hand `f` is told, whatever follows
    pub answers : {x : B} → f a p (take n (drop p d) ∷ records (drop (p + n) d)) ≡ x → x ≡ f a₀ 0 (records d)
    answers e = sym e ∙ ap (f a p) (sym parts) ∙ o.rest

    -- or it is what it is of those that follow, from another state
    pub goes_on : {b : A} → f a p (take n (drop p d) ∷ records (drop (p + n) d)) ≡ f b (p + n) (records (drop (p + n) d)) → Over P f a₀ d (p + n) b
    goes_on e = record { known = each.1; rest = answers e }
