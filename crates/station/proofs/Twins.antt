-- No twins: every record apart from every other; and then the order of the records says nothing.
use mathlib.Core.Path.{◌≡◌, refl, ap, sym, ◌∙◌}
use mathlib.Core.Bool.{Bool, true, false, cond, ◌&&◌, false≢true}
use mathlib.Core.List.{List, [], ◌∷◌}
use Prim.Native.Nat.{ℕ, ◌+◌}
use native.Mathlib.Omega.{arith}
use lib.Dec.{leb, eqb}
use lib.ListN.{length}
use borrow.Author.Tests.{leb-true, leb-false, eqb-true, eqb-false, eq-eqb, ne_eqb}
use Rattle.lists.specs.Lists.{Each, done, also, Pairwise, none, more, Permutation, empty, keep, swap, then, those}
use Rattle.lists.proofs.Lists.{each-permuted, each_of, those-each}
use Rattle.lists.proofs.Tests.{or-false-left, or-false-right}
use Rattle.records.specs.Record.{kind, issue, key_of}
use Rattle.records.specs.Answers.{Accepted, refuse_if}
use Rattle.records.specs.Raise.{Raised}
use Rattle.records.proofs.Answers.{or_else-parts, parts-or_else, not-refuse_if, refuse_if-not}
use Rattle.records.proofs.Raise.{raised-kind, raised-issue, raised-key}
use Rattle.station.specs.Current.{matches, better, current_from, current, twin, any_twin, twins}
use Rattle.station.specs.Declared.{Apart, Distinct}
use Rattle.station.proofs.Current.{matches-kind, matches-key}

eqb-sym : (a b : ℕ) → eqb a b ≡ eqb b a
eqb-sym a b = go (eqb a b) refl
  where
    go : (t : Bool) → eqb a b ≡ t → t ≡ eqb b a
    go true e = sym (eq-eqb b a (sym (eqb-true a b e)))
    go false e = sym (ne_eqb b a (λ h. eqb-false a b e (sym h)))

twin-sym : (r s : List ℕ) → twin r s ≡ twin s r
unfolding twin
twin-sym r s = rw (eqb-sym (kind r) (kind s), eqb-sym (key_of r) (key_of s), eqb-sym (issue r) (issue s)) refl

-- ---- 4 is not drawn exactly if the records are distinct

free : (r : List ℕ) (seen : List (List ℕ)) {l : List (List ℕ)} → Each (λ s. any_twin s (r ∷ seen) ≡ false) l → Apart r l × Each (λ s. any_twin s seen ≡ false) l
unfolding any_twin
free r seen done = (done, done)
free r seen (also {a = s} h e) =
    let z = free r seen e in
    (also (twin-sym r s ∙ or-false-left (twin s r) (any_twin s seen) h) z.0, also (or-false-right (twin s r) (any_twin s seen) h) z.1)

taken : (r : List ℕ) (seen : List (List ℕ)) {l : List (List ℕ)} → Apart r l → Each (λ s. any_twin s seen ≡ false) l
    → Each (λ s. any_twin s (r ∷ seen) ≡ false) l
unfolding any_twin
taken r seen done done = done
taken r seen (also {a = s} p a) (also h e) = also {a = s} (rw (twin-sym s r, p) h) (taken r seen a e)

twins-free : (p : ℕ) (seen l : List (List ℕ)) → twins p seen l ≡ Accepted → Distinct l × Each (λ s. any_twin s seen ≡ false) l
unfolding twins
twins-free p seen [] h = (tt, done)
twins-free p seen (r ∷ l) h =
    let z = or_else-parts (refuse_if (any_twin r seen) 4 p) (twins (p + length r) (r ∷ seen) l) h in
    let y = twins-free (p + length r) (r ∷ seen) l z.1 in
    let x = free r seen y.1 in
    ((x.0, y.0), also (not-refuse_if (any_twin r seen) 4 p z.0) x.1)

pub twins-distinct : (p : ℕ) (l : List (List ℕ)) → twins p [] l ≡ Accepted → Distinct l
twins-distinct p l h = (twins-free p [] l h).0

free-twins : (p : ℕ) (seen l : List (List ℕ)) → Distinct l → Each (λ s. any_twin s seen ≡ false) l → twins p seen l ≡ Accepted
unfolding twins
free-twins p seen [] d e = refl
free-twins p seen (r ∷ l) d (also h e) =
    parts-or_else (refuse_if (any_twin r seen) 4 p) (twins (p + length r) (r ∷ seen) l)
    (refuse_if-not (any_twin r seen) 4 p h)
    (free-twins (p + length r) (r ∷ seen) l d.1 (taken r seen d.0 e))

pub distinct-twins : (p : ℕ) (l : List (List ℕ)) → Distinct l → twins p [] l ≡ Accepted
unfolding any_twin
distinct-twins p l d = free-twins p [] l d (each_of l (λ s. refl))

-- ---- in another order

swapped : {a b : List ℕ} {l : List (List ℕ)} → Apart a (b ∷ l) → Apart b l → Distinct l → Distinct (b ∷ a ∷ l)
swapped {a} {b} (also p q) r d = (also (twin-sym b a ∙ p) r, (q, d))

pub distinct-permuted : {l m : List (List ℕ)} → Permutation l m → Distinct l → Distinct m
distinct-permuted empty d = d
distinct-permuted (keep a p) d = (each-permuted p d.0, distinct-permuted p d.1)
distinct-permuted (swap a b l) d = swapped d.0 d.1.0 d.1.1
distinct-permuted (then p q) d = distinct-permuted q (distinct-permuted p d)

-- some of them are distinct too
pub distinct-those : (f : List ℕ → Bool) (l : List (List ℕ)) → Distinct l → Distinct (those f l)
unfolding those
distinct-those f [] d = d
distinct-those f (r ∷ l) d = go (f r) (distinct-those f l d.1)
  where
    go : (b : Bool) → Distinct (those f l) → Distinct (cond b (r ∷ those f l) (those f l))
    go true e = (those-each f d.0, e)
    go false e = e

-- of two that are no twins the better one does not depend on the order
better-swap : (k n : ℕ) (b x y : List ℕ) → twin x y ≡ false → better k n (better k n b x) y ≡ better k n (better k n b y) x
unfolding better twin
better-swap k n b x y t = go (matches k n x) refl (matches k n y) refl
  where
    other : matches k n x ≡ true → matches k n y ≡ true → issue x ≡ issue y → ⊥
    other p q e =
        false≢true
        (sym t
        ∙ rw (
          matches-kind k n x p,
          matches-kind k n y q,
          matches-key k n x p,
          matches-key k n y q,
          e,
          eq-eqb k k refl,
          eq-eqb n n refl,
          eq-eqb (issue y)
              (issue y) refl,
        ) refl)

    both : (issue x ≡ issue y → ⊥) → (p q u v : Bool) → leb (issue b) (issue x) ≡ p → leb (issue b) (issue y) ≡ q → leb (issue x) (issue y) ≡ u
        → leb (issue y) (issue x) ≡ v
        → cond (leb (issue (cond p x b)) (issue y)) y (cond p x b) ≡ cond (leb (issue (cond q y b)) (issue x)) x (cond q y b)
    both z true true true true ep eq eu ev = absurd (z (omega (arith, leb-true (issue x) (issue y) eu, leb-true (issue y) (issue x) ev)))
    both z true true true false ep eq eu ev = rw (eu, ev) refl
    both z true true false true ep eq eu ev = rw (eu, ev) refl
    both z true true false false ep eq eu ev = absurd (omega (arith, leb-false (issue x) (issue y) eu, leb-false (issue y) (issue x) ev))
    both z true false true v ep eq eu ev =
        absurd (omega (arith, leb-true (issue b) (issue x) ep, leb-false (issue b) (issue y) eq, leb-true (issue x) (issue y) eu))
    both z true false false v ep eq eu ev = rw (eu, ep) refl
    both z false true u true ep eq eu ev =
        absurd (omega (arith, leb-false (issue b) (issue x) ep, leb-true (issue b) (issue y) eq, leb-true (issue y) (issue x) ev))
    both z false true u false ep eq eu ev = rw (ev, eq) refl
    both z false false u v ep eq eu ev = rw (eq, ep) refl

    go : (p : Bool) → matches k n x ≡ p → (q : Bool) → matches k n y ≡ q
        → cond (q && leb (issue (cond (p && leb (issue b) (issue x)) x b)) (issue y)) y (cond (p && leb (issue b) (issue x)) x b)
        ≡ cond (p && leb (issue (cond (q && leb (issue b) (issue y)) y b)) (issue x)) x (cond (q && leb (issue b) (issue y)) y b)
    go true p true q =
        both (other p q) (leb (issue b) (issue x)) (leb (issue b) (issue y)) (leb (issue x) (issue y)) (leb (issue y) (issue x)) refl refl refl refl
    go true p false q = refl
    go false p true q = refl
    go false p false q = refl

from-permuted : (k n : ℕ) {l m : List (List ℕ)} → Permutation l m → Distinct l → (b : List ℕ) → current_from k n b l ≡ current_from k n b m
unfolding current_from
from-permuted k n empty d b = refl
from-permuted k n (keep a p) d b = from-permuted k n p d.1 (better k n b a)
from-permuted k n (swap x y l) d b = ap (λ c. current_from k n c l) (better-swap k n b x y (first d.0))
  where
    first : Apart x (y ∷ l) → twin x y ≡ false
    first (also h e) = h
from-permuted k n (then p q) d b = from-permuted k n p d b ∙ from-permuted k n q (distinct-permuted p d) b

pub current-permuted : (k n : ℕ) {l m : List (List ℕ)} → Permutation l m → Distinct l → current k n l ≡ current k n m
unfolding current
current-permuted k n p d = from-permuted k n p d []

-- ---- in a raise

twin-same : {t u : ℕ} {r s : List ℕ} {l m : List (List ℕ)} → Raised t r s → Pairwise (Raised u) l m → any_twin r l ≡ any_twin s m
unfolding any_twin twin
twin-same q none = refl
twin-same q (more p a) = rw (raised-kind q, raised-kind p, raised-key q, raised-key p, raised-issue q, raised-issue p, twin-same q a) refl

pub twins-same : {t : ℕ} {l m : List (List ℕ)} → Pairwise (Raised t) l m → {x y : List (List ℕ)} → Pairwise (Raised t) x y → (p : ℕ)
    → twins p x l ≡ twins p y m
unfolding twins
twins-same none b p = refl
twins-same (more {a = r} {b = s} q a) b p = rw (twin-same q b, q.long, twins-same a (more q b) (p + length s)) refl
