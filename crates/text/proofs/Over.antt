-- Texts written one after the other.
use mathlib.Core.Path.{◌≡◌, ap, ◌∙◌}
use mathlib.Core.List.{List, [], ◌∷◌, ◌++◌, append_assoc, append-nil}
use Prim.Native.Nat.{ℕ, suc, ◌+◌, ◌-◌, ◌<◌, ◌≤◌}
use native.Mathlib.Numerals.{add-one}
use native.Mathlib.Omega.{arith}
use lib.ListN.{length, take, drop, set, length-append, length-drop, length-set, drop_of_length-le}
use lib.Seq.{take-length, take_all, take-append_seam, drop-append_seam, drop-drop, drop-cons, drop-set-lt, get_or-set_same, set-append_seam}
use Rattle.text.specs.Text.{over}

-- what a copy of a whole text leaves
pub copied : (x e : List ℕ) {b : List ℕ} → b ≡ take (length x) x ++ drop (length x) e → b ≡ over x e
copied x e p = p ∙ ap (λ (l : List ℕ). l ++ drop (length x) e) (take-length x)

-- a buffer from j on after a store there
pub stored : (buf : List ℕ) (j v : ℕ) → j < length buf → drop j (set buf j v) ≡ v ∷ drop (suc j) buf
stored buf j v h =
    let k : j < length (set buf j v) = rw length-set h in
    let b : j < suc j = omega arith in
    rw (drop-cons (set buf j v) j 0 k, get_or-set_same buf j v 0 h, drop-set-lt (suc j) buf j v b)

-- a text stands at the front of a buffer that held e, and at is where it ends: what each writer ensures
abbrev pub Wrote : List ℕ → List ℕ → ℕ → List ℕ → Type 0
Wrote x e at b = (at ≡ length x) × (b ≡ over x e)

-- a byte stored just past a text makes it one longer
pub byte : (x e : List ℕ) (v : ℕ) {at : ℕ} {b : List ℕ} → at < length e → Wrote x e at b → Wrote (x ++ (v ∷ [])) e (at + 1) (set b at v)
byte x e v h (p, q) =
    let k : length x < length e = rw p at h in
    (simp (length-append, p), rw (p, q, drop-cons e (length x) 0 k, set-append_seam) (simp (length-append, append_assoc, add-one)))

-- a text x, and then a text y in the rest of the buffer, which is lent and comes back: together they are x ++ y
pub then : (x y e : List ℕ) {at r : ℕ} {b b' : List ℕ} → Wrote x e at b → Wrote y (take (length b - at) (drop at b)) r b'
    → Wrote (x ++ y) e (at + r) (take at b ++ (b' ++ drop (length b - at) (drop at b)))
then x y e {at} {r} {b} {b'} (p, q) (l, w) =
    let t : take at b ≡ x = rw (p, q) (take-append_seam x (drop (length x) e)) in
    let d : drop at b ≡ drop (length x) e = rw (p, q) (drop-append_seam x (drop (length x) e)) in
    let s : length (drop at b) ≤ length b - at = simp length-drop (omega arith) in
    let n : drop (length b - at) (drop at b) ≡ [] = drop_of_length-le (drop at b) {i = length b - at} s in
    let w₁ : b' ≡ over y (drop at b) = w ∙ ap (over y) (take_all (length b - at) (drop at b) s) in
    (simp (length-append, p, l), rw (n, w₁, t, d) (simp (append-nil, length-append, append_assoc, drop-drop)))

-- the same where what follows x is two texts
pub then-two : (x y z e : List ℕ) {at r : ℕ} {b b' : List ℕ} → Wrote x e at b → Wrote (y ++ z) (take (length b - at) (drop at b)) r b'
    → Wrote (x ++ y ++ z) e (at + r) (take at b ++ (b' ++ drop (length b - at) (drop at b)))
then-two x y z e p q = rw (append_assoc x y z) (then x (y ++ z) e p q)
