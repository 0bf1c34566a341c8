-- The turns of `enter`.
use mathlib.Core.Path.{◌≡◌, refl, ap, sym, ◌∙◌}
use mathlib.Core.Bool.{Bool, true, false}
use mathlib.Core.List.{List}
use Prim.Native.Nat.{ℕ, zero, suc, ◌+◌, ◌*◌, ◌/◌, ◌%◌, ◌≤◌, ◌<◌}
use native.Mathlib.Omega.{arith}
use lib.Dec.{ltb}
use lib.ListN.{length, get_or, set}
use borrow.Author.Tests.{ltb-true, ltb-false}
use Rattle.twins.specs.Tree.{root, halves, place, node, Open, Shape, Entered, seen, new}
use Rattle.twins.proofs.Root.{root-lt}

-- the way of an id as far as a link, with what is left of the id there
abbrev pub Way : ℕ → List ℕ → List ℕ → ℕ → ℕ → ℕ → Type 0
Way n l ids x at left = (m : ℕ) × (at ≡ place n l x m) × (left ≡ halves x m) × Open n l ids x m

-- it begins at the root
pub begin : (n : ℕ) (l ids : List ℕ) (x : ℕ) {a : ℕ} → a ≡ root n x → Way n l ids x a x
unfolding place halves
begin n l ids x e = (0, e, refl, λ i h. absurd (omega arith))

module _ (n : ℕ) (l ids : List ℕ) (count x at left m : ℕ) (w : Way n l ids x at left) (e : m ≡ get_or l at 0) where
  -- the node at which it stands
  its-node : m ≡ node n l x w.0
  its-node = e ∙ ap (λ (a : ℕ). get_or l a 0) w.1

  -- a node with another id: it goes on
  pub onward : 0 < m → (get_or ids m 0 ≡ x → ⊥) → Way n l ids x (n + 2 * m + left % 2) (left / 2)
  unfolding place halves
  onward h k = (suc w.0, rw (its-node, w.2) refl, rw w.2 refl, λ i b. go i b (ltb i w.0) refl)
    where
      go : (i : ℕ) → i < suc w.0 → (b : Bool) → ltb i w.0 ≡ b → (0 < node n l x i) × (get_or ids (node n l x i) 0 ≡ x → ⊥)
      go i b true f = w.3 i (ltb-true i w.0 f)
      go i b false f =
          let u : w.0 ≡ i = omega (arith, b, ltb-false i w.0 f) in
          let v : m ≡ node n l x i = its-node ∙ ap (node n l x) u in
          (omega (arith, h, v), λ g. k (ap (λ (j : ℕ). get_or ids j 0) v ∙ g))

  -- a node with the id: it was seen
  pub met : 0 < m → get_or ids m 0 ≡ x → Entered n l ids count x true l ids
  met h k = seen refl w.0 (omega (arith, h, its-node)) (sym (ap (λ (j : ℕ). get_or ids j 0) its-node) ∙ k)

  -- no node: one is set
  pub gap : m ≡ 0 → Entered n l ids count x false (set l at (count + 1)) (set ids (count + 1) x)
  gap h = new refl w.0 w.3 (sym its-node ∙ h) (ap (λ (a : ℕ). set l a (count + 1)) w.1) refl

-- what the shape says in numbers
pub sizes : {n : ℕ} {l ids : List ℕ} {count : ℕ} → Shape n l ids count → (n ≤ 65536) × (length l ≡ n + 2 * length ids) × (length ids ≤ 65535)
    × (count + 1 < length ids)
sizes sh = (sh.few, sh.links, sh.narrow, sh.room)

-- the way begins among the roots
pub first : {n : ℕ} {l ids : List ℕ} {count a : ℕ} → Shape n l ids count → (x : ℕ) → a ≡ root n x → a < n
first {n} sh x e = rw e (root-lt n x sh.some)

-- a node that is there is one of those entered, and its links are further on
pub facts : {n : ℕ} {l ids : List ℕ} {count at m : ℕ} → Shape n l ids count → m ≡ get_or l at 0 → (m ≡ 0 → ⊥) → (0 < m) × (m ≤ count) × (at < n + 2 * m)
facts {n} {l} {ids} {count} {at} {m} sh e z =
    let p = nonzero m z in
    (p, rw e (sh.small at), rw e (sh.up at (rw e at p)))
  where
    nonzero : (i : ℕ) → (i ≡ 0 → ⊥) → 0 < i
    nonzero zero h = absurd (h refl)
    nonzero (suc i) h = omega arith
