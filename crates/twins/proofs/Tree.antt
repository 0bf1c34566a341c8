-- Laws of the tree: an id that was entered is met on its way, and stays met.
use mathlib.Core.Path.{◌≡◌, refl, ap, sym, ◌∙◌}
use mathlib.Core.Bool.{Bool, true, false}
use mathlib.Core.List.{List}
use Prim.Native.Nat.{ℕ, zero, suc, ◌+◌, ◌*◌, ◌%◌, ◌≤◌, ◌<◌}
use native.Mathlib.Decide.{ℕ_discrete}
use native.Mathlib.Omega.{arith}
use lib.Dec.{ltb}
use lib.ListN.{length, get_or, set, length-set, replicate, length-replicate, get_or-replicate, get_or-eq_default}
use lib.Seq.{get_or-set_same, get_or-set_other}
use borrow.Author.Tests.{ltb-true, ltb-false}
use Rattle.twins.specs.Tree.{halves, place, node, Open, Shape, Fresh}
use Rattle.twins.proofs.Root.{root-lt}

-- the way of an id meets a node that has it
abbrev pub Hit : ℕ → List ℕ → List ℕ → ℕ → Type 0
Hit n l ids x = (m : ℕ) × Open n l ids x m × (0 < node n l x m) × (get_or ids (node n l x m) 0 ≡ x)

-- a way that ends at a gap meets none
pub no_hit : (n : ℕ) (l ids : List ℕ) (x m : ℕ) → Open n l ids x m → node n l x m ≡ 0 → Hit n l ids x → ⊥
no_hit n l ids x m o z (k, p, q, e) = go (ltb k m) refl (ltb m k) refl
  where
    go : (b : Bool) → ltb k m ≡ b → (c : Bool) → ltb m k ≡ c → ⊥
    go true f c g = (o k (ltb-true k m f)).1 e
    go false f true g = omega (arith, z, (p m (ltb-true m k g)).0)
    go false f false g =
        let w : m ≡ k = omega (arith, ltb-false k m f, ltb-false m k g) in
        omega (arith, z, q, ap (node n l x) w)

-- a way stands at a root or at a link of a node that is there
pub place-lt : (n : ℕ) (l : List ℕ) (count x m : ℕ) → 0 < n → ((a : ℕ) → get_or l a 0 ≤ count) → place n l x m < n + 2 * count + 2
unfolding place
place-lt n l count x zero p s = omega (arith, root-lt n x p)
place-lt n l count x (suc m) p s = omega (arith, s (place n l x m))

-- ---- a node more

module _ (n : ℕ) (l ids : List ℕ) (count : ℕ) (sh : Shape n l ids count) (q v x : ℕ) (gap : get_or l q 0 ≡ 0) where
  -- the links and the ids with it
  abbrev l' : List ℕ
  l' = set l q v

  abbrev ids' : List ℕ
  ids' = set ids (count + 1) x

  -- the links, the ids and the ways that were there stay
  link-same : (a : ℕ) → 0 < get_or l a 0 → get_or l' a 0 ≡ get_or l a 0
  link-same a h = get_or-set_other l q a v 0 (λ e. omega (arith, h, gap, ap (λ (i : ℕ). get_or l i 0) e))

  pub id_same : (m : ℕ) → m ≤ count → get_or ids' m 0 ≡ get_or ids m 0
  id_same m h = get_or-set_other ids (count + 1) m x 0 (λ e. omega (arith, h, e))

  place_same : (z m : ℕ) → ((i : ℕ) → i < m → 0 < node n l z i) → place n l' z m ≡ place n l z m
  unfolding place
  place_same z zero h = refl
  place_same z (suc m) h =
      let p = place_same z m (λ i k. h i (omega arith)) in
      ap (λ (j : ℕ). n + 2 * j + halves z m % 2) (ap (λ (a : ℕ). get_or l' a 0) p ∙ link-same (place n l z m) (h m (omega arith)))

  open-same : (z m : ℕ) → Open n l ids z m → Open n l' ids' z m
  open-same z m o i h =
      let p : node n l' z i ≡ node n l z i = ap (λ (a : ℕ). get_or l' a 0) (place_same z i (λ j k. (o j (omega arith)).0))
      ∙ link-same (place n l z i) (o i h).0 in
      (omega (arith, p, (o i h).0), λ e. (o i h).1 (sym (ap (λ (j : ℕ). get_or ids' j 0) p ∙ id_same (node n l z i) (sh.small (place n l z i))) ∙ e))

  pub hit_same : (z : ℕ) → Hit n l ids z → Hit n l' ids' z
  hit_same z (m, o, p, e) =
      let w : node n l' z m ≡ node n l z m = ap (λ (a : ℕ). get_or l' a 0) (place_same z m (λ j k. (o j k).0)) ∙ link-same (place n l z m) p in
      (m, open-same z m o, omega (arith, p, w), ap (λ (j : ℕ). get_or ids' j 0) w ∙ id_same (node n l z m) (sh.small (place n l z m)) ∙ e)

  -- and the new node is met
  pub new-hit : (m : ℕ) → Open n l ids x m → place n l x m ≡ q → v ≡ count + 1 → q < length l → Hit n l' ids' x
  new-hit m o e w h =
      let p : node n l' x m ≡ count + 1 = ap (λ (a : ℕ). get_or l' a 0) (place_same x m (λ j k. (o j k).0) ∙ e) ∙ get_or-set_same l q v 0 h ∙ w in
      (m, open-same x m o, omega (arith, p), ap (λ (j : ℕ). get_or ids' j 0) p ∙ get_or-set_same ids (count + 1) x 0 (omega (arith, sh.room)))

-- ---- its shape

module _ (n : ℕ) (l ids : List ℕ) (count : ℕ) (sh : Shape n l ids count) (x m : ℕ) where
  -- the gap
  abbrev q : ℕ
  q = place n l x m

  -- it is a place of the links
  bound : q < n + 2 * count + 2
  bound = place-lt n l count x m sh.some sh.small

  pub place-fits : q < length l
  place-fits = omega (arith, bound, sh.links, sh.room)

  -- links lead on, with one more
  at-q : get_or (set l q (count + 1)) q 0 ≡ count + 1
  at-q = get_or-set_same l q (count + 1) 0 place-fits

  small' : (a : ℕ) → Dec (a ≡ q) → get_or (set l q (count + 1)) a 0 ≤ count + 1
  small' a (yes e) = rw e (omega (arith, at-q))
  small' a (no e) = rw (get_or-set_other l q a (count + 1) 0 e) (omega (arith, sh.small a))

  up' : (a : ℕ) → Dec (a ≡ q) → 0 < get_or (set l q (count + 1)) a 0 → a < n + 2 * get_or (set l q (count + 1)) a 0
  up' a (yes e) = rw (e, at-q) (λ p. omega (arith, bound))
  up' a (no e) = rw (get_or-set_other l q a (count + 1) 0 e) (sh.up a)

  pub shaped : count + 2 < length ids → Shape n (set l q (count + 1)) (set ids (count + 1) x) (count + 1)
  shaped room =
      record {
        some = sh.some;
        few = sh.few;
        links = length-set l q (count + 1) ∙ sh.links ∙ ap (λ (i : ℕ). n + 2 * i) (sym (length-set ids (count + 1) x));
        narrow = rw length-set sh.narrow;
        room = rw length-set (omega (arith, room));
        small = λ a. small' a (ℕ_discrete a q);
        up = λ a. up' a (ℕ_discrete a q);
      }

-- a tree with no node
pub bare : {n bytes : ℕ} {l : List ℕ} (ids : List ℕ) → Fresh n l (length ids) bytes → Shape n l ids 0
bare {n} {bytes} {l} ids f =
    record {
      some = f.some;
      few = f.few;
      links = ap length f.none ∙ length-replicate {A = ℕ} (n + 2 * length ids) 0;
      narrow = f.narrow;
      room = omega (arith, f.room);
      small = λ a. omega (arith, zero-at a);
      up = λ a h. absurd (omega (arith, h, zero-at a));
    }
  where
    size : ℕ
    size = n + 2 * length ids

    zeros : List ℕ
    zeros = replicate size 0

    go : (a : ℕ) (b : Bool) → ltb a size ≡ b → get_or zeros a 0 ≡ 0
    go a true h = get_or-replicate size a 0 0 (ltb-true a size h)
    go a false h = get_or-eq_default zeros 0 {n = a} (omega (arith, length-replicate {A = ℕ} size 0, ltb-false a size h))

    zero-at : (a : ℕ) → get_or l a 0 ≡ 0
    zero-at a = ap (λ (m : List ℕ). get_or m a 0) f.none ∙ go a (ltb a size) refl
