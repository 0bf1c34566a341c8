-- The records seen, and their ids in the tree.
use mathlib.Core.Path.{◌≡◌, refl, ap, sym, ◌∙◌}
use mathlib.Core.Bool.{Bool, true, false, ◌&&◌, ◌||◌, false≢true}
use mathlib.Core.List.{List, [], ◌∷◌}
use Prim.Native.Nat.{ℕ, ◌+◌, ◌*◌, ◌≤◌, ◌<◌}
use native.Mathlib.Omega.{arith}
use lib.Dec.{ltb, eqb}
use lib.ListN.{get_or, set}
use lib.Seq.{get_or-set_same}
use borrow.Author.Tests.{ltb-true, ltb-false, eq-eqb, eqb-true}
use Rattle.lists.specs.Lists.{Each, done, also, Member, here, there}
use Rattle.lists.proofs.Lists.{each_map, member-each}
use Rattle.records.specs.Record.{kind, issue, key_of, fault}
use Rattle.station.specs.Current.{twin, any_twin}
use Rattle.index.specs.Slots.{slot}
use Rattle.index.proofs.KeyBounds.{in-key}
use Rattle.index.proofs.Slots.{slot_apart}
use Rattle.twins.specs.Tree.{place, node, Open, Shape}
use Rattle.twins.proofs.Tree.{Hit, no_hit, id_same, hit_same, new-hit, place-fits}

-- the slot of a record's kind and key
abbrev pub slot_of : List ℕ → ℕ
slot_of r = slot (kind r) (key_of r)

-- kind, key and issue as one number
abbrev pub id : List ℕ → ℕ
id r = slot_of r * 4294967296 + issue r

-- the id of each record seen has a node on its way, and each node has the id of one of them
pub record Seen (n : ℕ) (s : List (List ℕ)) (l ids : List ℕ) (count : ℕ) : Type 0 where
  pub good : Each (λ r. (fault r ≡ 0) × (issue r < 4294967296)) s
  pub stored : Each (λ r. Hit n l ids (id r)) s
  pub known : (m : ℕ) → 0 < m → m ≤ count → (r : List ℕ) × Member r s × (id r ≡ get_or ids m 0)

-- a twin among the records
twin-any : (r s : List ℕ) {l : List (List ℕ)} → twin r s ≡ true → Member s l → any_twin r l ≡ true
unfolding any_twin
twin-any r s e here = rw e refl
twin-any r s e (there {b = b} {l = l} m) = or-true (twin r b) (any_twin r l) (twin-any r s e m)
  where
    or-true : (a b : Bool) → b ≡ true → a || b ≡ true
    or-true true b h = refl
    or-true false b h = h

-- records of one id are twins
same_id : (r s : List ℕ) → fault r ≡ 0 → fault s ≡ 0 → issue r < 4294967296 → issue s < 4294967296 → id s ≡ id r → twin r s ≡ true
unfolding twin
same_id r s f g p q e =
    let i : issue r ≡ issue s = omega (arith, p, q, e) in
    let j : slot_of r ≡ slot_of s = omega (arith, p, q, e) in
    let z = slot_apart (kind r) (key_of r) (kind s) (key_of s) (in-key r f) (in-key s g) j in
    rw (z.0, z.1, i, eq-eqb (kind s) (kind s) refl, eq-eqb (key_of s) (key_of s) refl, eq-eqb (issue s) (issue s) refl) refl

-- twins have one kind, key and issue
twin-parts : (r s : List ℕ) → twin r s ≡ true → (kind r ≡ kind s) × (key_of r ≡ key_of s) × (issue r ≡ issue s)
unfolding twin
twin-parts r s e = go (eqb (kind r) (kind s)) refl (eqb (key_of r) (key_of s)) refl (eqb (issue r) (issue s)) refl e
  where
    go : (a : Bool) → eqb (kind r) (kind s) ≡ a → (b : Bool) → eqb (key_of r) (key_of s) ≡ b → (c : Bool) → eqb (issue r) (issue s) ≡ c → a && b && c ≡ true
        → (kind r ≡ kind s) × (key_of r ≡ key_of s) × (issue r ≡ issue s)
    go true x true y true z h = (eqb-true (kind r) (kind s) x, eqb-true (key_of r) (key_of s) y, eqb-true (issue r) (issue s) z)
    go true x true y false z h = absurd (false≢true h)
    go true x false y c z h = absurd (false≢true h)
    go false x b y c z h = absurd (false≢true h)

-- no twin among the records
none_any : (r : List ℕ) {s : List (List ℕ)} → Each (λ t. twin r t ≡ true → ⊥) s → any_twin r s ≡ false
unfolding any_twin
none_any r done = refl
none_any r (also {a = t} {l = l} h e) = go (twin r t) refl (none_any r e)
  where
    go : (b : Bool) → twin r t ≡ b → any_twin r l ≡ false → b || any_twin r l ≡ false
    go true x w = absurd (h x)
    go false x w = w

-- the way of a record's id ends at a node that has it: there is a twin
pub yes-twin : {n : ℕ} {s : List (List ℕ)} {l ids : List ℕ} {count : ℕ} → Seen n s l ids count → Shape n l ids count → (r : List ℕ) → fault r ≡ 0
    → issue r < 4294967296
    → (m : ℕ) → 0 < node n l (id r) m → get_or ids (node n l (id r) m) 0 ≡ id r → any_twin r s ≡ true
yes-twin {n} {s} {l} {ids} t sh r f i m p e =
    let k = t.known (node n l (id r) m) p (sh.small (place n l (id r) m)) in
    let g = member-each k.1 t.good in
    twin-any r k.0 (same_id r k.0 f g.0 i g.1 (k.2 ∙ e)) k.1

-- it ends at a gap: there is none
pub no-twin : {n : ℕ} {s : List (List ℕ)} {l ids : List ℕ} {count : ℕ} → Seen n s l ids count → (r : List ℕ)
    → (m : ℕ) → Open n l ids (id r) m → node n l (id r) m ≡ 0 → any_twin r s ≡ false
no-twin {n} {s} {l} {ids} t r m o z = none_any r (each_map (λ w h e. no_hit n l ids (id r) m o z (moved w (twin-parts r w e) h)) t.stored)
  where
    moved : (w : List ℕ) → (kind r ≡ kind w) × (key_of r ≡ key_of w) × (issue r ≡ issue w) → Hit n l ids (id w) → Hit n l ids (id r)
    moved w p h = rw (p.0, p.1, p.2) h

-- and then the record joins those seen
pub grown : {n : ℕ} {s : List (List ℕ)} {l ids : List ℕ} {count : ℕ} → Seen n s l ids count → Shape n l ids count → (r : List ℕ) → fault r ≡ 0
    → issue r < 4294967296
    → (m : ℕ) → Open n l ids (id r) m → node n l (id r) m ≡ 0
    → Seen n (r ∷ s) (set l (place n l (id r) m) (count + 1)) (set ids (count + 1) (id r)) (count + 1)
grown {n} {s} {l} {ids} {count} t sh r f i m o z =
    record {
      good = also (f, i) t.good;
      stored = also
          (new-hit n l ids count sh q (count + 1) (id r) z m o refl refl (place-fits n l ids count sh (id r) m))
          (each_map (λ w h. hit_same n l ids count sh q (count + 1) (id r) z (id w) h) t.stored);
      known = kn;
    }
  where
    q : ℕ
    q = place n l (id r) m

    kn : (j : ℕ) → 0 < j → j ≤ count + 1 → (w : List ℕ) × Member w (r ∷ s) × (id w ≡ get_or (set ids (count + 1) (id r)) j 0)
    kn j a b = go (ltb j (count + 1)) refl
      where
        go : (c : Bool) → ltb j (count + 1) ≡ c → (w : List ℕ) × Member w (r ∷ s) × (id w ≡ get_or (set ids (count + 1) (id r)) j 0)
        go true e =
            let k = t.known j a (omega (arith, ltb-true j (count + 1) e)) in
            (k.0, there k.1, k.2 ∙ sym (id_same n l ids count sh q (count + 1) (id r) z j (omega (arith, ltb-true j (count + 1) e))))
        go false e =
            let w : j ≡ count + 1 = omega (arith, b, ltb-false j (count + 1) e) in
            (r, here, sym (ap (λ (i : ℕ). get_or (set ids (count + 1) (id r)) i 0) w ∙ get_or-set_same ids (count + 1) (id r) 0 (omega (arith, sh.room))))

-- at the start there are none
pub unseen : (n : ℕ) (l ids : List ℕ) → Seen n [] l ids 0
unseen n l ids = record { good = done; stored = done; known = λ m a b. absurd (omega arith) }
