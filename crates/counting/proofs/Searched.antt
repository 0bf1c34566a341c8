-- The sorted numbers, gone through from behind, tell 6.
use mathlib.Core.Path.{◌≡◌, refl, ap, ap₂, sym, ◌∙◌}
use mathlib.Core.Bool.{Bool, true, false, cond, ◌&&◌, ◌||◌, not, true≢false}
use mathlib.Core.List.{List, [], ◌∷◌, ◌++◌, map}
use Prim.Native.Nat.{ℕ, ◌+◌, ◌*◌, ◌/◌, ◌≤◌, ◌<◌, min}
use native.Mathlib.Nat.{le_refl}
use native.Mathlib.Omega.{arith}
use lib.Dec.{leb, ltb, eqb}
use lib.ListN.{length, take, drop}
use lib.Seq.{append_snoc, length-take-le, take_at}
use borrow.Author.Tests.{eqb-true, eqb-false, eq-eqb, lt-ltb, le-ltb, ltb-true, ltb-false, le-leb, leb-false, not-false}
use Rattle.lists.specs.Lists.{Each, done, also, Permutation, empty, keep, swap, then, Member, here, there, those}
use Rattle.lists.specs.Sorted.{sorted, none, one, next, Rising}
use Rattle.lists.proofs.Lists.{each_map, each_both, each_of, each-permuted, member-each, members, reversed, those-each, each-those, member-those}
use Rattle.lists.proofs.Tests.{split, and_both, or-true, or-false-left, or-false-right}
use Rattle.lists.proofs.Sorted.{sorted-permutes, sorted-length, sorted-each, sorted_rises, rising-first}
use Rattle.lists.proofs.Keys.{Onward, over, on}
use Rattle.records.specs.Answers.{Accepted, Refused}
use Rattle.records.specs.Record.{mark, kind, key_of, issue, since}
use Rattle.records.specs.Dossier.{records}
use Rattle.records.proofs.Dossier.{scan-each}
use Rattle.station.specs.Current.{matches, twin}
use Rattle.station.specs.InForce.{counts}
use Rattle.station.specs.Declared.{Distinct, Counting}
use Rattle.station.proofs.Current.{matches-kind, matches-key, matches-self}
use Rattle.station.proofs.InForce.{counts-permuted, counts-declared, declared-counts}
use Rattle.station.proofs.Twins.{twins-distinct, distinct-permuted, distinct-those}
use Rattle.index.proofs.KeyBounds.{in-key}
use Rattle.rules.specs.Fit.{fits, unfit}
use Rattle.counting.specs.Sweep.{shown, group, ids_from, group_in, place_in, record_at, Numbered, kept_by, Thinned, whole, without, Clean, Sought}
use Rattle.counting.specs.Sweep.{never, nowhere, least_of, swept_by, stepped, swept_in, answer_at}
use Rattle.counting.proofs.Group.{group-apart}
use Rattle.counting.proofs.Least.{least_since, least-none, least_more, each_append, counts-least}
use Rattle.counting.proofs.Hiding.{same_truth, counts-shown, unshown-fits}
use Rattle.counting.proofs.Loops.{since-first, fits-first}
use Rattle.counting.proofs.Places.{stands, told, lowest, lowest-same, lowest-those, lowest-permuted, first-lowest}

each-mapped : {A B : Type 0} {P : B → Type 0} (f : A → B) (l : List A) → Each P (map f l) → Each (λ a. P (f a)) l
each-mapped f [] e = done
each-mapped f (a ∷ l) (also h e) = also h (each-mapped f l e)

mapped-each : {A B : Type 0} {P : B → Type 0} (f : A → B) {l : List A} → Each (λ a. P (f a)) l → Each P (map f l)
mapped-each f done = done
mapped-each f (also h e) = also h (mapped-each f e)

map-permuted : {A B : Type 0} (f : A → B) {l m : List A} → Permutation l m → Permutation (map f l) (map f m)
map-permuted f empty = empty
map-permuted f (keep a p) = keep (f a) (map-permuted f p)
map-permuted f (swap a b l) = swap (f a) (f b) (map f l)
map-permuted f (then p q) = then (map-permuted f p) (map-permuted f q)

rising-rest : {a : ℕ} {l : List ℕ} → Rising (a ∷ l) → Rising l
rising-rest (one a) = none
rising-rest (next h r) = r

module _ (d : List ℕ) where
  abbrev rec : ℕ → List ℕ
  rec x = record_at d x

  abbrev group_of : ℕ → ℕ
  group_of x = group (kind (rec x)) (key_of (rec x))

  -- ---- what a number tells

  upper : (x : ℕ) → Numbered d x → x / 65536 ≡ group_of x * 4294967296 + issue (rec x)
  upper x n = omega (arith, n.number)

  group-in : (x : ℕ) → Numbered d x → group_in x ≡ group_of x
  group-in x n = omega (arith, n.number, n.narrow)

  same_kind : (x y : ℕ) → Numbered d x → Numbered d y → group_of x ≡ group_of y → (kind (rec x) ≡ kind (rec y)) × (key_of (rec x) ≡ key_of (rec y))
  same_kind x y n m e = group-apart _ _ _ _ (in-key (rec x) n.clean) (in-key (rec y) m.clean) e

  matches-group : (x y : ℕ) → matches (kind (rec x)) (key_of (rec x)) (rec y) ≡ true → group_of y ≡ group_of x
  matches-group x y e = rw (matches-kind (kind (rec x)) (key_of (rec x)) (rec y) e, matches-key (kind (rec x)) (key_of (rec x)) (rec y) e) refl

  -- what is read in place
  since_at : (x : ℕ) → since (rec x) ≡ since (drop (place_in x) d)
  unfolding record_at
  since_at x = since-first (drop (place_in x) d)

  fits-at : (t x : ℕ) → fits t (mark (rec x)) (rec x) ≡ fits t (mark (drop (place_in x) d)) (drop (place_in x) d)
  unfolding record_at
  fits-at t x = fits-first t (drop (place_in x) d)

  -- ---- kind, key and issue rise along the sorted numbers, as no two are the same

  abbrev Below : ℕ → ℕ → Type 0
  Below x y = x / 65536 < y / 65536

  below : (x y : ℕ) → Numbered d x → Numbered d y → x ≤ y → twin (rec x) (rec y) ≡ false → Below x y
  unfolding twin
  below x y n m h t =
      split (ltb (x / 65536) (y / 65536))
      (λ e. ltb-true (x / 65536) (y / 65536) e)
      (λ e. absurd (same (ltb-false (x / 65536) (y / 65536) e)))
    where
      same : y / 65536 ≤ x / 65536 → ⊥
      same w =
          let g : group_of x ≡ group_of y = omega (arith, upper x n, upper y m, n.narrow, m.narrow) in
          let i : issue (rec x) ≡ issue (rec y) = omega (arith, upper x n, upper y m, n.narrow, m.narrow) in
          let k = same_kind x y n m g in
          true≢false
          (sym (rw (
            eq-eqb (kind (rec x)) (kind (rec y)) k.0,
            eq-eqb (key_of (rec x)) (key_of (rec y)) k.1,
            eq-eqb (issue (rec x)) (issue (rec y)) i,
          ) refl) ∙ t)

  strict : {l : List ℕ} → Rising l → Each (Numbered d) l → Distinct (map rec l) → Onward Below l
  strict r done u = over
  strict r (also {a = x} {l = l} n e) u =
      on (each_map (λ y q. below x y n q.1.0 q.0 q.1.1) (each_both (rising-first (λ z. z) r) (each_both e (each-mapped rec l u.0))))
      (strict (rising-rest r) e u.1)

  -- ---- the least first hour that is known behind a number is that of its kind and key

  apart_from : (x y : ℕ) → Numbered d x → Numbered d y → group_in x < group_in y → matches (kind (rec x)) (key_of (rec x)) (rec y) ≡ false
  apart_from x y n m h =
      split (matches (kind (rec x)) (key_of (rec x)) (rec y))
      (λ e. absurd (omega (arith, matches-group x y e, group-in x n, group-in y m)))
      (λ e. e)

  -- ---- thinned out by the record of one number

  kept-parts : (b h x : ℕ) → kept_by d b h x ≡ false → (group_in x ≡ group_in b) × (x / 65536 < b / 65536) × (h ≤ since (drop (place_in x) d))
  unfolding kept_by
  kept-parts b h x e =
      let g : Bool = eqb (group_in x) (group_in b) in
      let i : Bool = leb (b / 65536) (x / 65536) in
      let z = or-false-left (not g || i) (ltb (since (drop (place_in x) d)) h) e in (
        eqb-true (group_in x) (group_in b) (not-false g (or-false-left (not g) i z)),
        leb-false (b / 65536) (x / 65536) (or-false-right (not g) i z),
        ltb-false (since (drop (place_in x) d)) h (or-false-right (not g || i) (ltb (since (drop (place_in x) d)) h) e),
      )

  kept_self : (b h : ℕ) → kept_by d b h b ≡ true
  unfolding kept_by
  kept_self b h = rw (le-leb (b / 65536) (b / 65536) (le_refl (b / 65536)), or-true (not (eqb (group_in b) (group_in b)))) refl

  member-map : {x : ℕ} {l : List ℕ} → Member x l → Member (rec x) (map rec l)
  member-map here = here
  member-map (there m) = there (member-map m)

  distinct-thinned : (k : ℕ → Bool) (l : List ℕ) → Distinct (map rec l) → Distinct (map rec (those k l))
  unfolding those
  distinct-thinned k [] u = u
  distinct-thinned k (x ∷ l) u = go (k x) (distinct-thinned k l u.1)
    where
      go : (b : Bool) → Distinct (map rec (those k l)) → Distinct (map rec (cond b (x ∷ those k l) (those k l)))
      go true v = (mapped-each rec (those-each k (each-mapped rec l u.0)), v)
      go false v = v

  module _ (b : ℕ) (l : List ℕ) (mb : Member b l) (en : Each (Numbered d) l) where
    abbrev kb : ℕ → Bool
    kb x = kept_by d b (since (drop (place_in b) d)) x

    -- what is not kept is hidden by it
    covered : (x : ℕ) → Numbered d x → kb x ≡ false → (kind (rec b) ≡ kind (rec x)) × (key_of (rec b) ≡ key_of (rec x)) × (issue (rec x) < issue (rec b))
        × (since (rec b) ≤ since (rec x))
    covered x n e =
        let p = kept-parts b (since (drop (place_in b) d)) x e in
        let nb = member-each mb en in
        let g : group_of x ≡ group_of b = sym (group-in x n) ∙ p.0 ∙ group-in b nb in
        let k = same_kind x b n nb g in
        (sym k.0, sym k.1, omega (arith, g, p.1, upper x n, upper b nb), rw (since_at b, since_at x) p.2)

    matched : (r s : List ℕ) → kind s ≡ kind r → key_of s ≡ key_of r → matches (kind r) (key_of r) s ≡ true
    unfolding matches
    matched r s e f = and_both _ _ (eq-eqb (kind s) (kind r) e) (eq-eqb (key_of s) (key_of r) f)

    dropped-not : (x : ℕ) → Member x l → kb x ≡ false → counts (map rec l) (rec x) ≡ false
    dropped-not x m e =
        split (counts (map rec l) (rec x))
        (λ c.
        let p = covered x (member-each m en) e in
        absurd (omega (
          arith,
          member-each (member-map mb) (counts-declared (map rec l) (rec x) (member-map m) c) (matched (rec x) (rec b) p.0 p.1)
              p.2,
          p.3,
        )))
        (λ c. c)

    back : (r : List ℕ) → Counting (map rec (those kb l)) r → Counting (map rec l) r
    back r e =
        mapped-each rec (each_map (λ y q mt lt. split (kb y) (λ w. q.0 w mt lt) (λ w. through y (member-each q.1 en) w mt lt))
        (each_both ones (members l)))
      where
        ones : Each (λ y. kb y ≡ true → matches (kind r) (key_of r) (rec y) ≡ true → issue r < issue (rec y) → since r < since (rec y)) l
        ones = each-those kb l (each-mapped rec (those kb l) e)

        through : (y : ℕ) → Numbered d y → kb y ≡ false → matches (kind r) (key_of r) (rec y) ≡ true → issue r < issue (rec y) → since r < since (rec y)
        through y n w mt lt =
            let p = covered y n w in
            omega (
              arith,
              member-each mb ones (kept_self b (since (drop (place_in b) d)))
                  (matched r (rec b) (p.0 ∙ matches-kind (kind r) (key_of r) (rec y) mt) (p.1 ∙ matches-key (kind r) (key_of r) (rec y) mt))
                  (omega (arith, lt, p.2)),
              p.3,
            )

    counts-kept : Each (λ x. counts (map rec (those kb l)) (rec x) ≡ counts (map rec l) (rec x)) (those kb l)
    counts-kept =
        each_map (λ x m. same_truth (counts (map rec (those kb l)) (rec x)) (counts (map rec l) (rec x))
        (λ c. declared-counts (map rec l) (rec x) (member-map (member-those kb l m))
        (back (rec x) (counts-declared (map rec (those kb l)) (rec x) (member-map m) c)))
        (λ c. declared-counts (map rec (those kb l)) (rec x) (member-map m)
        (mapped-each rec (those-each kb (each-mapped rec l (counts-declared (map rec l) (rec x) (member-map (member-those kb l m)) c))))))
        (members (those kb l))

  thinned-distinct : {l m : List ℕ} → Thinned d l m → Distinct (map rec l) → Distinct (map rec m)
  thinned-distinct (whole q) u = rw q u
  thinned-distinct {l} (without b mb q) u = rw q (distinct-thinned (kept_by d b (since (drop (place_in b) d))) l u)

  pub thinned-each : {P : ℕ → Type 0} {l m : List ℕ} → Thinned d l m → Each P l → Each P m
  thinned-each (whole q) e = rw q e
  thinned-each (without b mb q) e = rw q (those-each (kept_by d b (since (drop (place_in b) d))) e)

  module _ (t : ℕ) where
    least-is : (x : ℕ) {l : List ℕ} → Numbered d x → Each (Numbered d) l → Onward Below l → Each (Below x) l
        → least_of (swept_in t d l) (group_in x) ≡ least_since (kind (rec x)) (key_of (rec x)) (map rec l)
    unfolding swept_in stepped swept_by least_since
    least-is x n done o b = go (eqb (group_in x) nowhere)
      where
        go : (b : Bool) → cond b never never ≡ never
        go true = refl
        go false = refl
    least-is x n (also {a = y} {l = l} m e) (on u o) (also v b) =
        split (eqb (group_in x) (group_in y)) (λ z. rw z (same z (least-is y m e o u))) (λ z. rw z (other z))
      where
        same : eqb (group_in x) (group_in y) ≡ true → least_of (swept_in t d l) (group_in y) ≡ least_since (kind (rec y)) (key_of (rec y)) (map rec l)
            → min (since (drop (place_in y) d)) (least_of (swept_in t d l) (group_in y)) ≡ least_since (kind (rec x)) (key_of (rec x)) (rec y ∷ map rec l)
        same z i =
            let k = same_kind x y n m (sym (group-in x n) ∙ eqb-true (group_in x) (group_in y) z ∙ group-in y m) in
            ap₂ min (sym (since_at y)) i ∙ sym (least_more (kind (rec y)) (key_of (rec y)) (rec y) (map rec l) (matches-self (rec y)))
            ∙ ap₂ (λ (j i : ℕ). least_since j i (rec y ∷ map rec l)) (sym k.0) (sym k.1)

        other : eqb (group_in x) (group_in y) ≡ false → never ≡ least_since (kind (rec x)) (key_of (rec x)) (rec y ∷ map rec l)
        other z =
            let h : group_in x < group_in y = omega (arith, v, eqb-false (group_in x) (group_in y) z) in
            sym (least-none (kind (rec x)) (key_of (rec x))
            (also {a = rec y} (apart_from x y n m h) (mapped-each rec (each_map (λ w q. apart_from x w n q.0 (omega (arith, q.1, h))) (each_both e u)))))

    -- ---- the least place that is found is that of those that count and don't fit

    abbrev unfit_at : List (List ℕ) → ℕ → Bool
    unfit_at all x = counts all (rec x) && not (fits t (mark (rec x)) (rec x))

    -- a record before those of some numbers has no higher issue of their kinds and keys
    abbrev Before : List ℕ → List ℕ → Type 0
    Before s r = matches (kind r) (key_of r) s ≡ true → issue s < issue r

    ahead : (x y : ℕ) → Numbered d x → Numbered d y → Below x y → Before (rec x) (rec y)
    ahead x y n m h e = omega (arith, matches-group y x e, upper x n, upper y m)

    behind : (x y : ℕ) → Numbered d x → Numbered d y → Below x y → matches (kind (rec x)) (key_of (rec x)) (rec y) ≡ true → issue (rec x) < issue (rec y)
    behind x y n m h e = omega (arith, matches-group x y e, upper x n, upper y m)

    found-is : (a : List (List ℕ)) {l : List ℕ} → Each (Numbered d) l → Each (λ x. since (drop (place_in x) d) < never) l → Onward Below l
        → Each (λ s. Each (λ x. Before s (rec x)) l) a → (swept_in t d l).found ≡ lowest (unfit_at (a ++ map rec l)) l
    unfolding swept_in stepped swept_by lowest
    found-is a done w o q = refl
    found-is a (also {a = x} {l = l} n e) (also z w) (on u o) q =
        turn (found-is (a ++ (rec x ∷ [])) e w o
        (each_append (each_map (λ s f. rest f) q) (also (each_map (λ y p. ahead x y n p.0 p.1) (each_both e u)) done)))
      where
        rest : {P : ℕ → Type 0} → Each P (x ∷ l) → Each P l
        rest (also h f) = f

        first : {P : ℕ → Type 0} → Each P (x ∷ l) → P x
        first (also h f) = h

        all : List (List ℕ)
        all = a ++ (rec x ∷ map rec l)

        counted : ltb (since (drop (place_in x) d)) (least_of (swept_in t d l) (group_in x)) ≡ counts all (rec x)
        counted =
            rw (least-is x n e o u, ← since_at x)
            (sym (counts-least (rec x) a (map rec l) (rw (since_at x) z) (each_map (λ s f. first f) q)
            (mapped-each rec (each_map (λ y p. behind x y n p.0 p.1) (each_both e u)))))

        turn : (swept_in t d l).found ≡ lowest (unfit_at (a ++ (rec x ∷ []) ++ map rec l)) l
            → cond (ltb (since (drop (place_in x) d)) (least_of (swept_in t d l) (group_in x)) && not (fits t (mark (drop (place_in x) d)) (drop (place_in x) d)))
            (min (place_in x) (swept_in t d l).found) (swept_in t d l).found
            ≡ cond (unfit_at all x) (min (place_in x) (lowest (unfit_at all) l)) (lowest (unfit_at all) l)
        turn i = rw (counted, ← fits-at t x, i, append_snoc a (rec x) (map rec l)) refl

    -- the least place is the same where numbers are thinned out
    thinned-lowest : {l m : List ℕ} → Each (Numbered d) l → Thinned d l m → lowest (unfit_at (map rec m)) m ≡ lowest (unfit_at (map rec l)) l
    thinned-lowest e (whole q) = rw q refl
    thinned-lowest {l} e (without b mb q) =
        rw q
        (lowest-same (unfit_at (map rec (those (kb b l mb e) l))) (unfit_at (map rec l))
        (each_map (λ x c. ap (λ (y : Bool). y && not (fits t (mark (rec x)) (rec x))) c) (counts-kept b l mb e))
        ∙ lowest-those (unfit_at (map rec l)) (kb b l mb e) (each_map (λ x m w. rw (dropped-not b l mb e x m w) refl) (members l)))

    pub searched : (all : Bool) {ix ids k m : List ℕ} → Clean d ix → Sought all t d → ids ≡ ids_from (shown all (records d)) 0 (records d)
        → Each (Numbered d) ids → Thinned d ids k → m ≡ sorted k
        → Each (λ x. since (drop (place_in x) d) < never) m → answer_at (swept_in t d m).found ≡ unfit t (records d)
    unfolding unfit counts
    searched all {ids = ids} {k = k} {m = m} c keys ei n th em z =
        let f : List ℕ → Bool = shown all (records d) in
        let order : Permutation k m = rw em (sorted-permutes (λ x. x) k) in
        let st = stands d (scan-each 0 (records d) c.0.clean) in
        let same : map rec ids ≡ those f (records d) = rw ei (told d c.0.short f 0 (records d) st) in
        let apart : Distinct (map rec ids) = rw same (distinct-those f (records d) (twins-distinct 0 (records d) c.2)) in
        let moved : Permutation (map rec k) (map rec m) = map-permuted rec order in
        let apart-k : Distinct (map rec k) = thinned-distinct th apart in
        let nm : Each (Numbered d) m = each-permuted order (thinned-each th n) in
        let up : Onward Below m = strict (rw em (sorted_rises (λ x. x) k)) nm (distinct-permuted moved apart-k) in
        ap answer_at
        (found-is [] nm z up done
        ∙ lowest-same (unfit_at (map rec m)) (unfit_at (map rec k))
        (each_of m (λ x. ap (λ (b : Bool). b && not (fits t (mark (rec x)) (rec x))) (sym (counts-permuted moved apart-k (since (rec x)) (rec x)))))
        ∙ lowest-permuted (unfit_at (map rec k)) (reversed order)
        ∙ thinned-lowest n th
        ∙ lowest-same (unfit_at (map rec ids)) (unfit_at (records d))
        (each_map (λ x e. ap (λ (b : Bool). b && not (fits t (mark (rec x)) (rec x))) e)
        (each-mapped {P = λ r. counts (map rec ids) r ≡ counts (records d) r} rec ids (rw same (counts-shown (records d) all))))
        ∙ ap (lowest (unfit_at (records d))) ei)
        ∙ first-lowest d c.0.short f (λ r. counts (records d) r && not (fits t (mark r) r)) 0 (omega arith) st
        (each_map (λ r q e. unshown-fits (records d) all t keys r q e) (members (records d)))

-- ---- the numbers in the room that is lent

module _ (t : ℕ) (all : Bool) (d ix ids a s : List ℕ) (n : ℕ) (c : Clean d ix) (keys : Sought all t d) (h : n ≤ length a)
    (ei : ids ≡ ids_from (shown all (records d)) 0 (records d)) (en : Each (Numbered d) ids) (th : Thinned d ids (take n a)) (es : s ≡ sorted (take n a)) where
  part : take n (s ++ drop n a) ≡ s
  part = take_at s (drop n a) n (ap length es ∙ sorted-length (λ x. x) (take n a) ∙ length-take-le n a h)

  pub part-inside : Each (λ x. place_in x ≤ length d) (take n (s ++ drop n a))
  part-inside = rw (part, es) (sorted-each (λ x. x) (take n a) (each_map (λ x q. q.inside) (thinned-each d th en)))

  module _ {p : ℕ} (ep : p ≡ (swept_in t d (take n (s ++ drop n a))).found) (z : Each (λ x. since (drop (place_in x) d) < never) (take n (s ++ drop n a))) where
    told-by : answer_at p ≡ unfit t (records d)
    told-by = rw (ep, part) (searched d t all c keys ei en th es (rw part at z))

    pub refused : p < nowhere → Refused 6 p ≡ unfit t (records d)
    unfolding answer_at
    refused w = sym (rw (lt-ltb p nowhere w) refl) ∙ told-by

    pub accepted : nowhere ≤ p → Accepted ≡ unfit t (records d)
    unfolding answer_at
    accepted w = sym (rw (le-ltb p nowhere w) refl) ∙ told-by
