-- The part at a slot is the current record.
use mathlib.Core.Path.{◌≡◌, refl, ap, ap₂, sym, subst, ◌∙◌}
use mathlib.Core.Bool.{Bool, true, false, cond, true≢false, ◌||◌, not}
use mathlib.Core.List.{List, []}
use Prim.Native.Nat.{ℕ, ◌+◌, ◌-◌, ◌^◌, ◌≤◌, ◌<◌}
use native.Mathlib.Nat.{add-sub_cancel_left}
use native.Mathlib.Omega.{arith}
use lib.Dec.{ltb, eqb, lit≤}
use lib.ListN.{length, get_or, take, drop, length-take, length-drop}
use lib.Seq.{get_or-take, get_or-drop, drop-drop, drop_at, take-add}
use borrow.Author.Tests.{ne_eqb, lt-ltb, le-ltb, eqb-true}
use Rattle.lists.specs.Lists.{Each, done, also}
use Rattle.lists.proofs.Lists.{each_map, member-each}
use Rattle.lists.specs.Tests.{all_below}
use Rattle.lists.proofs.Tests.{split, below_at}
use Rattle.records.specs.Table.{table, row_of, CH, FP, LC, kinds}
use Rattle.records.specs.Record.{mark, is_dated, kind, datable, size, key_of, key_in, key_width}
use Rattle.records.specs.MarkShapes.{shape, shape_of, key_test, body}
use Rattle.records.specs.Answers.{Accepted}
use Rattle.records.specs.Dossier.{first_of, records, scan}
use Rattle.station.specs.Current.{matches, better, current_from, current, start_from, start_of}
use Rattle.station.specs.Declared.{CurrentOf, absent as gone, standing}
use Rattle.station.proofs.Current.{matches-kind, matches-key, current-found}
use Rattle.index.specs.Slots.{slot, short, narrow, wide, slots_empty}
use Rattle.index.specs.Holding.{held_record, IndexOf}
use Rattle.index.proofs.Holding.{index-of}
use Rattle.records.proofs.Record.{size-ge, mark-take}
use Rattle.records.proofs.Dated.{other-mark, plain-mark, none-kind, body-dated, body-plain, body-nil, body-length}
use Rattle.records.proofs.EveryMark.{dated-letter}
use Rattle.index.proofs.KeyBounds.{Spans, InKey, at-kind, in-key, key-test, test-key}
use Rattle.index.proofs.Slots.{slot_lt, early, slot-short, slot-narrow, in-empty}
use Rattle.index.proofs.Holds.{Holds, absent, there, Good, good-records, index-holds}
use Rattle.lookup.specs.declared.Part.{Part}
use Rattle.lookup.specs.Parts.{part, part_bytes, current_part, index_of, place_in, place_at, part_at, body_start, body_of, body_at, record_part, Whole, Complete}
use Rattle.lookup.specs.Parts.{RecordIn, BodyIn, UpTo, slots_for}

-- ---- how many slots a kind asks for

slot_test : ℕ → Bool
slot_test k = eqb k FP || (eqb k CH || eqb k LC) || early k

early-kind : (k : ℕ) → k < kinds → eqb k FP ≡ false → eqb k CH || eqb k LC ≡ false → early k ≡ true
unfolding slot_test
early-kind k h f g =
    let t : eqb k FP || (eqb k CH || eqb k LC) || early k ≡ true = below_at kinds slot_test (unfold slot_test all_below in refl) k h in
    rw (f, g) at t

pub slots-most : (k : ℕ) → slots_for k ≤ wide
slots-most k = split (eqb k FP) (λ t. rw t (lit≤ tt)) (λ f. rw f (split (eqb k CH || eqb k LC) (λ t. rw t (lit≤ tt)) (λ g. rw g (lit≤ tt))))

-- ---- a part within the dossier

drop-taken : (n m : ℕ) (l : List ℕ) → n ≤ length l → drop n (take (n + m) l) ≡ take m (drop n l)
drop-taken n m l h = ap (drop n) (take-add n m l) ∙ drop_at (take n l) (take m (drop n l)) n (length-take n l ∙ omega (arith, h))

held-zero : (d : List ℕ) (v : ℕ) → v ≡ 0 → held_record d v ≡ []
unfolding held_record
held-zero d v z = rw z refl

held-some : (d : List ℕ) (v : ℕ) → (v ≡ 0 → ⊥) → held_record d v ≡ take (size (mark (drop (v - 1) d))) (drop (v - 1) d)
unfolding held_record first_of
held-some d v z = rw (ne_eqb v 0 z) refl

pub cut : (d : List ℕ) (p : Part) → take (p.start + p.length - p.start) (drop p.start d) ≡ part_bytes d p
unfolding part_bytes
cut d p = ap (λ (n : ℕ). take n (drop p.start d)) (add-sub_cancel_left p.start p.length)

-- ---- what a slot holds

-- none, or the bytes from place s on
module _ (d : List ℕ) (v n : ℕ) where
  pub record-none : v ≡ 0 → [] ≡ part_bytes d (place_in (length d) v n)
  unfolding part_bytes
  record-none e = rw e refl

  pub body-none : v ≡ 0 → [] ≡ body_of d v n
  unfolding body_of
  body-none e = rw e refl

  module _ (some : v ≡ 0 → ⊥) {s : ℕ} where
    pub record-there : s ≡ v - 1 → s + n ≤ length d → take (s + n - s) (drop s d) ≡ part_bytes d (place_in (length d) v n)
    unfolding part_bytes
    record-there e h = rw (ne_eqb v 0 some, ← e, le-ltb (length d) (s + n) h, add-sub_cancel_left s n) refl

    pub body-there : s ≡ body_start d v → take (s + n - s) (drop s d) ≡ body_of d v n
    unfolding body_of
    body-there e = rw (ne_eqb v 0 some, ← e, add-sub_cancel_left s n) refl

-- an empty slot has no part
pub part_none : (d ix : List ℕ) (j n : ℕ) → get_or ix j 0 ≡ 0 → part_at d ix j n ≡ []
unfolding part_at place_at part_bytes
part_none d ix j n e = rw e refl

module _ (k : ℕ) (d : List ℕ) (v : ℕ) (c : List ℕ) (q : ℕ) where
  held_bytes : Holds k d (length d) v c q → part_bytes d (part q (length c)) ≡ c
  unfolding part_bytes
  held_bytes (absent e z y) = rw z refl
  held_bytes (there e w l m g) = g

  held-ends : Holds k d (length d) v c q → q + length c ≤ length d
  held-ends (absent e z y) = omega (arith, y, ap length z)
  held-ends (there e w l m g) = w

  -- the record that is there begins with its mark
  there-mark : length c ≡ size (mark c) → take (length c) (drop q d) ≡ c → mark (drop q d) ≡ mark c
  there-mark l g = sym (mark-take (length c) (drop q d) (omega (arith, l, size-ge (mark c)))) ∙ ap mark g

  held-part : Holds k d (length d) v c q → record_part d v ≡ part q (length c)
  unfolding record_part
  held-part (absent e z y) = rw (e, y, z) refl
  held-part (there e w l m g) =
      let n : v - 1 ≡ q = omega (arith, e) in
      rw (n, there-mark l g, ← l, ne_eqb v 0 (λ z. omega (arith, e, z)), le-ltb (length d) v (omega (arith, w, e, l, size-ge (mark c)))) refl

  -- of a kind without first hours it is as long as the kind says
  held_place : datable k ≡ false → (ix : List ℕ) (j : ℕ) → get_or ix j 0 ≡ v → Holds k d (length d) v c q → place_at (length d) ix j (size k) ≡ part q (length c)
  unfolding place_at
  held_place u ix j i (absent e z y) = rw (i, e, y, z) refl
  held_place u ix j i (there e w l m g) =
      let n : v - 1 ≡ q = omega (arith, e) in
      let long : size k ≡ length c = ap size (sym (other-mark c u m)) ∙ sym l in
      rw (i, n, long, ne_eqb v 0 (λ z. omega (arith, e, z)), le-ltb (length d) (q + length c) w) refl

  held_found : datable k ≡ false → (ix : List ℕ) (j : ℕ) → get_or ix j 0 ≡ v → Holds k d (length d) v c q → part_at d ix j (size k) ≡ c
  unfolding part_at
  held_found u ix j i h = ap (part_bytes d) (held_place u ix j i h) ∙ held_bytes h

  held-inside : datable k ≡ false → Holds k d (length d) v c q → RecordIn d v (size k)
  held-inside u (absent e z y) some = absurd (some e)
  held-inside u (there e w l m g) some = omega (arith, e, w, ap size (other-mark c u m), l)

  -- of any kind, without its first hour, its body is
  module _ (z : 1 ≤ k) (e : v ≡ q + 1) (w : q + length c ≤ length d) (l : length c ≡ size (mark c)) (m : kind c ≡ k) (g : take (length c) (drop q d) ≡ c) where
    known : mark c ≡ 0 → ⊥
    known x = omega (arith, z, m, none-kind c x)

    long : 6 ≤ length c
    long = omega (arith, l, size-ge (mark c))

    letter : eqb (get_or d v 0) 86 ≡ is_dated (mark c)
    letter =
        ap (λ (x : ℕ). eqb x 86) (ap (λ (x : ℕ). get_or d x 0) e ∙ sym (get_or-drop q d 1 0) ∙ sym (get_or-take (length c) (drop q d) 1 0 (omega (arith, long)))
        ∙ ap (λ (r : List ℕ). get_or r 1 0) g)
        ∙ sym (dated-letter c known)

    start_is : body_start d v ≡ q + cond (is_dated (mark c)) 4 0
    start_is = rw letter (omega (arith, e))

    -- with its first hour it is as long as the record
    whole_is : (b : Bool) → is_dated (mark c) ≡ b → cond b 4 0 + size k ≡ length c
    whole_is true x = omega (arith, body-length c l, ap size m, ap length (body-dated c x), length-drop 4 c, long)
    whole_is false x = omega (arith, ap size (sym m ∙ sym (plain-mark c x)), l)

    body-inside : (v < length d) × (body_start d v + size k ≤ length d)
    body-inside = (omega (arith, e, w, long), omega (arith, start_is, whole_is (is_dated (mark c)) refl, w))

    body_bytes : take (size k) (drop (body_start d v) d) ≡ body c
    body_bytes = rw start_is (go (is_dated (mark c)) refl)
      where
        go : (b : Bool) → is_dated (mark c) ≡ b → take (size k) (drop (q + cond b 4 0) d) ≡ body c
        go true x =
            let whole : length c ≡ 4 + size k = sym (whole_is true x) in
            let cut_off : drop 4 c ≡ take (size k) (drop (q + 4) d) = ap (drop 4) (sym g) ∙ ap (λ (n : ℕ). drop 4 (take n (drop q d))) whole
            ∙ drop-taken 4 (size k) (drop q d) (omega (arith, w, long, length-drop q d)) ∙ ap (take (size k)) (drop-drop 4 q d) in
            sym cut_off ∙ sym (body-dated c x)
        go false x =
            let at : q + 0 ≡ q = omega arith in
            let n : size k ≡ length c = omega (arith, whole_is false x) in
            rw (at, n) (g ∙ sym (body-plain c x))

  held-body : 1 ≤ k → Holds k d (length d) v c q → body_of d v (size k) ≡ body c
  unfolding body_of
  held-body z (absent e f y) = rw (e, f, body-nil) refl
  held-body z (there e w l m g) = rw (ne_eqb v 0 (λ x. omega (arith, e, x))) (body_bytes z e w l m g)

  held-body-inside : 1 ≤ k → Holds k d (length d) v c q → BodyIn d v (size k)
  held-body-inside z (absent e f y) some = absurd (some e)
  held-body-inside z (there e w l m g) some = body-inside z e w l m g

  -- a slot that is not empty tells that there is one
  held_tells : Holds k d (length d) v c q → ltb 0 (length c) ≡ not (eqb v 0)
  held_tells (absent e z y) = rw (e, z) refl
  held_tells (there e w l m g) = rw (lt-ltb 0 (length c) (omega (arith, l, size-ge (mark c))), ne_eqb v 0 (λ x. omega (arith, e, x))) refl

-- ---- an index of some records: in the slot of a kind and key stands the current one

module _ {l : List (List ℕ)} {d ix : List ℕ} (h : IndexOf l d ix) (good : Each Good l) (k n : ℕ) (i : InKey k n) (fit : slot k n < length ix) where
  index_at : Holds k d (length d) (get_or ix (slot k n) 0) (current k n l) (get_or ix (slot k n) 0 - 1)
  index_at = go (get_or ix (slot k n) 0) (h.holds k n i.low (key-test k n i) fit) (h.none k n i.low (key-test k n i) fit) (current-found k n l)
    where
      go : (v : ℕ) {c : List ℕ} → held_record d v ≡ c → (c ≡ [] → v ≡ 0) → CurrentOf k n l c → Holds k d (length d) v c (v - 1)
      go v is zeroed (gone p q) = absent (zeroed p) p (rw (zeroed p) refl)
      go v {c} is zeroed (standing q) =
          let g : Good c = member-each q.member good in
          let s = drop (v - 1) d in
          let some : v ≡ 0 → ⊥ = λ z. omega (arith, g.1, size-ge (mark c), ap length (sym is ∙ held-zero d v z)) in
          let cut-is : take (size (mark s)) s ≡ c = sym (held-some d v some) ∙ is in
          let m : mark s ≡ mark c = sym (mark-take (size (mark s)) s (omega (arith, size-ge (mark s)))) ∙ ap mark cut-is in
          let e : take (length c) s ≡ c = ap (λ (x : ℕ). take x s) (g.1 ∙ ap size (sym m)) ∙ cut-is in
          there (omega (arith, some)) (omega (arith, ap length e, length-take (length c) s, length-drop (v - 1) d, g.1, size-ge (mark c), some)) g.1
          q.marked e

  pub index-part : datable k ≡ false → {j len : ℕ} → j ≡ slot k n → len ≡ size k → part_at d ix j len ≡ current k n l
  index-part u a b = rw (a, b) (held_found k d _ _ _ u ix (slot k n) refl index_at)

  pub index-inside : datable k ≡ false → {j len : ℕ} → j ≡ slot k n → len ≡ size k → RecordIn d (get_or ix j 0) len
  index-inside u a b = rw (a, b) (held-inside k d _ _ _ u index_at)

  pub index-body-inside : {j len : ℕ} → j ≡ slot k n → len ≡ size k → BodyIn d (get_or ix j 0) len
  index-body-inside a b = rw (a, b) (held-body-inside k d _ _ _ i.known index_at)

  pub index-body : {j len : ℕ} → j ≡ slot k n → len ≡ size k → body_at d ix j len ≡ body (current k n l)
  unfolding body_at
  index-body a b = rw (a, b) (held-body k d _ _ _ i.known index_at)

  -- a slot that is not empty tells that there is one
  pub index-tells : ltb 0 (length (current k n l)) ≡ not (eqb (get_or ix (slot k n) 0) 0)
  index-tells = held_tells k d _ _ _ index_at

  pub index-none : get_or ix (slot k n) 0 ≡ 0 → current k n l ≡ []
  unfolding held_record
  index-none e = sym (h.holds k n i.low (key-test k n i) fit) ∙ rw e refl

  -- nor is there one where its slot lies in an empty range
  pub index-in-empty : (j m : ℕ) → slots_empty ix j m ≡ true → j ≤ slot k n → slot k n < j + m → current k n l ≡ []
  index-in-empty j m e a b = index-none (eqb-true (get_or ix (slot k n) 0) 0 (in-empty ix j m (slot k n) e a b))

-- ---- where slots are

module _ (ix : List ℕ) (roomy : short ≤ length ix) where
  -- every kind that every station may have has its slots in an index
  pub fits : (k n : ℕ) → InKey k n → early k ≡ true → slot k n < length ix
  fits k n i b = omega (arith, roomy, slot-short k n i b)

  -- and every kind but FP, if it is not a short one
  pub narrow-fits : narrow ≤ length ix → (k n : ℕ) → InKey k n → eqb k FP ≡ false → slot k n < length ix
  narrow-fits w k n i b = omega (arith, w, slot-narrow k n i b)

  -- and every kind, if the index has its slots
  pub covered : (k n : ℕ) → InKey k n → slots_for k ≤ length ix → slot k n < length ix
  covered k n i c =
      split (eqb k FP)
      (λ t. omega (arith, slot_lt k n i, rw t at c))
      (λ f.
      split (eqb k CH || eqb k LC)
      (λ t. narrow-fits (rw (f, t) at c) k n i f)
      (λ g. fits k n i (early-kind k i.low f g)))

-- ---- no key: no faultless record has it

module _ (k n : ℕ) where
  pub none-current : (c : List ℕ) {l : List (List ℕ)} → Each (λ r. matches k n r ≡ false) l → current_from k n c l ≡ c
  unfolding current_from better
  none-current c done = refl
  none-current c (also m e) = rw m (none-current c e)

  none-start : (c : List ℕ) (q p : ℕ) {l : List (List ℕ)} → Each (λ r. matches k n r ≡ false) l → start_from k n c q p l ≡ q
  unfolding start_from better
  none-start c q p done = refl
  none-start c q p (also {a = r} m e) = rw m (none-start c q (p + length r) e)

  pub unmatched : key_test k n ≡ false → {l : List (List ℕ)} → Each Good l → Each (λ r. matches k n r ≡ false) l
  unmatched f =
      each_map (λ r g. split (matches k n r) (λ m. absurd (true≢false (sym (key-test k n (subst (λ (x : ℕ). InKey x n) (matches-kind k n r m)
      (subst (λ (x : ℕ). InKey (kind r) x) (matches-key k n r m) (in-key r g.0)))) ∙ f))) (λ m. m))

-- a key without a slot in a complete index: no record has it
pub beyond-index : (d ix : List ℕ) → Complete d ix → (k n : ℕ) → length ix ≤ slot k n → current k n (records d) ≡ []
unfolding current
beyond-index d ix c k n b =
    none-current k n []
    (each_map (λ r x. split (matches k n r) (λ m. absurd (omega (arith, b, x, ap₂ slot (matches-kind k n r m) (matches-key k n r m)))) (λ m. m)) c)

-- ---- an index of all records

module _ (d ix : List ℕ) (h : Whole d ix) where
  pub whole-index : IndexOf (records d) d ix
  unfolding index_of
  whole-index = subst (λ (x : List ℕ). IndexOf (records d) d x) (sym h.here) (index-of d (length ix) h.clean h.short h.roomy)

  good : Each Good (records d)
  good = good-records d h.clean

  module _ (k n : ℕ) (i : InKey k n) (fit : slot k n < length ix) where
    holds : Holds k d (length d) (get_or ix (slot k n) 0) (current k n (records d)) (start_of k n (records d))
    unfolding index_of
    holds =
        subst (λ (x : List ℕ). Holds k d (length d) (get_or x (slot k n) 0) (current k n (records d)) (start_of k n (records d))) (sym h.here)
        (index-holds d (length ix) h.clean k n i fit)

    pub place-current : {j : ℕ} → j ≡ slot k n → record_part d (get_or ix j 0) ≡ current_part k n (records d)
    unfolding current_part
    place-current a = rw a (held-part k d _ _ _ holds)

    pub part-current : datable k ≡ false → {j len : ℕ} → j ≡ slot k n → len ≡ size k → part_at d ix j len ≡ current k n (records d)
    part-current = index-part whole-index good k n i fit

    pub slot-tells : ltb 0 (length (current k n (records d))) ≡ not (eqb (get_or ix (slot k n) 0) 0)
    slot-tells = index-tells whole-index good k n i fit

    pub current-in-empty : (j m : ℕ) → slots_empty ix j m ≡ true → j ≤ slot k n → slot k n < j + m → current k n (records d) ≡ []
    current-in-empty = index-in-empty whole-index good k n i fit

  module _ (k n : ℕ) (f : key_test k n ≡ false) where
    pub no_key : part 0 0 ≡ current_part k n (records d)
    unfolding current_part current start_of
    no_key =
        let e = unmatched k n f good in
        sym (ap₂ part (none-start k n [] 0 0 e) (ap length (none-current k n [] e)))

    no_bytes : [] ≡ current k n (records d)
    unfolding current
    no_bytes = sym (none-current k n [] (unmatched k n f good))

  -- ---- of every number

  module _ (k n : ℕ) (b : k < kinds) (c : slots_for k ≤ length ix) where
    at_key : key_test k n ≡ true → Holds k d (length d) (get_or ix (slot k n) 0) (current k n (records d)) (start_of k n (records d))
    at_key t = let i = test-key k n b t in holds k n i (covered ix h.roomy k n i c)

    pub current-bytes : part_bytes d (current_part k n (records d)) ≡ current k n (records d)
    unfolding part_bytes current_part
    current-bytes =
        split (key_test k n)
        (λ t. held_bytes k d (get_or ix (slot k n) 0) (current k n (records d)) (start_of k n (records d)) (at_key t))
        (λ f. ap (part_bytes d) (sym (no_key k n f)) ∙ no_bytes k n f)

    pub current-ends : {p : Part} → p ≡ current_part k n (records d) → p.start + p.length ≤ length d
    unfolding current_part
    current-ends e =
        rw e
        (split (key_test k n)
        (λ t. held-ends k d (get_or ix (slot k n) 0) (current k n (records d)) (start_of k n (records d)) (at_key t))
        (λ f. omega (arith, ap (λ (p : Part). p.start) (no_key k n f), ap (λ (p : Part). p.length) (no_key k n f))))

-- no record has a slot beyond the widest index
pub wide-up-to : (d : List ℕ) → scan 0 (records d) ≡ Accepted → UpTo d 6510
wide-up-to d h = each_map (λ r g. omega (arith, slot_lt (kind r) (key_of r) (in-key r g.0))) (good-records d h)

-- every record has a slot in an index of all slots
pub wide-complete : (d ix : List ℕ) → Whole d ix → wide ≤ length ix → Complete d ix
wide-complete d ix h w = each_map (λ r g. omega (arith, w, g)) (wide-up-to d h.clean)

-- ---- a key has no more bytes than its kind says

pub key-small : (k n : ℕ) → InKey k n → n < 256 ^ key_width k
unfolding Spans shape_of shape key_width key_in row_of table
key-small k n p =
    at-kind (λ j. InKey j n → n < 256 ^ key_width j) k n p (λ q. omega (arith, q.spans)) (λ q. omega (arith, q.spans)) (λ q. omega (arith, q.spans))
    (λ q. omega (arith, q.spans)) (λ q. omega (arith, q.spans)) (λ q. omega (arith, q.spans)) (λ q. omega (arith, q.spans)) (λ q. omega (arith, q.spans))
    (λ q. omega (arith, q.spans)) (λ q. omega (arith, q.spans)) (λ q. omega (arith, q.spans)) (λ q. omega (arith, q.spans)) p
