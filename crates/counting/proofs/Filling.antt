-- The turns of the loop that numbers the records.
use mathlib.Core.Path.{◌≡◌, refl, ap, sym, ◌∙◌}
use mathlib.Core.Bool.{Bool, true, false, ◌&&◌, ◌||◌, not}
use mathlib.Core.List.{List, [], ◌∷◌, ◌++◌, append-nil}
use Prim.Native.Nat.{ℕ, ◌+◌, ◌-◌, ◌≤◌, ◌<◌}
use native.Mathlib.Numerals.{add-one}
use native.Mathlib.Omega.{arith}
use lib.Dec.{ltb}
use lib.ListN.{length, get_or, take, drop, set, length-drop}
use lib.Seq.{append_snoc, take-suc-set, take-set-le}
use borrow.Author.Tests.{le-ltb}
use mir.Val.{bool_byte}
use Rattle.lists.specs.Lists.{Each, done, also}
use Rattle.lists.proofs.Lists.{each_both}
use Rattle.fields.specs.Numbers.{number}
use Rattle.records.specs.Record.{mark, kind, key_of, size, issue, since, fault}
use Rattle.records.specs.MarkShapes.{shortest}
use Rattle.records.specs.Dossier.{first_of, records}
use Rattle.records.proofs.Record.{faultless, size-ge}
use Rattle.records.proofs.EveryMark.{mark-lt, size-least}
use Rattle.records.proofs.Read.{number-take}
use Rattle.records.proofs.Dossier.{scan-each}
use Rattle.records.proofs.Over.{tail, Over, begins, ends, its-known, its-fault, its-mark, its-length, its-found, within, goes_on}
use Rattle.index.specs.Slots.{slot, slot_at}
use Rattle.index.proofs.KeyBounds.{in-key}
use Rattle.index.proofs.Turn.{its-slot}
use Rattle.lookup.specs.Parts.{Whole, Complete}
use Rattle.trials.specs.Trials.{valued}
use Rattle.counting.specs.Sweep.{hidden, shown, hides_at, hidden_at, group, group_at, packed, ids_from, place_in, record_at, Numbered}
use Rattle.counting.proofs.Least.{each_append}
use Rattle.counting.proofs.Group.{its-group, group-lt}
use Rattle.counting.proofs.Loops.{since-first}
use Rattle.counting.proofs.Held.{valued-size, hides-is}

-- a record without fault, for which the index has a slot
abbrev Sane : List ℕ → List ℕ → Type 0
Sane ix r = (fault r ≡ 0) × (slot (kind r) (key_of r) < length ix)

sane : (ix r : List ℕ) → Sane ix r → fault r ≡ 0
sane ix r e = e.0

abbrev numbered : Bool → List ℕ → List ℕ → ℕ → List (List ℕ) → List ℕ
numbered all d seen p l = seen ++ ids_from (shown all (records d)) p l

-- a test as a number
pub one-high : (b : Bool) → bool_byte b ≤ 1
one-high true = omega arith
one-high false = omega arith

-- the numbers of the records before place p
abbrev pub Filling : Bool → List ℕ → List ℕ → List ℕ → ℕ → Type 0
Filling all d ix seen p = Over (Sane ix) (numbered all d) [] d p seen × Each (Numbered d) seen

pub fill-first : (all : Bool) (d ix : List ℕ) → Whole d ix → Complete d ix → Filling all d ix [] 0
fill-first all d ix h c = (begins (each_both (scan-each 0 (records d) h.clean) c), done)

pub fill-last : (all : Bool) (d ix seen : List ℕ) (p : ℕ) → length d ≤ p → Filling all d ix seen p → seen ≡ ids_from (shown all (records d)) 0 (records d)
unfolding ids_from
fill-last all d ix seen p h o = sym (append-nil seen) ∙ ends h o.0

module _ (all : Bool) (d ix a : List ℕ) (count p : ℕ) (h : p < length d) (o : Filling all d ix (take count a) p)
    {k n : ℕ} (ek : k ≡ mark (take (length d - p) (drop p d)))
    (en : n ≡ size k) where
  n-is : n ≡ size (mark (take (length d - p) (drop p d)))
  n-is = en ∙ ap size ek

  abbrev r : List ℕ
  r = take n (drop p d)

  abbrev s : List ℕ
  s = drop p d

  clean : fault r ≡ 0
  clean = its-fault (sane ix) h o.0 n-is

  same : mark r ≡ mark s
  same = its-mark (sane ix) h o.0 n-is

  size_is : n ≡ size (mark s)
  size_is = n-is ∙ ap (λ (x : List ℕ). size (mark x)) (tail d p)

  k-is : k ≡ mark s
  k-is = ek ∙ ap mark (tail d p)

  pub fill-within : (shortest ≤ n) × (n ≤ length d - p)
  fill-within =
      let f = faultless r clean in
      (rw (size_is, ← same) (size-least (mark r) f.known (mark-lt r)), (within (sane ix) h o.0 n-is).1)

  slot_is : slot (kind r) (key_of r) ≡ slot_at (mark s) s
  slot_is = its-slot s (mark s) n (its-found (sane ix) h o.0 n-is)

  pub fill-slot : slot_at k (take (length d - p) (drop p d)) < length ix
  fill-slot = rw (k-is, tail d p, ← slot_is) (its-known (sane ix) h o.0 n-is).1

  module _ {g : ℕ} (eg : g ≡ group_at k (take (length d - p) (drop p d))) where
    group-is : g ≡ group (kind r) (key_of r)
    group-is =
        eg ∙ ap (λ (j : ℕ). group_at j (take (length d - p) (drop p d))) ek ∙ ap (λ (x : List ℕ). group_at (mark x) x) (tail d p)
        ∙ sym (its-group s n size_is same)

    pub fill-low : g < 65536
    fill-low = rw group-is (group-lt (kind r) (key_of r) (in-key r clean))

    module _ {i : ℕ} (ei : i ≡ number 2 4 (take (length d - p) (drop p d))) (li : i < 4294967296) where
      issue-here : number 2 4 s ≡ issue r
      unfolding issue
      issue-here = sym (number-take n 2 4 s (omega (arith, size_is, size-ge (mark s))))

      issue-is : i ≡ issue r
      issue-is = ei ∙ ap (number 2 4) (tail d p) ∙ issue-here

      since-here : since s ≡ since r
      unfolding first_of
      since-here = sym (since-first s) ∙ ap (λ (m : ℕ). since (take m s)) (sym size_is)

      -- what code sees of it is whether it is shown
      module _ (whole : Whole d ix) {b : Bool} (eb : b ≡ hidden_at d ix k (take (length d - p) (drop p d))) where
        hidden-is : hidden_at d ix (mark s) s ≡ valued (mark r) && hidden (records d) r
        unfolding hidden_at
        hidden-is = rw same (go (valued (mark s)) refl)
          where
            long : valued (mark s) ≡ true → 15 ≤ length s
            long v =
                omega (arith, valued-size (mark s) (mark-lt s) v, size_is, (within (sane ix) h o.0 n-is).1, length-drop p d)

            go : (v : Bool) → valued (mark s) ≡ v → not (not v || ltb (length s) 15) && hides_at d (get_or ix (slot_at (mark s) s) 0) s
                ≡ v && hidden (records d) r
            go true v =
                rw (le-ltb (length s) 15 (long v), ← slot_is)
                (hides-is d ix whole r s clean (its-known (sane ix) h o.0 n-is).1 (rw same v) issue-here since-here)
            go false v = refl

        module _ {v : Bool} (ev : v ≡ valued k) where
          shown-is : shown all (records d) r ≡ (all || v) && not b
          unfolding shown
          shown-is =
              let x : v ≡ valued (mark r) = ev ∙ ap valued (k-is ∙ sym same) in
              let y : b ≡ valued (mark r) && hidden (records d) r =
              eb ∙ ap (λ (j : ℕ). hidden_at d ix j (take (length d - p) (drop p d))) ek ∙ ap (λ (x : List ℕ). hidden_at d ix (mark x) x) (tail d p) ∙ hidden-is in
              rw (x, y) refl

          pub fill-next : count < length a → length d ≤ 60000
              → Filling all d ix (take (count + bool_byte ((all || v) && not b)) (set a count (packed g i p))) (p + n)
          fill-next room short = by ((all || v) && not b) shown-is
            where
              place : place_in (packed g i p) ≡ p
              place = omega arith

              there : record_at d (packed g i p) ≡ r
              there = unfold record_at first_of in rw (place, size_is) refl

              numbers : Numbered d (packed g i p)
              numbers =
                  record {
                    clean = rw there clean;
                    inside = omega arith;
                    narrow = rw (there, ← issue-is) li;
                    number = rw (there, place, ← group-is, ← issue-is) refl;
                  }

              one : shown all (records d) r ≡ true → (l : List (List ℕ)) → take count a ++ ids_from (shown all (records d)) p (r ∷ l)
                  ≡ take count a ++ (packed g i p ∷ []) ++ ids_from (shown all (records d)) (p + n) l
              one e l = unfold ids_from in rw (e, group-is, issue-is, its-length (sane ix) h o.0 n-is)
                  (sym (append_snoc (take count a) _ (ids_from (shown all (records d)) (p + n) l)))

              none : shown all (records d) r ≡ false → (l : List (List ℕ)) → take count a ++ ids_from (shown all (records d)) p (r ∷ l)
                  ≡ take count a ++ ids_from (shown all (records d)) (p + n) l
              none e l = unfold ids_from in rw (e, its-length (sane ix) h o.0 n-is) refl

              by : (c : Bool) → shown all (records d) r ≡ c → Filling all d ix (take (count + bool_byte c) (set a count (packed g i p))) (p + n)
              by true e =
                  rw (add-one count, take-suc-set a count (packed g i p) room)
                  (goes_on (sane ix) h o.0 n-is (one e _), each_append o.1 (also numbers done))
              by false e =
                  let z : count + 0 ≡ count = omega arith in
                  rw (z, take-set-le count a count (packed g i p) (omega arith)) (goes_on (sane ix) h o.0 n-is (none e _), o.1)
