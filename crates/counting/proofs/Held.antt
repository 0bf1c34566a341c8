-- The current record through the index, and what it hides.
use mathlib.Core.Path.{◌≡◌, refl, ap, sym, ◌∙◌}
use mathlib.Core.Bool.{Bool, true, false, cond, ◌&&◌, ◌||◌, not, false≢true}
use mathlib.Core.List.{List, []}
use Prim.Native.Nat.{ℕ, ◌+◌, ◌-◌, ◌≤◌, ◌<◌}
use native.Mathlib.Omega.{arith}
use lib.Dec.{leb, ltb, eqb}
use lib.ListN.{length, get_or, take, drop, length-take, length-drop}
use borrow.Author.Tests.{eqb-false, ne_eqb, le-ltb, ltb-false}
use Rattle.lists.specs.Tests.{all_below}
use Rattle.lists.proofs.Lists.{member-each}
use Rattle.lists.proofs.Tests.{below_at, or-false-left, or-false-right}
use Rattle.fields.specs.Numbers.{number}
use Rattle.fields.proofs.Numbers.{number-nil}
use Rattle.records.specs.Table.{table, row_of, marks}
use Rattle.records.specs.Record.{mark, is_dated, kind_of, kind, fields_at, widths, size, key_of, issue, since, fault}
use Rattle.records.specs.Dossier.{first_of, records}
use Rattle.records.proofs.Record.{size-ge, mark-take}
use Rattle.records.proofs.EveryMark.{mark-lt}
use Rattle.records.proofs.Read.{number-take}
use Rattle.station.specs.Current.{current}
use Rattle.station.specs.Declared.{CurrentOf, absent, standing}
use Rattle.station.proofs.Current.{current-found}
use Rattle.index.specs.Slots.{slot, slot_at}
use Rattle.index.specs.Holding.{held_record, IndexOf}
use Rattle.index.proofs.KeyBounds.{InKey, in-key, key-test}
use Rattle.index.proofs.Holds.{Good, good-records}
use Rattle.lookup.specs.Parts.{Whole}
use Rattle.lookup.proofs.Parts.{whole-index}
use Rattle.trials.specs.Trials.{valued}
use Rattle.counting.specs.Sweep.{hidden, hides_at, hidden_at}
use Rattle.counting.proofs.Loops.{since-first}

-- ---- an FU or MM, with a first hour or without, takes 15 bytes at least

long_test : ℕ → Bool
long_test k = not (valued k) || not (ltb (size k) 15)

pub valued-size : (k : ℕ) → k < marks → valued k ≡ true → 15 ≤ size k
unfolding long_test
valued-size k l v =
    let e : not (ltb (size k) 15) ≡ true = rw v at (below_at marks long_test
    (unfold long_test all_below valued size fields_at widths kind_of is_dated row_of table in refl) k l) in
    go (ltb (size k) 15) refl e
  where
    go : (b : Bool) → ltb (size k) 15 ≡ b → not b ≡ true → 15 ≤ size k
    go true w e = absurd (false≢true e)
    go false w e = ltb-false (size k) 15 w

since-take : (n : ℕ) (s : List ℕ) → 10 ≤ n → since (take n s) ≡ since s
unfolding since
since-take n s h = rw (mark-take n s (omega arith)) (go (is_dated (mark s)))
  where
    go : (b : Bool) → cond b (number 6 4 (take n s)) 0 ≡ cond b (number 6 4 s) 0
    go true = number-take n 6 4 s (omega arith)
    go false = refl

first-cut : (s : List ℕ) {c : List ℕ} → first_of s ≡ c → take (size (mark s)) s ≡ c
unfolding first_of
first-cut s e = e

issue-cut : (n : ℕ) (s : List ℕ) {c : List ℕ} → 6 ≤ n → take n s ≡ c → number 2 4 s ≡ issue c
unfolding issue
issue-cut n s h e = sym (number-take n 2 4 s h) ∙ ap (number 2 4) e

-- ---- what code reads of it

pub hides-within : (d : List ℕ) (v : ℕ) → eqb v 0 || ltb (length d) (v + 14) ≡ false → (1 ≤ v) × (v + 14 ≤ length d)
hides-within d v e =
    let some : v ≡ 0 → ⊥ = eqb-false v 0 (or-false-left (eqb v 0) (ltb (length d) (v + 14)) e) in
    (omega (arith, some), ltb-false (length d) (v + 14) (or-false-right (eqb v 0) (ltb (length d) (v + 14)) e))

pub hides-at : (d s : List ℕ) (v : ℕ) → eqb v 0 || ltb (length d) (v + 14) ≡ false → {x y a b : ℕ} → x ≡ number 2 4 s
    → y ≡ number 2 4 (take (v + 14 - (v - 1)) (drop (v - 1) d)) → a ≡ since (take (v + 14 - (v - 1)) (drop (v - 1) d)) → b ≡ since s
    → ltb x y && leb a b ≡ hides_at d v s
unfolding hides_at
hides-at d s v e ex ey ea eb =
    let n : v + 14 - (v - 1) ≡ 15 = omega (arith, hides-within d v e) in
    rw (e, ex, ey, ea, eb, n) refl

module _ (d ix : List ℕ) (k : ℕ) (s : List ℕ) {b : Bool} (eb : b ≡ valued k) where
  pub unasked : not b || ltb (length s) 15 ≡ true → false ≡ hidden_at d ix k s
  unfolding hidden_at
  unasked e = rw (← eb, e) refl

  pub looked : not b || ltb (length s) 15 ≡ false → {j : ℕ} → j ≡ slot_at k s → {x : Bool} → x ≡ hides_at d (get_or ix j 0) s → x ≡ hidden_at d ix k s
  unfolding hidden_at
  looked e ej ex = rw (← eb, e, ← ej) ex

-- ---- what a slot holds hides what the current record does

module _ (d ix : List ℕ) (h : Whole d ix) (r s : List ℕ) (f : fault r ≡ 0) (below : slot (kind r) (key_of r) < length ix) (v : valued (mark r) ≡ true)
    (ei : number 2 4 s ≡ issue r) (es : since s ≡ since r) where
  abbrev c : List ℕ
  c = current (kind r) (key_of r) (records d)

  kept-kind : (c : List ℕ) → kind c ≡ kind r → valued (mark c) ≡ true
  unfolding valued kind
  kept-kind c e = rw e v

  -- w being the slot's value
  held-hides : (w : ℕ) {c : List ℕ} → held_record d w ≡ c → (c ≡ [] → w ≡ 0) → CurrentOf (kind r) (key_of r) (records d) c
      → hides_at d w s ≡ ltb (issue r) (issue c) && leb (since c) (since r)
  unfolding hides_at held_record
  held-hides w is zeroed (absent p q) =
      rw (zeroed p, p, nil-issue, le-ltb (issue r) 0 (omega arith)) refl
    where
      nil-issue : issue [] ≡ 0
      nil-issue = unfold issue in number-nil 2 4
  held-hides w {c} is zeroed (standing q) =
      let g : Good c = member-each q.member (good-records d h.clean) in
      let long : 15 ≤ length c = omega (arith, g.1, valued-size (mark c) (mark-lt c) (kept-kind c q.marked)) in
      let s' : List ℕ = drop (w - 1) d in
      let some : w ≡ 0 → ⊥ = λ z. omega (arith, long, ap length (sym (rw z at is))) in
      let cut : first_of s' ≡ c = rw (ne_eqb w 0 some) at is in
      let taken : take (size (mark s')) s' ≡ c = first-cut s' cut in
      let room : w + 14 ≤ length d = omega (arith, long, ap length taken, length-take (size (mark s')) s', length-drop (w - 1) d, some) in
      let i : number 2 4 (take 15 s') ≡ issue c = number-take 15 2 4 s' (omega arith) ∙ issue-cut (size (mark s')) s' (size-ge (mark s')) taken in
      let u : since (take 15 s') ≡ since c = since-take 15 s' (omega arith) ∙ sym (since-first s') ∙ ap since cut in
      rw (ne_eqb w 0 some, le-ltb (length d) (w + 14) room, i, u, ei, es) refl

  pub hides-is : hides_at d (get_or ix (slot (kind r) (key_of r)) 0) s ≡ hidden (records d) r
  unfolding hidden
  hides-is =
      let x : IndexOf (records d) d ix = whole-index d ix h in
      let i : InKey (kind r) (key_of r) = in-key r f in
      held-hides (get_or ix (slot (kind r) (key_of r)) 0) (x.holds (kind r) (key_of r) i.low (key-test (kind r) (key_of r) i) below)
      (x.none (kind r) (key_of r) i.low (key-test (kind r) (key_of r) i) below) (current-found (kind r) (key_of r) (records d))
