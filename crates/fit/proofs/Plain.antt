-- A dossier without first hours: its current records are read as they stand, and a record counts if it has the issue of the current one.
use mathlib.Core.Path.{◌≡◌, refl, ap, sym, ◌∙◌}
use mathlib.Core.Bool.{false}
use mathlib.Core.List.{List, []}
use Prim.Native.Nat.{ℕ, ◌+◌, ◌-◌, ◌≤◌, ◌<◌}
use native.Mathlib.Omega.{arith}
use lib.ListN.{length, get_or, take, drop, length-take, length-drop}
use borrow.Author.Tests.{ne_eqb, le-ltb}
use Rattle.lists.proofs.Lists.{member-each}
use Rattle.records.specs.Table.{table, row_of, kinds}
use Rattle.records.specs.Record.{mark, is_dated, kind, size}
use Rattle.records.specs.MarkShapes.{body}
use Rattle.records.specs.Dossier.{first_of, records}
use Rattle.records.proofs.Record.{mark-nil, mark-take, size-ge}
use Rattle.records.proofs.EveryMark.{mark-lt, kind-lt}
use Rattle.records.proofs.Dated.{plain-mark, body-plain}
use Rattle.station.specs.Current.{current}
use Rattle.station.specs.Declared.{CurrentOf, absent, standing}
use Rattle.station.proofs.Current.{current-found, each-current}
use Rattle.index.specs.Slots.{slot}
use Rattle.index.specs.Holding.{held_record, IndexOf}
use Rattle.index.proofs.KeyBounds.{InKey, key-test}
use Rattle.index.proofs.Holds.{Good, good-records}
use Rattle.lookup.specs.Parts.{part_bytes, place_in, place_at, part_at, Whole, held}
use Rattle.station.specs.InForce.{Undated}
use Rattle.lookup.proofs.Parts.{whole-index}
use Rattle.lookup.proofs.Held.{current-whole}

-- such a mark is a kind
pub plain-lt : (s : List ℕ) → is_dated (mark s) ≡ false → mark s < kinds
unfolding kind
plain-lt s e = rw (plain-mark s e) (kind-lt (mark s) (mark-lt s))

-- ---- the current records

none-dated : is_dated (mark []) ≡ false
unfolding is_dated row_of table
none-dated = rw mark-nil refl

module _ {d ix : List ℕ} (h : Whole d ix) (u : Undated d) (k n : ℕ) where
  pub plain-current : is_dated (mark (current k n (records d))) ≡ false
  plain-current = each-current {P = λ r. is_dated (mark r) ≡ false} k n none-dated u

  -- without its first hour the current record is what it is
  pub body-whole : body (current k n (held d ix)) ≡ current k n (records d)
  body-whole = ap body (current-whole h k n) ∙ body-plain (current k n (records d)) plain-current

  -- it stands where its slot says, as long as its kind says
  pub part-plain : InKey k n → slot k n < length ix → {j len : ℕ} → j ≡ slot k n → len ≡ size k → part_at d ix j len ≡ current k n (records d)
  unfolding part_at place_at part_bytes held_record first_of
  part-plain i fit a b =
      let x : IndexOf (records d) d ix = whole-index d ix h in
      rw (a, b)
      (go (get_or ix (slot k n) 0) (x.holds k n i.low (key-test k n i) fit) (x.none k n i.low (key-test k n i) fit) plain-current
      (current-found k n (records d)))
    where
      go : (v : ℕ) {c : List ℕ} → held_record d v ≡ c → (c ≡ [] → v ≡ 0) → is_dated (mark c) ≡ false → CurrentOf k n (records d) c
          → part_bytes d (place_in (length d) v (size k)) ≡ c
      go v is zeroed plain (absent p q) = rw (zeroed p, p) refl
      go v {c} is zeroed plain (standing q) =
          let g : Good c = member-each q.member (good-records d h.clean) in
          let s : List ℕ = drop (v - 1) d in
          let some : v ≡ 0 → ⊥ = λ z. omega (arith, g.1, size-ge (mark c), ap length (sym (rw z at is))) in
          let cut : take (size (mark s)) s ≡ c = rw (ne_eqb v 0 some) at is in
          let m : mark s ≡ mark c = sym (mark-take (size (mark s)) s (omega (arith, size-ge (mark s)))) ∙ ap mark cut in
          let z : size (mark s) ≡ size k = ap size (m ∙ plain-mark c plain ∙ q.marked) in
          let e : take (size k) s ≡ c = ap (λ (y : ℕ). take y s) (sym z) ∙ cut in
          let l : v - 1 + size k ≤ length d =
          omega (arith, ap length e, length-take (size k) s, length-drop (v - 1) d, g.1, ap size m, z, size-ge (mark c), some) in
          rw (ne_eqb v 0 some, le-ltb (length d) (v - 1 + size k) l) e
