-- 6 record by record: the loop over the records.
use mathlib.Core.Path.{◌≡◌, refl, ap, ap₂, sym, ◌∙◌}
use mathlib.Core.Bool.{Bool, true, false, ◌&&◌, not}
use mathlib.Core.List.{List}
use Prim.Native.Nat.{ℕ, zero, suc, ◌+◌, ◌-◌, ◌*◌, ◌^◌, ◌≤◌, ◌<◌}
use native.Mathlib.Nat.{pow-suc}
use native.Mathlib.Numerals.{add-one}
use native.Mathlib.Omega.{arith}
use lib.Dec.{eqb, lit≤}
use lib.ListN.{length, get_or, take, drop}
use Rattle.lists.proofs.Lists.{each_map, each_both}
use Rattle.lists.proofs.Tests.{and-true}
use Rattle.fields.specs.Numbers.{number}
use Rattle.records.specs.declared.MarkShape.{MarkShape}
use Rattle.records.specs.MarkShapes.{shape_of}
use Rattle.records.specs.Record.{mark, is_dated, kind, size, issue, key_width, key_of, fault}
use Rattle.records.specs.Answers.{Accepted, Answer, or_else, refuse_if, Refused}
use Rattle.records.specs.Dossier.{records, first_drawn}
use Rattle.records.proofs.Record.{size-ge}
use Rattle.records.proofs.MarkShapes.{shape-width}
use Rattle.records.proofs.Dated.{undated-at, plain-mark}
use Rattle.records.proofs.Dossier.{scan-each}
use Rattle.records.proofs.Read.{number-take}
use Rattle.records.proofs.Over.{tail, Over, begins, ends, its-known, its-fault, its-mark, its-length as record-length, its-found, within, answers}
use Rattle.records.proofs.Over.{goes_on as Goes-over}
use Rattle.station.specs.Current.{current}
use Rattle.station.specs.InForce.{counts}
use Rattle.index.specs.Slots.{slot_at, slot}
use Rattle.index.proofs.KeyBounds.{in-key}
use Rattle.index.proofs.Turn.{its-slot as found-slot}
use Rattle.lookup.specs.Parts.{part_at, Whole, Complete}
use Rattle.station.specs.InForce.{Undated}
use Rattle.rules.specs.Fit.{fits, unfit}
use Rattle.trials.proofs.Laws.{fits-take}
use Rattle.fit.specs.BySlots.{not_fit}
use Rattle.station.proofs.Undated.{undated-counts}
use Rattle.fit.proofs.Plain.{part-plain}

-- ---- the loop over the records

pub fit-passes : (d ix s : List ℕ) (f : Bool) → f ≡ true → false ≡ not_fit d ix s f
unfolding not_fit
fit-passes d ix s f e = rw e (go (eqb (number 2 4 s) (number 2 4 (part_at d ix (slot_at (mark s) s) (size (mark s))))))
  where
    go : (b : Bool) → false ≡ b && false
    go true = refl
    go false = refl

-- the key of a record, by its width

-- the key so far, and one byte more
pub key-most : (i : ℕ) → i < 4 → 256 ^ i ≤ 16777216
key-most zero h = lit≤ tt
key-most (suc zero) h = lit≤ tt
key-most (suc (suc zero)) h = lit≤ tt
key-most (suc (suc (suc zero))) h = lit≤ tt
key-most (suc (suc (suc (suc i)))) h = absurd (omega arith)

pub key-next : (s : List ℕ) (i : ℕ) {k b : ℕ} → k ≡ number 6 i s → k < 256 ^ i → b ≡ get_or s (6 + i) 0 → b < 256
    → (k * 256 + b ≡ number 6 (i + 1) s) × (k * 256 + b < 256 ^ (i + 1))
unfolding number
key-next s i e l f m = rw (add-one i, pow-suc) (rw (e, f) refl, omega (arith, l, m))

-- the slot of a record, by the row of its mark
pub slot-here : (s : List ℕ) → is_dated (mark s) ≡ false → {k n j : ℕ} {m : MarkShape} → k ≡ mark s → m ≡ shape_of k → n ≡ number 6 m.width s → j ≡ slot k n
    → j ≡ slot_at (mark s) s
unfolding slot_at kind
slot-here s u {k = k} {m = m} ek em en ej =
    ej ∙ ap (slot k) (en ∙ ap (λ (w : ℕ). number 6 w s) (shape-width k em)) ∙ ap (λ (x : ℕ). slot x (number 6 (key_width x) s)) ek
    ∙ ap₂ (λ (x y : ℕ). slot x (number y (key_width (mark s)) s)) (plain-mark s u) (sym (undated-at (mark s) u))

pub unfit-current : (d ix s : List ℕ) (f : Bool) → f ≡ false → {a b j n : ℕ} {part : List ℕ} → j ≡ slot_at (mark s) s → n ≡ size (mark s)
    → part ≡ part_at d ix j n → a ≡ number 2 4 s → b ≡ number 2 4 part → eqb a b ≡ not_fit d ix s f
unfolding not_fit
unfit-current d ix s f e ej en p q r =
    rw (e, q, r, p, ej, en, and-true (eqb (number 2 4 s) (number 2 4 (part_at d ix (slot_at (mark s) s) (size (mark s)))))) refl

-- 6 from a place on; there is no state
abbrev sought : ℕ → List (List ℕ) → ℕ → ℕ → List (List ℕ) → Answer
sought t all _ p l = first_drawn (λ q r. refuse_if (counts all r && not (fits t (mark r) r)) 6 q) p l

-- a record without fault and first hour, for which the index has a slot
abbrev Slotted : List ℕ → List ℕ → Type 0
Slotted ix r = (fault r ≡ 0) × (slot (kind r) (key_of r) < length ix) × (is_dated (mark r) ≡ false)

slotted-clean : (ix r : List ℕ) → Slotted ix r → fault r ≡ 0
slotted-clean ix r e = e.0

-- at place p of the loop
abbrev pub Left : ℕ → List ℕ → List ℕ → ℕ → Type 0
Left t d ix p = Over (Slotted ix) (sought t (records d)) 0 d p 0

pub begin : (t : ℕ) (d ix : List ℕ) → Whole d ix → Complete d ix → Undated d → Left t d ix 0
begin t d ix h c u = begins (each_map (λ r e. (e.0, e.1.0, e.1.1)) (each_both (scan-each 0 (records d) h.clean) (each_both c u)))

pub finish : (t : ℕ) (d ix : List ℕ) (p : ℕ) → length d ≤ p → Left t d ix p → Accepted ≡ unfit t (records d)
unfolding first_drawn unfit
finish t d ix p h left = ends h left

module _ (t : ℕ) (d ix : List ℕ) (h : Whole d ix) (u : Undated d) (p : ℕ) (inside : p < length d) (left : Left t d ix p) {n : ℕ}
    (en : n ≡ size (mark (take (length d - p) (drop p d)))) where
  abbrev r : List ℕ
  r = take n (drop p d)

  abbrev s : List ℕ
  s = drop p d

  pub its-length : (1 ≤ n) × (n ≤ length d - p)
  its-length = within (slotted-clean ix) inside left en

  clean : fault r ≡ 0
  clean = its-fault (slotted-clean ix) inside left en

  n-is : n ≡ size (mark s)
  n-is = en ∙ ap (λ (x : List ℕ). size (mark x)) (tail d p)

  its-slot : slot (kind r) (key_of r) ≡ slot_at (mark s) s
  its-slot = found-slot s (mark s) n (its-found (slotted-clean ix) inside left en)

  pub slot-below : slot_at (mark (take (length d - p) s)) (take (length d - p) s) < length ix
  slot-below = rw (tail d p, ← its-slot) (its-known (slotted-clean ix) inside left en).1

  plain : is_dated (mark r) ≡ false
  plain = (its-known (slotted-clean ix) inside left en).2

  pub no-hour : is_dated (mark (take (length d - p) s)) ≡ false
  no-hour = rw (tail d p, ← its-mark (slotted-clean ix) inside left en) plain

  module _ {b f : Bool} (ef : f ≡ fits t (mark (take (length d - p) s)) (take (length d - p) s)) (eb : b ≡ not_fit d ix (take (length d - p) s) f) where
    part-is : part_at d ix (slot_at (mark s) s) (size (mark s)) ≡ current (kind r) (key_of r) (records d)
    part-is =
        part-plain h u (kind r) (key_of r) (in-key r clean) (its-known (slotted-clean ix) inside left en).1 (sym its-slot)
        (ap size (sym (its-mark (slotted-clean ix) inside left en) ∙ plain-mark r plain))

    test : b ≡ counts (records d) r && not (fits t (mark r) r)
    unfolding issue not_fit
    test =
        let v : f ≡ fits t (mark r) r =
        ef ∙ ap (λ (x : List ℕ). fits t (mark x) x) (tail d p) ∙ sym (fits-take t (mark s) s) ∙ ap (λ (m : ℕ). fits t (mark s) (take m s)) (sym n-is)
        ∙ ap (λ (k : ℕ). fits t k r) (sym (its-mark (slotted-clean ix) inside left en)) in
        eb ∙ rw (undated-counts u r, tail d p, part-is, v, number-take n 2 4 s (omega (arith, n-is, size-ge (mark s)))) refl

    pub refuses : b ≡ true → Refused 6 p ≡ unfit t (records d)
    unfolding first_drawn or_else refuse_if unfit
    refuses e = answers (slotted-clean ix) inside left en (rw (sym test ∙ e) refl)

    pub goes_on : b ≡ false → Left t d ix (p + n)
    unfolding first_drawn or_else refuse_if
    goes_on e = Goes-over (slotted-clean ix) inside left en (rw (sym test ∙ e, record-length (slotted-clean ix) inside left en) refl)
