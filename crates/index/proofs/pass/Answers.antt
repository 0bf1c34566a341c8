use borrow.Author.Rules.{rules}
use native.Mathlib.Omega.{arith}
use mathlib.Core.Path.{◌≡◌, refl, sym, ap, ap₂, subst, ◌∙◌}
use mathlib.Core.Bool.{Bool, true, false, ◌&&◌, ◌||◌, false≢true}
use mathlib.Core.List.{List}
use Prim.Native.Nat.{ℕ, ◌≤◌, ◌-◌}
use lib.ListN.{length, drop, take, length-drop}
use lib.Dec.{leb}
use Rattle.std.specs.Prelude.{Ok}
use borrow.Author.Tests.{leb-true, le-leb, eq-eqb}
use Rattle.lists.proofs.Tests.{and_left, and_right, or-true, or-false}
use Rattle.records.specs.Table.{CH}
use Rattle.records.specs.Record.{mark, fault, is_dated}
use Rattle.records.specs.MarkShapes.{begins}
use Rattle.records.specs.Dossier.{first_of}
use Rattle.records.proofs.Dossier.{first-mark}
use Rattle.records.specs.Walk.{Faulty}
use Rattle.records.proofs.Walk.{start, stop, end}
use Rattle.index.specs.declared.Entry.{Entry}
use Rattle.index.specs.Slots.{Kept, kept, keep_step, pass_of, slots_of}
use Rattle.index.specs.Entries.{fault_number, Reading, entry_as, reading_of}
use Rattle.index.specs.Intervals.{is_interval, HeldIn}
use Rattle.index.proofs.Turn.{tail, bounds, long, first_found, goes_on}
use Rattle.index.proofs.Entries.{FoundAs, entry_read, fault-found}
use Rattle.index.proofs.Intervals.{ch-letters}
use Rattle.index.proofs.HeldSums.{sums-beside}
use Rattle.index.proofs.pass.Goals as goal
use Rattle.index.proofs.pass.Goals.{Joined-sound, in-Undated, in-Dated}

pub loop-run-init : goal.loop-run-init
loop-run-init c = let p = c.requires in (search rules, refl, p.1, p.2, start _ _ _)

-- ---- the rest at a place of the dossier, as code has it

module _ (d : List ℕ) (at : ℕ) where
  abbrev rest : List ℕ
  rest = take (length d - at) (drop at d)

  -- a CH begins there
  begun : {b : Bool} → b ≡ leb 2 (length rest) && begins rest 67 72 → b ≡ true → (2 ≤ length rest) × (begins rest 67 72 ≡ true)
  begun e t =
      let z = sym e ∙ t in
      (leb-true 2 (length rest) (and_left (leb 2 (length rest)) _ z), and_right (leb 2 (length rest)) _ z)

  -- what is read there
  read_of : {r x : Reading} → r ≡ reading_of rest → r ≡ x → reading_of (drop at d) ≡ x
  read_of e g = sym (ap reading_of (tail d at)) ∙ sym e ∙ g

-- ---- a run of intervals

pub interval_fault-requires : goal.interval_fault-requires
interval_fault-requires c =
    let d = c.args.d.now in
    let at = c.loop-run.run.end in
    let h = begun d at c.begins_interval.ensures c.if-begins_interval.true in
    (h.0, h.1, ap is_interval (tail d at) ∙ c.intervals_from-next.ensures.3 c.if-next-at.true)

pub returns-then-next-at : goal.returns-then-next-at
unfolding pass_of slots_of
returns-then-next-at c =
    let d = c.args.d.now in
    let at = c.loop-run.run.end in
    let l = c.loop-run in
    let e = stop (keep_step d) (kept c.args.index.now true 0 false) d at _ _ c.loop-run-test.true l.invariant.4
    (fault-found (drop at d) _ (ap reading_of (sym (tail d at)) ∙ c.interval_fault.ensures) ∙ ap Faulty (sym c.from-number.ensures)) in
    (sym (ap pass_of e), sym (ap (slots_of _) e), c.intervals_from-next.ensures.2)

pub loop-run-preserved-then-begins_interval : goal.loop-run-preserved-then-begins_interval
loop-run-preserved-then-begins_interval c =
    let l = c.loop-run in
    let r = c.intervals_from-next in
    (r.ensures.1, omega (arith, r.auto, l.invariant.1), omega (arith, r.auto, l.invariant.2), r.ensures.2, r.ensures.4 _ _ l.invariant.4)

-- ---- any other record

pub returns-in-Err : goal.returns-in-Err
unfolding pass_of slots_of
returns-in-Err c =
    let d = c.args.d.now in
    let at = c.loop-run.run.end in
    let l = c.loop-run in
    let g = read_of d at c.read.ensures c.in-Err.is in
    let n = c.fault_of.ensures _ (ap reading_of (tail d at) ∙ g) in
    let e = stop (keep_step d) (kept c.args.index.now true 0 false) d at _ _ c.loop-run-test.true l.invariant.4
    (fault-found (drop at d) _ g ∙ ap Faulty (ap fault_number (sym n) ∙ sym c.from-number-in-Err.ensures)) in
    (sym (ap pass_of e), sym (ap (slots_of l.index) e), l.invariant.3)

-- it is without fault, with its entry, and noted if it has a first hour
record Its (s : List ℕ) (x : Entry) (was now : Bool) : Type 0 where
  clean : fault (first_of s) ≡ 0
  entry-is : x ≡ entry_as (mark s) s
  now-is : now ≡ was || is_dated (mark s)

module _ (d : List ℕ) (at : ℕ) {x : Entry} {was now : Bool} where
  noted : (e : Entry) (b : Bool) → x ≡ e → FoundAs b (drop at d) e → now ≡ was || b → Its (drop at d) x was now
  noted e b q z u =
      record { clean = z.0; entry-is = q ∙ z.1; now-is = u ∙ ap (λ (y : Bool). was || y) (sym z.2) }

  module _ (its : Its (drop at d) x was now) where
    its-length : (2 ≤ x.len) × (x.len ≤ length d - at)
    its-length =
        let e = first_found (drop at d) its.clean in
        let n = ap (λ (y : Entry). y.len) its.entry-is in
        (omega (arith, n, long _ _ _ e), omega (arith, n, bounds d at _ _ e))

    -- it is no CH
    no-interval : {b : Bool} → b ≡ leb 2 (length (rest d at)) && begins (rest d at) 67 72 → b ≡ false → mark (first_of (drop at d)) ≡ CH → ⊥
    no-interval g f e =
        let s = drop at d in
        let t : begins s 67 72 ≡ true = ch-letters s ∙ eq-eqb (mark s) CH (sym (first-mark s) ∙ e) in
        let u : leb 2 (length s) ≡ true = le-leb 2 (length s) (omega (arith, its-length, length-drop at d)) in
        false≢true (sym f ∙ g ∙ ap (λ (l : List ℕ). leb 2 (length l) && begins l 67 72) (tail d at) ∙ ap₂ (λ (x y : Bool). x && y) u t)

-- so the reader found it, whichever kind of record it is
its : (c : Joined-sound) → Its (drop c.loop-run.run.end c.args.d.now) c.match-sound.entry c.loop-run.dated c.match-sound.dated
its c =
    let d = c.args.d.now in
    let at = c.loop-run.run.end in
    let g = read_of d at c.read.ensures c.in-Ok.is in
    elim c.match-sound.branch [
      | in-Undated w ↦ noted d at w.in-Undated.entry false w.entry-is (entry_read (drop at d) false w.in-Undated.entry (g ∙ ap Ok w.in-Undated.is))
          (w.dated-is ∙ sym (or-false c.loop-run.dated))
      | in-Dated w ↦ noted d at w.in-Dated.entry true w.entry-is (entry_read (drop at d) true w.in-Dated.entry (g ∙ ap Ok w.in-Dated.is))
          (w.dated-is ∙ sym (or-true c.loop-run.dated))
    ]

pub keep-run-requires : goal.keep-run-requires
keep-run-requires c =
    let i = its (goal.at.keep-run-requires c).Joined-sound in
    (c.requires.0, i.clean, i.entry-is)

pub loop-run-smaller : goal.loop-run-smaller
loop-run-smaller c =
    let i = its (goal.at.loop-run-smaller c).Joined-sound in
    omega (arith, its-length c.args.d.now c.loop-run.run.end i, c.keep-run.ensures.0)

pub loop-run-preserved : goal.loop-run-preserved
loop-run-preserved c =
    let d = c.args.d.now in
    let at = c.loop-run.run.end in
    let l = c.loop-run in
    let i = its (goal.at.loop-run-preserved c).Joined-sound in
    let r = c.keep-run in
    let e = r.ensures.1 l.dated in (
      omega (arith, its-length d at i, r.ensures.0),
      omega (arith, r.auto, l.invariant.1),
      l.invariant.2,
      subst (λ (y : List ℕ). HeldIn d y l.sums) (sym (ap (λ (y : Kept). y.slots) e))
          (sums-beside l.invariant.3 l.run.rising l.run.top l.dated at (first_of (drop at d)) i.clean
          (no-interval d at i c.begins_interval.ensures c.if-begins_interval.false)),
      goes_on d at _ (kept l.index l.run.rising l.run.top l.dated) c.loop-run-test.true l.invariant.4 i.clean
          (ap (λ (y : Entry). y.len) i.entry-is) r.ensures.0 (ap (kept _ _ _) i.now-is ∙ e),
    )

pub returns : goal.returns
unfolding pass_of slots_of
returns c =
    let l = c.loop-run in
    let a = c.args in
    let e = end (keep_step a.d.now) (kept a.index.now true 0 false) a.d.now l.run.end
    (kept l.index l.run.rising l.run.top l.dated) c.loop-run-test.false l.invariant.4 in
    (sym (ap pass_of e), sym (ap (slots_of l.index) e), l.invariant.3)
