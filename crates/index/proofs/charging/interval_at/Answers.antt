use mathlib.Core.Path.{◌≡◌, ap, ap₂, sym, ◌∙◌}
use mathlib.Core.Bool.{Bool, ◌&&◌}
use mathlib.Core.List.{List}
use Prim.Native.Nat.{ℕ, ◌+◌, ◌-◌, ◌≤◌}
use native.Mathlib.Omega.{arith}
use lib.Dec.{leb, eqb}
use lib.ListN.{length, take, drop, length-drop}
use lib.Seq.{get_or-take}
use Rattle.fields.specs.Numbers.{number, biased}
use Rattle.records.specs.MarkShapes.{begins}
use Rattle.records.proofs.Read.{number-take}
use Rattle.index.specs.Intervals.{is_interval}
use Rattle.index.proofs.Intervals.{interval-tests, interval-read, interval-unread, interval-cut}
use Rattle.index.proofs.charging.interval_at.Goals as goal

module _ (d : List ℕ) (at : ℕ) where
  -- a part of the rest, as long as the record
  abbrev part : List ℕ
  part = take (at + 16 - at) (drop at d)

  -- says what the rest says
  part_says : (o w : ℕ) → o + w ≤ 16 → number o w part ≡ number o w (drop at d)
  part_says o w h = number-take (at + 16 - at) o w (drop at d) (omega arith)

  part-begins : begins part 67 72 ≡ begins (drop at d) 67 72
  part-begins =
      ap₂ (λ (x y : ℕ). eqb x 67 && eqb y 72) (get_or-take (at + 16 - at) (drop at d) 0 0 (omega arith))
      (get_or-take (at + 16 - at) (drop at d) 1 0 (omega arith))

  -- what was read of it
  its-n : {n : ℕ} → n ≡ number 6 2 part → n ≡ number 6 2 (drop at d)
  its-n e = e ∙ part_says 6 2 (omega arith)

  its-price : {x p : ℕ} → p ≡ biased x → x ≡ number 8 4 part → p ≡ biased (number 8 4 (drop at d))
  its-price e f = e ∙ ap biased (f ∙ part_says 8 4 (omega arith))

  its-energy : {e : ℕ} → e ≡ number 12 4 part → e ≡ number 12 4 (drop at d)
  its-energy e = e ∙ part_says 12 4 (omega arith)

  tests : {known : Bool} {n p e : ℕ} → at + 16 ≤ length d → known ≡ begins part 67 72 → n ≡ number 6 2 (drop at d) → p ≡ biased (number 8 4 (drop at d))
      → e ≡ number 12 4 (drop at d)
      → known && leb 1 n && leb n 2016 && (leb 2147283648 p && leb p 2147683648 && leb e 1000000) ≡ is_interval (drop at d)
  tests long ek en ep ee =
      interval-tests (drop at d) (omega (arith, length-drop at d, long)) (ek ∙ part-begins) (ap (leb 1) en) (ap (λ (x : ℕ). leb x 2016) en)
      (ap (leb 2147283648) ep) (ap (λ (x : ℕ). leb x 2147683648) ep) (ap (λ (x : ℕ). leb x 1000000) ee)

pub returns-then-known-n : goal.returns-then-known-n
returns-then-known-n c =
    let d = c.args.d.now in
    let at = c.args.at in
    let n = its-n d at c.u16_at-n.ensures in
    let p = its-price d at c.biased-price.ensures c.u32_at.ensures in
    let e = its-energy d at c.u32_at-energy.ensures in
    interval-read d at (sym (tests d at c.if-at-d.true c.begins_with-known.ensures n p e) ∙ c.if-known-n.true) n
    (c.u32_at-then-known-n.ensures ∙ part_says d at 2 4 (omega arith)) p e

pub returns-else-known-n : goal.returns-else-known-n
returns-else-known-n c =
    let d = c.args.d.now in
    let at = c.args.at in
    let n = its-n d at c.u16_at-n.ensures in
    let p = its-price d at c.biased-price.ensures c.u32_at.ensures in
    let e = its-energy d at c.u32_at-energy.ensures in
    interval-unread d at (sym (tests d at c.if-at-d.true c.begins_with-known.ensures n p e) ∙ c.if-known-n.false)

pub returns-else-at-d : goal.returns-else-at-d
returns-else-at-d c =
    let a = c.args in
    interval-unread a.d.now a.at (interval-cut (drop a.at a.d.now) (omega (arith, length-drop a.at a.d.now, c.if-at-d.false, c.requires)))
