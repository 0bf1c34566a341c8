use mathlib.Core.Path.{◌≡◌, refl, ap, sym, ◌∙◌}
use Prim.Native.Nat.{ℕ, ◌+◌, ◌-◌}
use native.Mathlib.Omega.{arith}
use lib.IntN.{ℤ}
use lib.ListN.{get_or, set}
use mir.Syntax.{w32}
use mir.Val.{SFits}
use mir.Facts.{to_z-of_z}
use borrow.Author.Tests.{eq-eqb, ne_eqb}
use Rattle.records.specs.Table.{CH}
use Rattle.index.specs.Slots.{slot}
use Rattle.week.proofs.Signed.{cents-fit}
use Rattle.week.proofs.put_interval.Goals as goal

pub offset_bounds-index-slot_ch : goal.offset_bounds-index-slot_ch
unfolding slot
offset_bounds-index-slot_ch c = omega (arith, c.slot_ch.ensures, c.requires.3)

pub bounds-index-slot_ch : goal.bounds-index-slot_ch
unfolding slot
bounds-index-slot_ch c = let p = c.requires in omega (arith, c.slot_ch.ensures, p.0, p.3)

pub returns-then-index-slot_ch : goal.returns-then-index-slot_ch
returns-then-index-slot_ch c =
    let a = c.args in
    let e : get_or a.index.now (slot CH a.i.n) 0 ≡ a.at + 1 = ap (λ (j : ℕ). get_or a.index.now j 0) (sym
    c.slot_ch.ensures) ∙ c.if-index-slot_ch.true in
    let f : SFits w32 c.cents.result = rw c.cents.ensures (cents-fit a.i.price
    c.requires.4) in
    rw (eq-eqb (get_or a.index.now (slot CH a.i.n) 0) (a.at + 1) e)
    (ap (λ (x : ℤ). set a.prices.now (a.i.n - 1) x) (to_z-of_z f ∙ c.cents.ensures), refl)

pub returns-else-index-slot_ch : goal.returns-else-index-slot_ch
returns-else-index-slot_ch c =
    let a = c.args in
    let e : get_or a.index.now (slot CH a.i.n) 0 ≡ a.at + 1 → ⊥ =
    λ z. c.if-index-slot_ch.false (ap (λ (j : ℕ). get_or a.index.now j 0) c.slot_ch.ensures ∙ z) in
    rw (ne_eqb (get_or a.index.now (slot CH a.i.n) 0) (a.at + 1) e) (refl, refl)
