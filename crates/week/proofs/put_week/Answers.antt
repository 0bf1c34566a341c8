use mathlib.Core.Path.{◌≡◌, refl, sym, ◌∙◌}
use borrow.Author.Rules.{rules}
use Prim.Native.Nat.{ℕ, ◌≤◌}
use native.Mathlib.Omega.{arith}
use lib.IntN.{pos}
use lib.ListN.{get_or, drop}
use borrow.Author.Tests.{eqb-true}
use Rattle.records.specs.Table.{CH}
use Rattle.records.specs.Record.{mark}
use Rattle.records.proofs.Record.{size-ge}
use Rattle.station.specs.Week.{week_price, week_energy, week_prices, week_energies}
use Rattle.index.specs.Slots.{slot}
use Rattle.index.proofs.Slots.{in-empty}
use Rattle.rules.proofs.Week.{accepted-readable}
use Rattle.week.proofs.Stands.{cleared, stands_same, stands-whole}
use Rattle.week.proofs.Reading.{price-none, energy-none, reading_begins, prices-read, energies-read}
use Rattle.week.proofs.put_week.Goals as goal

pub slots_empty-requires : goal.slots_empty-requires
unfolding slot
slots_empty-requires c = omega (
  arith,
  c.slot_ch.ensures,
  c.requires.2,
)

empty-slot : (c : goal.Then-slots_empty) (n : ℕ) → 1 ≤ n → n ≤ 2016 → get_or c.args.index.now (slot CH n) 0 ≡ 0
unfolding slot
empty-slot c n a b =
    eqb-true _ 0 (in-empty c.args.index.now c.slot_ch.result 2016 (slot CH n)
    (sym c.slots_empty.ensures ∙ c.if-slots_empty.true) (omega (arith, c.slot_ch.ensures))
    (omega (arith, c.slot_ch.ensures)))

pub returns-then-slots_empty : goal.returns-then-slots_empty
unfolding week_prices week_energies
returns-then-slots_empty c =
    let p = c.requires in
    let d = c.args.d.now in
    let ok = accepted-readable p.0 in
    let prices = cleared (pos 0) _ _ refl p.3 (c.fill.ensures.after (λ y h. search rules)) in
    let energies = cleared 0 _ _ refl p.4 (c.fill-2.ensures.after (λ y h. search rules)) in (
      stands-whole (pos 0) _ (stands_same (pos 0) _ prices (week_price d)
          (λ n x y. sym (price-none ok p.1 p.2 n x y (empty-slot c n x y)))) p.3,
      stands-whole 0 _ (stands_same 0 _ energies (week_energy d)
          (λ n x y. sym (energy-none ok p.1 p.2 n x y (empty-slot c n x y)))) p.4,
    )

-- ---- the records as they lie

pub put_record-at-requires : goal.put_record-at-requires
put_record-at-requires c =
    let p = c.requires in
    let l = c.loop-at in
    let prices = cleared (pos 0) _ _ refl p.3 (c.fill.ensures.after (λ y h. search rules)) in
    let energies = cleared 0 _ _ refl p.4 (c.fill-2.ensures.after (λ y h. search rules)) in (
      p.0,
      p.1,
      p.2,
      c.loop-at-test.true,
      omega (arith, l.invariant.0, prices.long, p.3),
      omega (arith, l.invariant.1, energies.long, p.4),
    )

pub loop-at-smaller : goal.loop-at-smaller
loop-at-smaller c =
    let s = drop c.loop-at.at c.args.d.now in
    omega (arith, c.put_record-at.ensures.0, size-ge (mark s), c.loop-at-test.true)

pub loop-at-preserved : goal.loop-at-preserved
loop-at-preserved c =
    let l = c.loop-at in
    let r = c.put_record-at in
    (omega (arith, r.auto, l.invariant.0), omega (arith, r.auto, l.invariant.1), λ p e f. r.ensures.1 p e (l.invariant.2 p e f))

pub returns : goal.returns
unfolding week_prices week_energies
returns c =
    let p = c.requires in
    let ok = accepted-readable p.0 in
    let prices = cleared (pos 0) _ _ refl p.3 (c.fill.ensures.after (λ y h. search rules)) in
    let energies = cleared 0 _ _ refl p.4 (c.fill-2.ensures.after (λ y h. search rules)) in
    let f = c.loop-at.invariant.2 _ _ (reading_begins ok p.1 p.2 prices energies) in (
      stands-whole (pos 0) _ (prices-read ok p.1 p.2 f c.loop-at-test.false) p.3,
      stands-whole 0 _ (energies-read ok p.1 p.2 f c.loop-at-test.false) p.4,
    )
