use mathlib.Core.Path.{◌≡◌, ap, sym, subst, ◌∙◌}
use mathlib.Core.List.{List}
use Prim.Native.Nat.{ℕ, ◌+◌, ◌-◌}
use native.Mathlib.Omega.{arith}
use lib.ListN.{length, take, drop}
use Rattle.records.specs.Record.{mark, size}
use Rattle.records.proofs.EveryMark.{mark-lt}
use Rattle.index.specs.declared.charging.Interval.{Interval}
use Rattle.index.proofs.Intervals.{fair, ch-size, interval-none}
use Rattle.index.proofs.Runs.{says}
use Rattle.index.proofs.Turn.{tail}
use Rattle.lookup.proofs.Rooms.{size-le}
use Rattle.rules.proofs.Week.{accepted-readable}
use Rattle.week.specs.Filled.{Filled}
use Rattle.week.proofs.Reading.{reading-other, reading-interval}
use Rattle.week.proofs.put_record.Goals as goal

-- the mark of the rest, which is handed over whole
its-mark : (d : List ℕ) (at : ℕ) {m : ℕ} → m ≡ mark (take (length d - at) (drop at d)) → m ≡ mark (drop at d)
its-mark d at e = e ∙ ap mark (tail d at)

its-size : (d : List ℕ) (at : ℕ) {m n : ℕ} → m ≡ mark (take (length d - at) (drop at d)) → n ≡ size m → n ≡ size (mark (drop at d))
its-size d at e f = f ∙ ap size (its-mark d at e)

pub overflow_add-result : goal.overflow_add-result
overflow_add-result c =
    let m = mark (drop c.args.at c.args.d.now) in
    let e = its-size c.args.d.now c.args.at c.mark_at.ensures c.length_of.ensures in
    omega (arith, size-le m (mark-lt (drop c.args.at c.args.d.now)), c.requires.1.short, c.requires.3)

pub returns-then-i-eq0 : goal.returns-then-i-eq0
returns-then-i-eq0 c =
    let d = c.args.d.now in
    let at = c.args.at in
    let p = c.requires in
    let none = interval-none d at (ap (λ (x : Interval). x.n) (sym c.interval_at-i.ensures) ∙ c.if-i-eq0.true) in
    let e = its-size d at c.mark_at.ensures c.length_of.ensures in (
      ap (λ (k : ℕ). at + k) e,
      λ q r f.
          subst (λ (k : ℕ). Filled d c.args.index.now q r (at + k) c.args.prices.now c.args.energies.now) (sym e)
          (reading-other (accepted-readable p.0) p.1 p.2 f p.3 none),
    )

-- ---- the record of an interval

pub put_interval-requires : goal.put_interval-requires
put_interval-requires c =
    let d = c.args.d.now in
    let p = c.requires in
    let its = says d c.args.at c.interval_at-i.ensures c.if-i-eq0.false in
    let f = fair (drop c.args.at d) its.there in (
      p.2,
      omega (arith, p.1.short, p.3),
      omega (arith, its.n-is, f.first),
      omega (arith, its.n-is, f.last),
      omega (arith, its.price-is, f.price-high),
      omega (arith, its.energy-is, f.energy-high),
      p.4,
      p.5,
    )

pub returns : goal.returns
returns c =
    let p = c.requires in
    let its = says c.args.d.now c.args.at c.interval_at-i.ensures c.if-i-eq0.false in
    let w = c.put_interval.ensures in (
      ap (λ (k : ℕ). c.args.at + k) (sym (ap size (fair (drop c.args.at c.args.d.now) its.there).marked ∙ ch-size)),
      λ q r f.
          reading-interval (accepted-readable p.0) p.1 p.2 f p.3 its.there
          (omega (arith, p.4, f.priced.long)) (omega (arith, p.5, f.charged.long))
          its.n-is its.price-is its.energy-is w.0 w.1,
    )
