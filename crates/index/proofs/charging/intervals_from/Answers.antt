use mathlib.Core.Bool.{false}
use mathlib.Core.Path.{◌≡◌, ap, sym, subst, ◌∙◌}
use Prim.Native.Nat.{ℕ}
use native.Mathlib.Omega.{arith}
use lib.ListN.{drop}
use Rattle.index.specs.declared.charging.Interval.{Interval}
use Rattle.index.specs.Intervals.{is_interval}
use Rattle.index.proofs.Intervals.{interval-none}
use Rattle.index.proofs.HeldSums.{cost-within, energy-within, sums-put}
use Rattle.index.proofs.Turn.{max-higher}
use Rattle.index.proofs.Runs.{says, inside, last, price-high, energy-high, run-held, run-new, run-beyond}
use Rattle.index.proofs.Runs.{new-sums, instead-sums, left-held, left-cost, left-energy, left-low}
use Rattle.index.proofs.charging.intervals_from.Goals as goal
use Rattle.index.proofs.charging.intervals_from.Goals.{then-j-index+then-v-eq0, then-j-index+else-v-eq0, else-j-index}

-- in each goal, its is that an interval's record lies there

pub slot_ch-j-requires : goal.slot_ch-j-requires
slot_ch-j-requires c =
    let its = says c.args.d.now c.loop-i.end c.loop-i.invariant.3 c.loop-i-test.true in
    omega (arith, last c.args.d.now c.loop-i.end its)

pub with-sums-requires : goal.with-sums-requires
with-sums-requires c =
    let d = c.args.d.now in
    let at = c.loop-i.end in
    let its = says d at c.loop-i.invariant.3 c.loop-i-test.true in
    let h = c.loop-i.invariant.4 in
    (price-high d at its, energy-high d at its, cost-within h, energy-within h)

pub instead-sums-requires : goal.instead-sums-requires
instead-sums-requires c =
    let d = c.args.d.now in
    let at = c.loop-i.end in
    let its = says d at c.loop-i.invariant.3 c.loop-i-test.true in
    let h = c.loop-i.invariant.4 in
    let ej = c.slot_ch-j.ensures in
    let fit = c.if-j-index.true in
    let a = c.issue_held-held.result in
    let l = left-held d at its h ej fit a in
    let low = left-low d at its h ej fit a (omega (arith, c.if-v-eq0.false)) in
    rw c.newer_of-else-v-eq0.ensures (
      c.requires.0,
      low,
      l.within low,
      price-high d at its,
      energy-high d at its,
      l.price-high,
      l.energy-high,
      left-cost d at its h ej fit a,
      left-energy d at its h ej fit a,
      cost-within h,
      energy-within h,
    )

pub interval_at-i-requires-in-loop-i : goal.interval_at-i-requires-in-loop-i
interval_at-i-requires-in-loop-i c =
    let its = says c.args.d.now c.loop-i.end c.loop-i.invariant.3 c.loop-i-test.true in
    (c.requires.0, inside c.args.d.now c.loop-i.end its)

pub loop-i-smaller : goal.loop-i-smaller
loop-i-smaller c =
    let its = says c.args.d.now c.loop-i.end c.loop-i.invariant.3 c.loop-i-test.true in
    omega (arith, inside c.args.d.now c.loop-i.end its)

pub loop-i-preserved : goal.loop-i-preserved
loop-i-preserved c =
    let d = c.args.d.now in
    let l = c.loop-i in
    let its = says d l.end l.invariant.3 c.loop-i-test.true in
    let ej = c.slot_ch-j.ensures in
    let em = c.max-top.ensures ∙ max-higher _ _ in (
      inside d l.end its,
      omega (arith, l.invariant.1),
      c.if-j-index.auto.index ∙ l.invariant.2,
      c.interval_at-i-in-loop-i.ensures,
      elim c.if-j-index.branch [
        | then-j-index+then-v-eq0 w ↦ rw (w.index-is, w.sums-is) (new-sums d l.end its l.invariant.4 ej w.if-j-index.true w.if-v-eq0.true
            w.with-sums.ensures.0 w.with-sums.ensures.1)
        | then-j-index+else-v-eq0 w ↦ rw (w.index-is, w.sums-is, w.newer_of.ensures) (instead-sums d l.end its l.invariant.4 ej w.if-j-index.true
            w.issue_held-held.result w.newer_of-else-v-eq0.ensures w.instead-sums.ensures.0 w.instead-sums.ensures.1)
        | else-j-index w ↦ rw (w.index-is, w.sums-is) l.invariant.4
      ],
      λ a f r.
          elim c.if-j-index.branch [
            | then-j-index+then-v-eq0 w ↦ rw (w.index-is, w.rising-is) (run-new d l.end its a l.index l.rising l.top f (l.invariant.5 a f r) ej em
                w.if-v-eq0.true)
            | then-j-index+else-v-eq0 w ↦ rw (w.index-is, w.rising-is) (run-held d l.end its a l.index l.rising l.top f (l.invariant.5 a f r) ej em
                w.issue_held-held.ensures w.newer_of.ensures)
            | else-j-index w ↦ rw (w.index-is, w.rising-is) (run-beyond d l.end its a l.index l.rising l.top f (l.invariant.5 a f r) ej em w.if-j-index.false)
          ],
    )

pub returns : goal.returns
returns c =
    let l = c.loop-i in (
      l.invariant.1,
      l.invariant.0,
      sums-put c.args.d.now l.index c.args.lent.now l.sums.cost l.sums.energy c.requires.2 l.invariant.4,
      λ z. subst (λ (k : ℕ). is_interval (drop k c.args.d.now) ≡ false) z
          (interval-none c.args.d.now l.end (ap (λ (x : Interval). x.n) (sym l.invariant.3) ∙ c.loop-i-test.false)),
      l.invariant.5,
    )
