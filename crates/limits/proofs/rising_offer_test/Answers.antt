use mathlib.Core.Path.{◌≡◌, sym, ap₂, ◌∙◌}
use mathlib.Core.Bool.{false}
use Prim.Native.Nat.{ℕ, ◌-◌, ◌/◌}
use native.Mathlib.Omega.{arith}
use lib.ListN.{length}
use Rattle.arrays.specs.Packed.{laminations_from, in_arrays}
use Rattle.verdicts.specs.Test.{price_at}
use Rattle.limits.specs.Thresholds.{fails_at, offer_shown, least_of}
use Rattle.limits.proofs.Turns.{all_left}
use Rattle.limits.proofs.Laminations.{pair_end, all_pass}
use Rattle.limits.proofs.rising_offer_test.Goals as goal

pub returns-then-pairs-eq0 : goal.returns-then-pairs-eq0
returns-then-pairs-eq0 c =
    let a = c.args in
    let n = length a.offer.now / 6 in
    let l = laminations_from (in_arrays a.from.now a.to.now a.cents.now a.count) 0 a.count in
    pair_end a.t l a.offer.now n 0 (omega (arith, c.if-pairs-eq0.true)) ∙ all_left (offer_shown a.t l a.offer.now 0) n

pub returns : goal.returns
returns c =
    let o = c.args.offer.now in
    let r = in_arrays c.args.from.now c.args.to.now c.args.cents.now c.args.count in
    let e : fails_at c.args.t (price_at o (length o / 6 - 1)) (least_of r.cents r.count) ≡ false =
    ap₂ (λ (p x : ℕ). fails_at c.args.t p x) (sym c.price_at.ensures.0) (sym c.least_level-least.ensures)
    ∙ sym c.fails.ensures ∙ c.if-fails.false
    in
    all_pass c.args.t r o (length o / 6) c.requires.2 e
