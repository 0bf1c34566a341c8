use Rattle.std.proofs.Common.{◌≡◌, refl, ℕ, ◌+◌, ◌*◌, ◌≤◌}
use native.Mathlib.Numerals.{add-one}
use native.Mathlib.Omega.{arith}
use Rattle.lists.specs.Sums.{sum_to}
use Rattle.lists.proofs.Sums.{sum_more}
use Rattle.costs.proofs.maintenance.summed.Goals as goal

-- a turn more, which adds one part
within_turn : (most k s x : ℕ) → s ≤ k * most → x ≤ most → s + x ≤ (k + 1) * most
within_turn most k s x e p = rw add-one (omega (arith, e, p))

pub loop-k-init : goal.loop-k-init
unfolding sum_to
loop-k-init g c = (λ f h. refl, λ most h. omega arith)

pub overflow_add-sum : goal.overflow_add-sum
overflow_add-sum g c =
    let l = c.loop-k in
    let high = c.requires.small (l.k + 1) c.part-sum.result (omega arith) (omega arith) c.part-sum.ensures in
    omega (arith, l.invariant.1 1000000000000000000 c.requires.small, high, c.requires.few)

pub loop-k-preserved : goal.loop-k-preserved
loop-k-preserved g c =
    let l = c.loop-k in
    let x = c.part-sum.result in (
      λ f h. sum_more f l.k l.sum x (l.invariant.0 f h) (h (l.k + 1) x (omega arith) (omega arith) c.part-sum.ensures),
      λ most h. within_turn most l.k l.sum x (l.invariant.1 most h) (h (l.k + 1) x (omega arith) (omega arith) c.part-sum.ensures),
    )

pub returns-clause-sum : goal.returns-clause-sum
returns-clause-sum g c f h =
    let z : c.loop-k.k ≡ c.args.n = omega arith in
    rw (← z) (c.loop-k.invariant.0 f h)

pub returns-clause-within : goal.returns-clause-within
returns-clause-within g c most h =
    let z : c.loop-k.k ≡ c.args.n = omega arith in
    rw (← z) (c.loop-k.invariant.1 most h)
