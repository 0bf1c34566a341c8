use Rattle.std.proofs.Common.{◌≡◌, ℕ, ◌*◌, ◌≤◌}
use Rattle.lists.specs.Sums.{sum_to}
use Rattle.costs.proofs.maintenance.summed.Given as goal

abbrev pub invariant-loop-k : goal.invariant-loop-k
invariant-loop-k g l =
    ((f : ℕ → ℕ) → ((k r : ℕ) → 1 ≤ k → k ≤ l.n → goal.F-post g l.part k r → r ≡ f k) → l.sum ≡ sum_to l.k f)
    × ((most : ℕ) → ((k r : ℕ) → 1 ≤ k → k ≤ l.n → goal.F-post g l.part k r → r ≤ most) → l.sum ≤ l.k * most)
