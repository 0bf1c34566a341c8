use Rattle.std.proofs.Common.{◌≡◌, ℕ, ◌-◌, ◌≤◌, length, drop}
use Rattle.formulas.specs.Sums.{list_to}
use Rattle.costs.proofs.fill.last_places.Given as goal

abbrev pub invariant-loop-k : goal.invariant-loop-k
invariant-loop-k g l =
    (length l.table ≡ l.last)
    × ((f : ℕ → ℕ) → ((k r : ℕ) → 1 ≤ k → k ≤ l.n → goal.F-post g l.price k r → r ≡ f k) → drop (l.last - l.k) l.table ≡ list_to l.k f)
