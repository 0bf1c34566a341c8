-- The charging cost is document 002's, if LC holds the last non-zero one; and what LC holds next follows from the charging cost.
use mathlib.Core.Path.{◌≡◌, refl, sym, ◌∙◌}
use mathlib.Core.Bool.{Bool, true, false, cond}
use mathlib.Core.List.{List, [], ◌∷◌}
use lib.Dec.{eqb}
use borrow.Author.Tests.{eqb-true}
use Rattle.lists.proofs.Tests.{cond-holds, cond-relates}
use Rattle.station.specs.Parameters.{last_cost}
use Rattle.formulas.specs.Exact.{whole, micro_dollars}
use Rattle.formulas.specs.Levels.{total_energy, charging_cost}
use Rattle.formulas.proofs.Rounding.{quotient-none}
use Rattle.formulas.specs.Memo.{Week, calculated, last_non_zero, memo_cost, cost_of, to_send, Sent, next}

module _ (w : Week) (before : List Week) (carried : last_cost w.amounts ≡ last_non_zero before) where
  pub memo-charging : cost_of w ≡ memo_cost w before
  unfolding charging_cost memo_cost calculated micro_dollars
  memo-charging = cond-relates (λ x n. micro_dollars x ≡ n) (eqb (total_energy w.parameters) 0) (whole (last_cost w.amounts)) _ _ _ carried refl

  nothing-calculated : eqb (total_energy w.parameters) 0 ≡ true → calculated w ≡ 0
  unfolding calculated
  nothing-calculated e = rw (eqb-true (total_energy w.parameters) 0 e) (quotient-none _)

  -- the next week's LC: this week's charging cost, or where that is 0 this week's LC
  pub memo-next : last_non_zero (w ∷ before) ≡ cond (eqb (cost_of w) 0) (last_cost w.amounts) (cost_of w)
  unfolding last_non_zero memo_cost
  memo-next = rw (carried, memo-charging) (go (eqb (total_energy w.parameters) 0) refl)
    where
      go : (b : Bool) → eqb (total_energy w.parameters) 0 ≡ b
          → cond (eqb (calculated w) 0) (last_non_zero before) (calculated w) ≡ cond (eqb (cond b (last_non_zero before) (calculated w)) 0) (last_non_zero before)
          (cond b (last_non_zero before) (calculated w))
      go true e =
          rw (nothing-calculated e) (cond-holds (λ x. last_non_zero before ≡ x) (eqb (last_non_zero before) 0) (last_non_zero before)
          (last_non_zero before) refl refl)
      go false e = refl

-- week after week, from the first on
sent : (l : List Week) → Sent l → to_send l ≡ last_non_zero l
unfolding to_send
sent [] s = unfold last_non_zero in refl
sent (w ∷ l) (next e s) = sym (memo-next w l (e ∙ sent l s))

pub memo-always : (w : Week) (before : List Week) → Sent (w ∷ before) → cost_of w ≡ memo_cost w before
memo-always w before (next e s) = memo-charging w before (e ∙ sent before s)
