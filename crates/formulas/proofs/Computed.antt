-- Every definition up to this layer, to compute with: `unfolding computed` opens all that this one's line names, and what those below it open.
use Prim.Native.Nat.{ℕ, ◌+◌}
use Rattle.rules.proofs.Computed.{computed as below}
use Rattle.formulas.specs.Exact.{quotient, micro_dollars, cents, plus, sum_over, greater_of, exact}
use Rattle.formulas.specs.Levels.{covers, profile_of, profile, adders, retired, maintenance, additions, start_maintenance, thermal_energy, heat_cost}
use Rattle.formulas.specs.Levels.{start_cost, no_load_cost, nuclear_energy, total_energy, charging_sum, charging_cost, short_run_cost, highest_sum}
use Rattle.formulas.specs.Levels.{opportunity_cost}
use Rattle.formulas.specs.Levels.{storage_energy, forecast_place, forecast_price, hydro_energy, laminations, one_lamination, single, lines_of, lines, levels}
use Rattle.formulas.specs.Levels.{fuelled, owner_refusal, query_answer}
use Rattle.lists.specs.Sums.{sum_to}
use Rattle.formulas.specs.Sums.{sum_of, list_to, insert, falling, sum_first, sum_highest, from_top}

-- how many definitions there are to open
unfoldable pub computed : ℕ
unfolding below quotient micro_dollars cents plus sum_over greater_of exact covers profile_of profile adders retired maintenance additions start_maintenance thermal_energy heat_cost start_cost no_load_cost nuclear_energy total_energy charging_sum charging_cost short_run_cost highest_sum opportunity_cost storage_energy forecast_place forecast_price hydro_energy laminations one_lamination single lines_of lines levels fuelled owner_refusal query_answer sum_to sum_of list_to insert falling sum_first sum_highest from_top
computed = below + 47
