use mathlib.Core.Path.{ap}
use borrow.Author.Rules.{rules}
use Rattle.std.proofs.lemmas.Result.{err_from_is_err_and}
use Rattle.records.specs.Answers.{refusal_of}
use Rattle.query.proofs.WayIn.{way-closed, way-open}
use Rattle.verdicts.specs.Verdict.{verdict_of}
use Rattle.verdicts.proofs.Settled.{on-offer-drawn}
use Rattle.conduct.proofs.energy_tested.Goals as goal

-- where the way is open, an owner asks
pub energy_test_in-requires : goal.energy_test_in-requires
unfolding refusal_of
energy_test_in-requires c = (search rules, search rules, way-open _ _ c.way_in.result c.way_in.ensures (ap refusal_of c.in_ok-way_in.was))

pub energy_test_in-requires-in-Narrow : goal.energy_test_in-requires-in-Narrow
unfolding refusal_of
energy_test_in-requires-in-Narrow c = (search rules, search rules, way-open _ _ c.way_in.result c.way_in.ensures (ap refusal_of c.in_ok-way_in.was))

pub energy_test_in-requires-in-Wide : goal.energy_test_in-requires-in-Wide
unfolding refusal_of
energy_test_in-requires-in-Wide c = (search rules, search rules, way-open _ _ c.way_in.result c.way_in.ensures (ap refusal_of c.in_ok-way_in.was))

pub returns-in_err-way_in : goal.returns-in_err-way_in
unfolding verdict_of
returns-in_err-way_in c =
    let p = err_from_is_err_and c.from_residual.result c.from_residual.ensures.1 in
    rw (p.1, p.2) (on-offer-drawn _ _ _ _ (way-closed _ _ c.way_in.result c.way_in.ensures c.in_err-way_in.was c.args.hour))
