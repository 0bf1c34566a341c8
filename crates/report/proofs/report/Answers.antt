use mathlib.Core.Path.{ap}
use borrow.Author.Rules.{rules}
use Rattle.std.proofs.lemmas.Result.{err_from_is_err_and}
use Rattle.station.specs.InForce.{query}
use Rattle.records.specs.Answers.{refusal_of}
use Rattle.query.proofs.WayIn.{way-closed, way-open}
use Rattle.report.proofs.Buffer.{told-refusal}
use Rattle.report.proofs.report.Goals as goal

-- `report::report` meets its contract.

pub returns-in_err-way_in : goal.returns-in_err-way_in
returns-in_err-way_in c =
    let a = c.args in
    let closed = way-closed a.d.now a.owner c.way_in.result c.way_in.ensures c.in_err-way_in.was a.hour in
    let told = told-refusal a.d.now (query a.hour a.owner) a.buf.now _ closed in
    let p = err_from_is_err_and c.from_residual.result c.from_residual.ensures.1 in
    rw (p.1, p.2) (record { answer = told.0; buffer = told.1 })

-- where the way is open, an owner asks
pub report_in-requires : goal.report_in-requires
unfolding refusal_of
report_in-requires c = (search rules, search rules, way-open _ _ c.way_in.result c.way_in.ensures (ap refusal_of c.in_ok-way_in.was))

pub report_in-requires-in-Narrow : goal.report_in-requires-in-Narrow
unfolding refusal_of
report_in-requires-in-Narrow c = (search rules, search rules, way-open _ _ c.way_in.result c.way_in.ensures (ap refusal_of c.in_ok-way_in.was))

pub report_in-requires-in-Wide : goal.report_in-requires-in-Wide
unfolding refusal_of
report_in-requires-in-Wide c = (search rules, search rules, way-open _ _ c.way_in.result c.way_in.ensures (ap refusal_of c.in_ok-way_in.was))
