use mathlib.Core.Path.{◌≡◌, refl, sym, ◌∙◌}
use Rattle.lists.specs.Tests.{among}
use Rattle.records.specs.Table.{TH, table}
use Rattle.records.specs.Record.{datable}
use Rattle.station.specs.Current.{current}
use Rattle.station.specs.Parameters.{threshold_key}
use Rattle.lookup.specs.Parts.{held, parameters_held}
use Rattle.lookup.proofs.Held.{held-always}
use Rattle.conduct.proofs.Turns.{condition-in, condition-none, condition-out}
use Rattle.conduct.proofs.refusals.condition_refusal.Goals as goal
use Rattle.conduct.proofs.refusals.condition_refusal.Goals.{After-th-th}

-- what was found is held
found : (c : After-th-th) → let a = c.args in
    c.th-th.result.now ≡ current TH (threshold_key a.condition a.level) (held a.d.now a.index.now)
unfolding datable among table
found c = c.th-th.ensures ∙ sym (held-always c.requires.0 TH _ refl)

pub returns-then-th-gt0 : goal.returns-then-th-gt0
returns-then-th-gt0 c =
    let a = c.args in
    condition-in (held a.d.now a.index.now) a.level a.condition _ c.if-condition.true (found (goal.at.returns-then-th-gt0 c).After-th-th) c.if-th-gt0.true

pub returns-else-th-gt0 : goal.returns-else-th-gt0
returns-else-th-gt0 c =
    let a = c.args in
    condition-none (held a.d.now a.index.now) a.level a.condition _ c.if-condition.true (found (goal.at.returns-else-th-gt0 c).After-th-th) c.if-th-gt0.false

pub returns-else-condition : goal.returns-else-condition
returns-else-condition c =
    let a = c.args in
    condition-out (parameters_held a.d.now a.index.now) a.level a.condition c.if-condition.false
