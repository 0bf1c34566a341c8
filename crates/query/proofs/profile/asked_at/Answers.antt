use mathlib.Core.Path.{◌∙◌}
use Rattle.query.proofs.Requests.{asked-request}
use Rattle.query.proofs.profile.asked_at.Goals as goal

pub returns : goal.returns
returns c =
    c.then_some.ensures
    ∙ asked-request _ _ _ c.rq.ensures c.requested-asked.ensures.0 c.first_hour-first.ensures c.last_hour-last.ensures
