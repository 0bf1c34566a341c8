use Rattle.lookup.specs.Parts.{parameters_held}
use Rattle.conduct.proofs.Turns.{level-refused, level-accepted}
use Rattle.conduct.proofs.refusals.level_refusal.Goals as goal

pub returns-then-level-level_held : goal.returns-then-level-level_held
returns-then-level-level_held c =
    let a = c.args in
    level-refused (parameters_held a.d.now a.index.now) a.level _ _ c.technology-technology.ensures.0 c.level_held.ensures
    c.if-level-level_held.true

pub returns-else-level-level_held : goal.returns-else-level-level_held
returns-else-level-level_held c =
    let a = c.args in
    level-accepted (parameters_held a.d.now a.index.now) a.level _ _ c.technology-technology.ensures.0 c.level_held.ensures
    c.if-level-level_held.false
