use borrow.Author.Rules.{rules}
use Rattle.std.proofs.Common.{tests}
use Rattle.costs.proofs.maintenance.claimed.Goals as goal

pub returns-clause-within : goal.returns-clause-within
returns-clause-within g c most h = c.summed.ensures.within most (λ k r a b e. search (rules, tests))
