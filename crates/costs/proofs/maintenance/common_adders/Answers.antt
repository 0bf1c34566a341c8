use borrow.Author.Rules.{rules}
use Rattle.costs.proofs.maintenance.common_adders.Goals as goal

pub returns : goal.returns
returns c = (c.claimed.ensures.sum _ (λ k r a b e. search rules), c.claimed.ensures.within 1000000000000 (λ k r a b e. search rules))
