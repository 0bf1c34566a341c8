use borrow.Author.Rules.{rules}
use Rattle.costs.proofs.maintenance.own_adders.Goals as goal

pub returns : goal.returns
returns c = (c.claimed.ensures.sum _ (λ k r a b e. search rules), c.claimed.ensures.within 2000000000000 (λ k r a b e. search rules))
