use borrow.Author.Rules.{rules}
use Rattle.formulas.specs.Levels.{retired}
use Rattle.lookup.specs.Parts.{parameters_held}
use Rattle.costs.proofs.Retired.{payments}
use Rattle.costs.proofs.maintenance.retired.Goals as goal

pub returns : goal.returns
unfolding retired
returns c = c.summed.ensures.sum (payments (parameters_held c.args.d.now c.args.index.now) c.args.p) (λ k r a b e. search rules)
