use borrow.Author.Rules.{rules}
use Rattle.formulas.specs.Exact.{micro_dollars}
use Rattle.formulas.specs.Levels.{storage_energy}
use Rattle.costs.proofs.storage.storage_energy.Goals as goal

pub returns : goal.returns
unfolding micro_dollars storage_energy
returns c = search rules
