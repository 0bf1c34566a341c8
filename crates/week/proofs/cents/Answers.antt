use mir.Facts.{to_z-of_z}
use Rattle.week.proofs.Signed.{cents-fit, difference-fits, narrowed}
use Rattle.week.proofs.cents.Goals as goal

pub overflow_sub-result : goal.overflow_sub-result
overflow_sub-result c = difference-fits c.args.price c.requires

pub overflow_cast-result-2 : goal.overflow_cast-result-2
overflow_cast-result-2 c = rw (narrowed c.args.price c.requires) (cents-fit c.args.price c.requires)

pub returns : goal.returns
returns c = rw (narrowed c.args.price c.requires) (to_z-of_z (cents-fit c.args.price c.requires))
