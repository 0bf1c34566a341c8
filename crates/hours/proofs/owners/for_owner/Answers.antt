use Rattle.hours.proofs.Owned.{owner-index}
use Rattle.hours.proofs.owners.for_owner.Goals as goal

pub returns : goal.returns
returns c =
    λ l d i e. owner-index c.args.owner c.requires.1 c.requires.2 i e c.clear.ensures
