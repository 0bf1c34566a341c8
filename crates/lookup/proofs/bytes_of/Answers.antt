use Rattle.lookup.proofs.Parts.{cut}
use Rattle.lookup.proofs.bytes_of.Goals as goal

pub returns : goal.returns
returns c = cut _ _
