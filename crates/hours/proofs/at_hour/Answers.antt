use Rattle.hours.proofs.Filled.{made-index}
use Rattle.hours.proofs.at_hour.Goals as goal

pub returns : goal.returns
returns c =
    made-index c.args.hour c.args.d.now c.args.index.now c.requires c.clear.ensures c.fill_dated.ensures
