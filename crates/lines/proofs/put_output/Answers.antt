use Rattle.text.specs.Text.{tenths, space}
use Rattle.text.proofs.Over.{then}
use Rattle.lines.proofs.put_output.Goals as goal

-- `lines::put_output` meets its contract: a space, and then the output.

pub returns : goal.returns
returns c =
    let args = c.args in
    then space (tenths args.n) args.buf.now c.put-a.ensures c.put_tenths.ensures
