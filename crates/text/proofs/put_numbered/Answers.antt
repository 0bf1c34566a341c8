use Rattle.text.specs.Text.{decimal}
use Rattle.text.proofs.Over.{then}
use Rattle.text.proofs.put_numbered.Goals as goal

-- `text::put_numbered` meets its contract: a word, and then a number.

pub returns : goal.returns
returns c =
    let args = c.args in
    let w = c.put-a.ensures in
    then args.word.now (decimal args.n) args.buf.now w c.put_decimal.ensures
