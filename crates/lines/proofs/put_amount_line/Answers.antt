use mathlib.Core.List.{◌++◌}
use Rattle.text.specs.Text.{hundredths, newline}
use Rattle.text.proofs.Over.{then}
use Rattle.layout.specs.Report.{amount_line}
use Rattle.lines.proofs.put_amount_line.Goals as goal

-- `lines::put_amount_line` meets its contract: the word, the level and the line end, each behind the last.

pub returns : goal.returns
unfolding amount_line
returns c =
    let w = c.args.word.now in
    let x = hundredths c.args.cents in
    let e = c.args.buf.now in
    let leveled = then w x e c.put-a.ensures c.put_hundredths.ensures in
    then (w ++ x) newline e leveled c.put.ensures
