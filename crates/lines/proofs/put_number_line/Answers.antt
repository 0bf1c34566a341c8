use mathlib.Core.List.{◌++◌}
use Rattle.text.specs.Text.{decimal, newline}
use Rattle.text.proofs.Over.{then}
use Rattle.layout.specs.Report.{number_line}
use Rattle.lines.proofs.put_number_line.Goals as goal

-- `lines::put_number_line` meets its contract: the word with the number, and then the line end.

pub returns : goal.returns
unfolding number_line
returns c =
    let args = c.args in
    let w = c.put_numbered-a.ensures in
    then (args.word.now ++ decimal args.n) newline args.buf.now w c.put.ensures
