use mathlib.Core.List.{◌++◌}
use Rattle.text.specs.Text.{decimal, tenths, energy_word, space}
use Rattle.text.proofs.Over.{then-two}
use Rattle.layout.specs.Report.{energy_line}
use Rattle.layout.proofs.Lines.{then-amount}
use Rattle.lines.proofs.put_energy_line.Goals as goal

-- `lines::put_energy_line` meets its contract: the word with the lamination, from, to, and the level with the line end.

pub returns : goal.returns
unfolding energy_line
returns c =
    let i = energy_word ++ decimal c.args.lamination in
    let a = tenths c.args.from in
    let b = tenths c.args.to in
    let e = c.args.buf.now in
    let after-from = then-two i space a e c.put_numbered-a.ensures c.put_output.ensures in
    let after-to = then-two (i ++ space ++ a) space b e after-from c.put_output-2.ensures in
    then-amount (i ++ space ++ a ++ space ++ b) e space c.args.cents after-to c.put_amount_line.ensures
