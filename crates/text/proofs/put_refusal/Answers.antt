use mathlib.Core.List.{◌++◌}
use Rattle.text.specs.Text.{decimal, refused_word, at_word, newline, refusal_line}
use Rattle.text.proofs.Over.{then, then-two}
use Rattle.text.proofs.put_refusal.Goals as goal

-- `text::put_refusal` meets its contract: the number, the place and the line end, each behind the last.

pub returns : goal.returns
unfolding refusal_line
returns c =
    let n = decimal c.args.number in
    let p = decimal c.args.place in
    let e = c.args.buf.now in
    let refused = c.put_numbered-a.ensures in
    let at = then-two (refused_word ++ n) at_word p e refused c.put_numbered.ensures in
    then (refused_word ++ n ++ at_word ++ p) newline e at c.put.ensures
