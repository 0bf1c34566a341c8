use mathlib.Core.List.{◌++◌}
use Rattle.text.specs.Text.{start_word, no_load_word, reserve_word}
use Rattle.text.proofs.Over.{then}
use Rattle.rules.specs.Fit.{holds}
use Rattle.lines.specs.Parts.{held_line}
use Rattle.lines.proofs.Levels.{others-are}
use Rattle.lines.proofs.put_others.Goals as goal

-- `lines::put_others` meets its contract: start, no-load and reserve, each behind the last.

pub returns : goal.returns
returns c =
    let start-line = held_line (holds c.args.technology 2) start_word c.args.start in
    let no-load-line = held_line (holds c.args.technology 3) no_load_word c.args.noload in
    let reserve-line = held_line (holds c.args.technology 4) reserve_word c.args.reserve in
    let e = c.args.buf.now in
    let two = then start-line no-load-line e c.put_held_line-a.ensures c.put_held_line.ensures in
    rw (others-are c.args.technology c.args.start c.args.noload c.args.reserve)
    (then (start-line ++ no-load-line) reserve-line e two c.put_held_line-2.ensures)
