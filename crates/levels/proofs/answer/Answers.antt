-- `levels::answer` meets its contract: what it leaves is the text of the whole input.
use Rattle.std.proofs.Common.{take, sym, ◌∙◌}
use Rattle.levels.proofs.Whole.{whole-text, whole-ok}
use Rattle.levels.proofs.answer.Goals as goal

pub unwrap-requires : goal.unwrap-requires
unwrap-requires c = whole-ok (take c.args.n c.args.read.now) c.args.out.now c.requires.2 c.print.ensures.answer

pub returns : goal.returns
returns c =
    whole-text (take c.args.n c.args.read.now) c.args.out.now c.requires.2 (sym c.unwrap.ensures ∙ c.print.ensures.answer) c.print.ensures.buffer
