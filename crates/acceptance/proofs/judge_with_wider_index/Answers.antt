use borrow.Author.Rules.{rules}
use Rattle.lookup.proofs.Parts.{wide-up-to}
use Rattle.acceptance.proofs.judge_with_wider_index.Goals as goal

pub answer_in-requires-else-top-lt-NARROW : goal.answer_in-requires-else-top-lt-NARROW
answer_in-requires-else-top-lt-NARROW c =
    (search rules, search rules, search rules, wide-up-to _ c.requires.1, search rules, c.requires.3)
