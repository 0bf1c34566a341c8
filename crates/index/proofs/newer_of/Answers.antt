use borrow.Author.Tests.{lt-leb, le-leb}
use Rattle.index.proofs.newer_of.Goals as goal

pub returns-then-held-issue : goal.returns-then-held-issue
returns-then-held-issue c = simp (le-leb _ _ c.if-held-issue.true)

pub returns-else-held-issue : goal.returns-else-held-issue
returns-else-held-issue c = simp (lt-leb _ _ c.if-held-issue.false)
