use mathlib.Core.Path.{refl}
use borrow.Author.Tests.{lt-ltb, le-ltb}
use Rattle.records.specs.Answers.{refuse_if, refusal_of}
use Rattle.lookup.proofs.room_for.Goals as goal

pub returns-then-d-gt-LONGEST : goal.returns-then-d-gt-LONGEST
unfolding refuse_if refusal_of
returns-then-d-gt-LONGEST c = rw (lt-ltb _ _ c.if-d-gt-LONGEST.true) refl

pub returns : goal.returns
unfolding refuse_if refusal_of
returns c = rw (le-ltb _ _ c.if-d-gt-LONGEST.false) refl
