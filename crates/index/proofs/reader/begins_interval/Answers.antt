use mathlib.Core.Path.{ap, sym, ◌∙◌}
use mathlib.Core.Bool.{Bool, ◌&&◌}
use borrow.Author.Tests.{le-leb, lt-leb}
use Rattle.records.specs.MarkShapes.{begins}
use Rattle.index.proofs.reader.begins_interval.Goals as goal

pub returns-then-s-lt2 : goal.returns-then-s-lt2
returns-then-s-lt2 c = ap (λ (b : Bool). b && begins c.args.s.now 67 72) (sym (lt-leb 2 _ c.if-s-lt2.true))

pub returns : goal.returns
returns c =
    c.begins_with.ensures
    ∙ ap (λ (b : Bool). b && begins c.args.s.now 67 72) (sym (le-leb 2 _ c.if-s-lt2.false))
