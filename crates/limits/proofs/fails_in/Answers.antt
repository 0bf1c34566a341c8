use mathlib.Core.Path.{sym, ◌∙◌}
use Rattle.limits.proofs.Laminations.{overlapped, untouched}
use Rattle.limits.proofs.fails_in.Goals as goal

pub returns-then-overlaps : goal.returns-then-overlaps
returns-then-overlaps c =
    let a = c.args in
    c.fails.ensures ∙ overlapped a.t a.pair a.from a.to a.level (sym c.overlaps.ensures ∙ c.if-overlaps.true)

pub returns-else-overlaps : goal.returns-else-overlaps
returns-else-overlaps c =
    let a = c.args in
    untouched a.t a.pair a.from a.to a.level (sym c.overlaps.ensures ∙ c.if-overlaps.false)
