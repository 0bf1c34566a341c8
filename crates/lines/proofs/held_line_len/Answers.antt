use mathlib.Core.Path.{sym, ◌∙◌}
use Rattle.lines.proofs.held_line_len.Goals as goal

-- `lines::held_line_len` meets its contract.

pub returns-then-level_held : goal.returns-then-level_held
returns-then-level_held c = rw (sym c.level_held.ensures ∙ c.if-level_held.true) c.amount_line_len.ensures

pub returns-else-level_held : goal.returns-else-level_held
returns-else-level_held c = rw (sym c.level_held.ensures ∙ c.if-level_held.false)
