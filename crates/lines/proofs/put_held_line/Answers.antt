use mathlib.Core.Path.{refl, sym, ◌∙◌}
use Rattle.lines.proofs.put_held_line.Goals as goal

-- `lines::put_held_line` meets its contract.

pub put_amount_line-requires : goal.put_amount_line-requires
put_amount_line-requires c = rw (sym c.level_held.ensures ∙ c.if-level_held.true) at c.requires

pub returns-then-level_held : goal.returns-then-level_held
returns-then-level_held c =
    rw (sym c.level_held.ensures ∙ c.if-level_held.true)
    c.put_amount_line.ensures

pub returns-else-level_held : goal.returns-else-level_held
returns-else-level_held c = rw (sym c.level_held.ensures ∙ c.if-level_held.false) (refl, refl)
