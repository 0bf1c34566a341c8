use mathlib.Core.Path.{sym, ◌∙◌}
use Rattle.lookup.proofs.Lookup.{part-accepted, part-refused}
use Rattle.lookup.proofs.part_in.Goals as goal

pub returns-in-Ok : goal.returns-in-Ok
returns-in-Ok c =
    c.place_of.ensures ∙ part-accepted _ _ _ (sym c.in-Ok.is
    ∙ c.open.ensures.0)

pub returns-in-Err : goal.returns-in-Err
returns-in-Err c = part-refused _ _ _ _ _ (sym c.in-Err.is ∙ c.open.ensures.0)
