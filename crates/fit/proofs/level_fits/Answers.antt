use mathlib.Core.Path.{refl, sym, ◌∙◌}
use Rattle.fit.specs.BySlots.{level_fits}
use Rattle.fit.proofs.level_fits.Goals as goal

pub returns-then-level_held : goal.returns-then-level_held
unfolding level_fits
returns-then-level_held c = rw (sym c.level_held.ensures ∙ c.if-level_held.true) refl

pub returns : goal.returns
unfolding level_fits
returns c =
    rw (sym c.level_held.ensures ∙ c.if-level_held.false, c.fourths_empty-2.ensures, c.fourths_empty.ensures)
    refl
