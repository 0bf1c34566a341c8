use mathlib.Core.Path.{refl, sym, ◌∙◌}
use Rattle.fit.specs.BySlots.{own_level_fits}
use Rattle.fit.proofs.own_level_fits.Goals as goal

pub returns-then-level_held : goal.returns-then-level_held
unfolding own_level_fits
returns-then-level_held c = rw (sym c.level_held.ensures ∙ c.if-level_held.true) refl

pub returns : goal.returns
unfolding own_level_fits
returns c = rw (sym c.level_held.ensures ∙ c.if-level_held.false) c.fourths_empty.ensures
