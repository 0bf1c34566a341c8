use native.Mathlib.Omega.{arith}
use mathlib.Core.Bool.{true, false}
use mathlib.Core.Path.{refl, sym, ◌∙◌}
use Rattle.index.proofs.Entries.{as_short, as_outside, as_sound}
use Rattle.index.proofs.reader.read_as.Goals as goal

pub returns-then-s-length : goal.returns-then-s-length
returns-then-s-length g c = as_short g.M.Row.mark _ (omega (arith, c.if-s-length.true, c.length.ensures))

pub returns-then-not-ranges_hold : goal.returns-then-not-ranges_hold
returns-then-not-ranges_hold g c =
    as_outside g.M.Row.mark _ (omega (arith, c.if-s-length.false, c.length.ensures)) (sym c.if-not-ranges_hold.true ∙ c.ranges_hold.ensures)

pub returns-then-is_dated : goal.returns-then-is_dated
returns-then-is_dated g c =
    as_sound g.M.Row.mark _ {t = true} (omega (arith, c.if-s-length.false, c.length.ensures)) (sym c.if-not-ranges_hold.false ∙ c.ranges_hold.ensures)
    c.entry_as-entry.ensures (sym c.if-is_dated.true ∙ c.is_dated.ensures) refl

pub returns-else-is_dated : goal.returns-else-is_dated
returns-else-is_dated g c =
    as_sound g.M.Row.mark _ {t = false} (omega (arith, c.if-s-length.false, c.length.ensures)) (sym c.if-not-ranges_hold.false ∙ c.ranges_hold.ensures)
    c.entry_as-entry.ensures (sym c.if-is_dated.false ∙ c.is_dated.ensures) refl
