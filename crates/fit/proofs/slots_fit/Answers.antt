use mathlib.Core.Path.{◌≡◌, refl}
use mathlib.Core.Bool.{Bool, true, false, ◌&&◌}
use borrow.Author.Tests.{tests}
use Rattle.std.proofs.Common.{rules}
use Rattle.lists.specs.Tests.{all_to}
use Rattle.records.specs.Table.{RS}
use Rattle.rules.specs.Fit.{fits}
use Rattle.fit.specs.BySlots.{points_fit, level_fits, prorated_fit, owners_fit, priced_fit}
use Rattle.fit.proofs.Ranges.{all-to}
use Rattle.fit.proofs.Unfit.{other-wide, by_slots}
use Rattle.fit.proofs.slots_fit.Goals as goal

pub returns-then-t-index : goal.returns-then-t-index
returns-then-t-index c = let a = c.args in other-wide a.t a.index.now a.rs.now a.top c.if-t-index.true

regrouped : (x y z : Bool) → x && (y && z) ≡ x && y && z
regrouped true y z = refl
regrouped false y z = refl

pub returns : goal.returns
returns c =
    let a = c.args in
    let ix = a.index.now in
    let levels = all-to (level_fits a.t ix) 4 refl c.all.ensures.ran (λ x b q k. search (rules, tests)) in
    let x : Bool = fits a.t RS a.rs.now && points_fit a.t ix && all_to 4 (level_fits a.t ix) && prorated_fit a.t ix in
    by_slots a.t ix a.rs.now a.top c.if-t-index.false
    (rw (
      c.later_fit.ensures,
      c.prorated_fit.ensures,
      levels,
      c.points_fit.ensures,
      c.station_fits.ensures,
    ) (regrouped x (owners_fit a.t ix a.top) (priced_fit a.t ix a.top)))
