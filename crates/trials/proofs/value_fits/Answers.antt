use mathlib.Core.Path.{refl, ◌∙◌}
use mathlib.Core.Logic.{inl, inr}
use Rattle.records.specs.Table.{FV, MV}
use Rattle.records.proofs.Record.{fv-size, mv-size}
use Rattle.rules.proofs.ByMark.{fits-fv, fits-mv}
use Rattle.trials.proofs.Laws.{fits-cut, is-asked, not-asked, asked, unasked}
use Rattle.trials.proofs.value_fits.Goals as goal

pub returns-then-s : goal.returns-then-s
returns-then-s c =
    asked _ _ c.in-FV.is (is-asked _ (inr (inr (inl refl)))) (c.fuel_fits.ensures ∙ fits-fv _ _ c.requires)

pub returns-else-s : goal.returns-else-s
returns-else-s c =
    asked _ _ c.in-FV.is (is-asked _ (inr (inr (inl refl)))) (c.fuel_fits-in-FV.ensures ∙ fits-fv _ _ c.requires ∙ fits-cut _ FV _ fv-size)

pub returns-then-s-2 : goal.returns-then-s-2
returns-then-s-2 c =
    asked _ _ c.in-MV.is (is-asked _ (inr (inr (inr refl)))) (c.hours_fit.ensures ∙ fits-mv _ _ c.requires)

pub returns-else-s-2 : goal.returns-else-s-2
returns-else-s-2 c =
    asked _ _ c.in-MV.is (is-asked _ (inr (inr (inr refl)))) (c.hours_fit-in-MV.ensures ∙ fits-mv _ _ c.requires ∙ fits-cut _ MV _ mv-size)

pub returns-in-FU : goal.returns-in-FU
returns-in-FU c = asked _ _ c.in-FU.is (is-asked _ (inl refl)) c.fu_fits.ensures

pub returns-in-MM : goal.returns-in-MM
returns-in-MM c = asked _ _ c.in-MM.is (is-asked _ (inr (inl refl))) c.mm_fits.ensures

pub returns-in_default : goal.returns-in_default
returns-in_default c =
    let d = c.in_default in
    unasked _ _ _ (not-asked _ d.not-FU d.not-MM d.not-FV d.not-MV)
