use mathlib.Core.Path.{◌≡◌, ap, ◌∙◌}
use mathlib.Core.Logic.{inl, inr}
use Rattle.records.specs.Marks.{row}
use Rattle.rules.specs.Fit.{holds, fits}
use Rattle.rules.proofs.ByMark.{fits-hp, fits-ad, fits-rq, fits-hr, fits-ch, fits-th, fits-fp, fits-lc, fits-ao, fits-fv, fits-av, fits-mv, fits-none}
use Rattle.trials.proofs.Laws.{by-its, of-mark}
use Rattle.trials.proofs.tried_at.Goals.{in-RS, in-HP, in-FU, in-AD, in-MM, in-HR, in-TH, in-FP, in-AO, in-FV, in-AV, in-MV, in-Unknown}
use Rattle.trials.proofs.tried_at.Goals as goal

pub returns : goal.returns
returns c =
    let p = c.requires in
    let its : c.match-mark.fits ≡ fits c.args.t (row c.mark_at-mark.result) c.args.s.now =
    elim c.match-mark.branch [
      | in-RS w ↦ by-its _ _ w.in-RS.is w.fits-is w.rs_fits-fits.ensures
      | in-HP w ↦ by-its _ _ w.in-HP.is w.fits-is (fits-hp _ _ p)
      | in-FU w ↦ by-its _ _ w.in-FU.is w.fits-is w.fu_fits-fits.ensures
      | in-AD w ↦ by-its _ _ w.in-AD.is w.fits-is (w.adder_fits-fits.ensures ∙ fits-ad _ _ p)
      | in-MM w ↦ by-its _ _ w.in-MM.is w.fits-is w.mm_fits-fits.ensures
      | in-HR w ↦ elim w.in-HR.is [
        | inl e ↦ by-its _ _ e w.fits-is (fits-hr _ _ p)
        | inr f ↦ elim f [ inl e ↦ by-its _ _ e w.fits-is (fits-ch _ _ p) | inr e ↦ by-its _ _ e w.fits-is (fits-lc _ _ p) ]
      ]
      | in-TH w ↦ by-its _ _ w.in-TH.is w.fits-is (w.level_held-fits.ensures ∙ ap (holds _) w.u8_at.ensures ∙ fits-th _ _ p)
      | in-FP w ↦ by-its _ _ w.in-FP.is w.fits-is (fits-fp _ _ p)
      | in-AO w ↦ by-its _ _ w.in-AO.is w.fits-is (w.adder_fits-fits-in-AO.ensures ∙ fits-ao _ _ p)
      | in-FV w ↦ by-its _ _ w.in-FV.is w.fits-is (w.fuel_fits-fits.ensures ∙ fits-fv _ _ p)
      | in-AV w ↦ by-its _ _ w.in-AV.is w.fits-is (w.adder_fits-fits-in-AV.ensures ∙ fits-av _ _ p)
      | in-MV w ↦ by-its _ _ w.in-MV.is w.fits-is (w.hours_fit-fits.ensures ∙ fits-mv _ _ p)
      | in-Unknown w ↦ elim w.in-Unknown.is [ inl e ↦ by-its _ _ e w.fits-is (fits-none _ _ p) | inr e ↦ by-its _ _ e w.fits-is (fits-rq _ _ p) ]
    ] in
    of-mark _ _ c.length_of.ensures its c.mark_at-mark.ensures
