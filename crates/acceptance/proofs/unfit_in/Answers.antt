use mathlib.Core.Path.{◌≡◌, sym, ◌∙◌}
use mathlib.Core.Bool.{true, ◌||◌}
use lib.Dec.{ltb, eqb}
use lib.ListN.{length}
use Rattle.lists.proofs.Tests.{and_right}
use Rattle.records.specs.Dossier.{records}
use Rattle.lookup.proofs.Opening.{scan-twins}
use Rattle.trials.specs.Trials.{KeysFit}
use Rattle.fit.proofs.Unfit.{slots-keys, readable-distinct}
use Rattle.acceptance.proofs.unfit_in.Goals as goal
use Rattle.acceptance.proofs.unfit_in.Goals.{After-slots_tell-slots}

-- what the slots tell
told : (c : After-slots_tell-slots) → c.slots_tell-slots.result ≡ true → KeysFit c.args.t (records c.args.d.now)
told c e =
    let a = c.args in
    let p = c.requires in
    slots-keys a.t a.index.now a.rs.now a.top p.4 (and_right (a.dated || eqb a.t 1 || ltb 200 (length a.d.now)) _
    (sym c.slots_tell-slots.ensures ∙ e)) a.d.now p.5 p.0 p.1 p.6 (readable-distinct _ p.3)

pub unfit_dated-requires : goal.unfit_dated-requires
unfit_dated-requires c =
    let p = c.requires in
    (p.0, p.1, sym (scan-twins _ p.0) ∙ p.3, p.4, told (goal.at.unfit_dated-requires c).After-slots_tell-slots)

pub unfit_of-requires : goal.unfit_of-requires
unfit_of-requires c =
    let p = c.requires in
    (p.0, p.1, p.2 c.if-dated.false, p.3, p.4, told (goal.at.unfit_of-requires c).After-slots_tell-slots)
