use mathlib.Core.Path.{sym, ◌∙◌}
use Rattle.fit.proofs.Unfit.{profiles-accepted, readable-distinct}
use Rattle.fit.proofs.unfit_of.Goals as goal

pub returns-then-profiles_fit : goal.returns-then-profiles_fit
returns-then-profiles_fit c =
    let a = c.args in
    let p = c.requires in
    profiles-accepted a.t a.d.now p.4 p.0.clean p.2 (readable-distinct _ p.3) (sym c.profiles_fit.ensures ∙ c.if-profiles_fit.true)
    (p.5 c.if-slots.true)
