use mathlib.Core.Path.{refl}
use mathlib.Core.Bool.{◌&&◌}
use borrow.Author.Tests.{eq-eqb, ne_eqb, tests}
use Rattle.std.proofs.Common.{rules}
use Rattle.std.proofs.iter.Serving.{serving}
use Rattle.records.specs.Table.{FU}
use Rattle.records.specs.Dossier.{records}
use Rattle.station.specs.Current.{current}
use Rattle.lookup.proofs.Held.{whole-indexed}
use Rattle.rules.specs.Fit.{fits}
use Rattle.fit.specs.BySlots.{items_fit, profiles_fit}
use Rattle.fit.proofs.Plain.{body-whole}
use Rattle.fit.proofs.Ranges.{all-to}
use Rattle.fit.proofs.profiles_fit.Goals as goal

pub returns-then-t-eq1 : goal.returns-then-t-eq1
unfolding profiles_fit
returns-then-t-eq1 c = rw (eq-eqb _ 1 c.if-t-eq1.true) refl

pub all-requires-clause-callable : goal.all-requires-clause-callable
all-requires-clause-callable c =
    let i = whole-indexed c.requires.0 in
    grind (serving, i, c.requires.0, c.requires.1, c.requires.2)

pub returns : goal.returns
unfolding profiles_fit
returns c =
    let a = c.args in
    let q = c.requires in
    rw (ne_eqb _ 1 c.if-t-eq1.false)
    (all-to (λ p. fits a.t FU (current FU p (records a.d.now)) && items_fit a.t a.d.now p) 4 refl c.all.ensures.ran
    (λ x b f k. let e = body-whole q.0 q.1 FU x in search (rules, tests)))
