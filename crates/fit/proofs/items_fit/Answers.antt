use mathlib.Core.Path.{refl, sym, ◌∙◌}
use Prim.Native.Nat.{◌+◌, ◌*◌}
use native.Mathlib.Omega.{arith}
use borrow.Author.Tests.{tests}
use Rattle.std.proofs.Common.{rules}
use Rattle.std.proofs.iter.Serving.{serving}
use Rattle.records.specs.Table.{MM}
use Rattle.records.specs.Dossier.{records}
use Rattle.station.specs.Current.{current}
use Rattle.index.specs.Slots.{slot}
use Rattle.lookup.proofs.Held.{whole-indexed}
use Rattle.rules.specs.Fit.{fits}
use Rattle.fit.specs.BySlots.{items_fit}
use Rattle.fit.proofs.Plain.{body-whole}
use Rattle.fit.proofs.Ranges.{all-to}
use Rattle.fit.proofs.Unfit.{no_items}
use Rattle.fit.proofs.items_fit.Goals as goal

pub slots_empty-requires : goal.slots_empty-requires
unfolding slot
slots_empty-requires c = let q = c.requires in omega (arith, c.slot_mm.ensures, q.0.roomy, q.3, q.4)

pub returns-then-slots_empty : goal.returns-then-slots_empty
returns-then-slots_empty c =
    let a = c.args in
    let q = c.requires in
    no_items a.t a.d.now a.index.now a.p q.2 q.0 q.3 q.4 c.slot_mm.ensures
    (sym c.slots_empty.ensures ∙ c.if-slots_empty.true)

pub all-requires-clause-callable : goal.all-requires-clause-callable
all-requires-clause-callable c =
    let i = whole-indexed c.requires.0 in
    grind (serving, i, c.requires.2, c.requires.3, c.requires.4)

pub returns : goal.returns
unfolding items_fit
returns c =
    let a = c.args in
    let q = c.requires in
    all-to (λ j. fits a.t MM (current MM (a.p * 256 + j) (records a.d.now))) 8 refl c.all.ensures.ran
    (λ x b f k. let e = body-whole q.0 q.1 MM (a.p * 256 + x) in search (rules, tests))
