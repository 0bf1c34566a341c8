use mathlib.Core.Path.{refl, sym, ◌∙◌}
use borrow.Author.Tests.{lt-ltb, le-ltb, tests}
use Rattle.std.proofs.Common.{rules}
use Rattle.fit.specs.BySlots.{own_level_fits, owners_fit}
use Rattle.fit.proofs.Ranges.{all-to}
use Rattle.fit.proofs.owners_fit.Goals as goal

pub returns-then-top-lt334 : goal.returns-then-top-lt334
unfolding owners_fit
returns-then-top-lt334 c = rw (lt-ltb _ 334 c.if-top-lt334.true) refl

pub returns-then-slots_empty : goal.returns-then-slots_empty
unfolding owners_fit
returns-then-slots_empty c = rw (le-ltb _ 334 c.if-top-lt334.false, sym c.slots_empty.ensures ∙ c.if-slots_empty.true) refl

pub returns : goal.returns
unfolding owners_fit
returns c =
    let a = c.args in
    let levels = all-to (own_level_fits a.t a.index.now) 4 refl c.all.ensures.ran (λ x b q k. search (rules, tests)) in
    rw (
      le-ltb _ 334 c.if-top-lt334.false,
      sym c.slots_empty.ensures ∙ c.if-slots_empty.false,
      c.prorated_fit.ensures,
      levels,
    ) refl
