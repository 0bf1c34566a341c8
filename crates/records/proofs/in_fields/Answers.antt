use mathlib.Core.Path.{refl}
use borrow.Author.Tests.{eq-eqb, ne_eqb}
use Rattle.records.specs.MarkShapes.{key_fits}
use Rattle.records.proofs.in_fields.Goals as goal

pub returns-then-m-eq0 : goal.returns-then-m-eq0
unfolding key_fits
returns-then-m-eq0 c = rw (eq-eqb _ _ c.if-m-eq0.true) c.in_field.ensures

pub returns-then-m-eq0-2 : goal.returns-then-m-eq0-2
unfolding key_fits
returns-then-m-eq0-2 c =
    rw (
      c.in_field-then-m-eq0-2-2.ensures,
      c.in_field-then-m-eq0-2.ensures,
      ne_eqb _ _ c.if-m-eq0.false,
      eq-eqb _ _ c.if-m-eq0-2.true,
    ) refl

pub returns-then-m-eq0-3 : goal.returns-then-m-eq0-3
unfolding key_fits
returns-then-m-eq0-3 c =
    rw (
      c.in_field-then-m-eq0-3-3.ensures,
      c.in_field-then-m-eq0-3-2.ensures,
      c.in_field-then-m-eq0-3.ensures,
      ne_eqb _ _ c.if-m-eq0.false,
      ne_eqb _ _ c.if-m-eq0-2.false,
      eq-eqb _ _ c.if-m-eq0-3.true,
    ) refl

pub returns : goal.returns
unfolding key_fits
returns c =
    rw (
      c.in_field-5.ensures,
      c.in_field-4.ensures,
      c.in_field-3.ensures,
      c.in_field-2.ensures,
      ne_eqb _ _ c.if-m-eq0.false,
      ne_eqb _ _ c.if-m-eq0-2.false,
      ne_eqb _ _ c.if-m-eq0-3.false,
    ) refl
