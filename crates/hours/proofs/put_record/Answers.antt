use mathlib.Core.Path.{sym, ◌∙◌}
use native.Mathlib.Omega.{arith}
use borrow.Author.Tests.{eq-eqb, ne_eqb}
use Rattle.records.proofs.EveryMark.{dated-letter}
use Rattle.hours.proofs.put_record.Goals as goal

pub put_dated-requires : goal.put_dated-requires
put_dated-requires c =
    let p = c.requires in (
      dated-letter _ (λ e. omega (arith, e, p.0)) ∙ eq-eqb _ 86 (sym c.byte_at.ensures ∙ c.if-byte_at-eq86.true),
      p.1,
      p.2,
      p.3,
    )

pub put_undated-requires : goal.put_undated-requires
put_undated-requires c =
    let p = c.requires in (
      dated-letter _ (λ e. omega (arith, e, p.0)) ∙ ne_eqb _ 86 (λ e. c.if-byte_at-eq86.false (c.byte_at.ensures ∙ e)),
      p.0,
      p.1,
      p.2,
      p.3,
    )
