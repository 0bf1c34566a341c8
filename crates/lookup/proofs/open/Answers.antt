use mathlib.Core.Path.{ap, sym, ◌∙◌}
use mathlib.Core.Bool.{Bool}
use native.Mathlib.Omega.{arith}
use borrow.Author.Tests.{ltb-true}
use Rattle.std.proofs.lemmas.Result.{err_from_is_err_and}
use Rattle.lists.proofs.Tests.{and_left, and_right}
use Rattle.records.proofs.Answers.{not-refused}
use Rattle.index.specs.Passed.{Ended}
use Rattle.lookup.proofs.Opening.{scan-stopped, scan-rising, scan-twins}
use Rattle.lookup.proofs.open.Goals as goal

pub returns-in_err-pass : goal.returns-in_err-pass
returns-in_err-pass c =
    let p = err_from_is_err_and c.from_residual.result c.from_residual.ensures.1 in
    rw (p.1, p.2) (scan-stopped _ _ c.in_err-pass.ensures.pass, λ e. absurd (not-refused _ _ e))

pub returns-then-pass-index : goal.returns-then-pass-index
returns-then-pass-index c =
    let s = c.in_ok-pass.pass in
    let e = c.in_ok-pass.ensures in
    let t = c.if-pass-index.true in
    let z = ltb-true s.top _ (and_right s.rising _ t) in (
      scan-rising _ _ (ap (λ (b : Bool). Ended b s.top s.dated) (sym (and_left s.rising _ t)) ∙ e.pass) (omega (arith, z, c.scan.auto.index)) e.read.0,
      λ _. (e.read.0, e.read.2),
    )

pub returns : goal.returns
returns c =
    let r = c.in_ok-pass.ensures.read in
    (c.first_twin.ensures ∙ sym (scan-twins _ r.0), λ _. (r.0, r.2))
