use mathlib.Core.Path.{refl, ap, sym, ◌∙◌}
use mathlib.Core.Bool.{Bool}
use native.Mathlib.Omega.{arith}
use Rattle.std.proofs.lemmas.Result.{err_from_is_err_and}
use Rattle.records.specs.Answers.{refusal_of}
use Rattle.index.specs.Passed.{Ended}
use Rattle.lookup.proofs.Opening.{scan-stopped, scan-rising, up-to-complete}
use Rattle.lookup.proofs.Week.{week-sums}
use Rattle.rules.proofs.Draws.{unreadable}
use Rattle.acceptance.proofs.Owned.{none_owned}
use Rattle.acceptance.proofs.judge.Goals as goal
use Rattle.acceptance.proofs.judge.Goals.{then-pass-index+in_ok-indexed_answer, else-pass-index+in_ok-judge_with_wider_index}

pub returns-in_err-pass-clause-answer : goal.returns-in_err-pass-clause-answer
unfolding refusal_of
returns-in_err-pass-clause-answer c =
    let p = err_from_is_err_and c.from_residual.result c.from_residual.ensures.1 in
    rw (p.1, p.2) (unreadable _ _ _ (scan-stopped _ _ c.in_err-pass.ensures.pass))

pub indexed_answer-requires : goal.indexed_answer-requires
indexed_answer-requires c =
    let s = c.in_ok-pass.pass in
    let e = c.in_ok-pass.ensures in
    let i = e.read in
    let fit = c.if-pass-index.true in (
      i.0,
      up-to-complete i.0 i.1 fit,
      i.1,
      λ r. sym (scan-rising _ _ (ap (λ (b : Bool). Ended b s.top s.dated) (sym r) ∙ e.pass) (omega (arith, fit, c.scan.auto.index)) i.0),
      i.3,
    )

pub returns-in_err-indexed_answer-clause-answer : goal.returns-in_err-indexed_answer-clause-answer
unfolding refusal_of
returns-in_err-indexed_answer-clause-answer c =
    let p = err_from_is_err_and c.from_residual-in_err-indexed_answer.result c.from_residual-in_err-indexed_answer.ensures.1 in
    rw (p.1, p.2) c.in_err-indexed_answer.ensures

pub returns-in_err-judge_with_wider_index-clause-answer : goal.returns-in_err-judge_with_wider_index-clause-answer
unfolding refusal_of
returns-in_err-judge_with_wider_index-clause-answer c =
    let p = err_from_is_err_and c.from_residual-in_err-judge_with_wider_index.result c.from_residual-in_err-judge_with_wider_index.ensures.1 in
    rw (p.1, p.2) c.in_err-judge_with_wider_index.ensures.0

pub returns-clause-answer : goal.returns-clause-answer
unfolding refusal_of
returns-clause-answer c = elim c.if-pass-index.branch [
  | then-pass-index+in_ok-indexed_answer w ↦ w.in_ok-indexed_answer.ensures
  | else-pass-index+in_ok-judge_with_wider_index w ↦ w.in_ok-judge_with_wider_index.ensures.0
]

pub returns-clause-read : goal.returns-clause-read
returns-clause-read c =
    let i = c.in_ok-pass.ensures.read in (
      i.0,
      elim c.if-pass-index.branch [
        | then-pass-index+in_ok-indexed_answer w ↦ rw w.sums-is (week-sums i.0 (up-to-complete i.0 i.1 w.if-pass-index.true) i.2)
        | else-pass-index+in_ok-judge_with_wider_index w ↦ rw w.sums-is (w.in_ok-judge_with_wider_index.ensures.1 refl)
      ],
      i.3,
      none_owned i.0 i.1,
    )
