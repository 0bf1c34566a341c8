use Rattle.std.proofs.lemmas.Result.{err_from_is_err_and}
use Rattle.records.specs.Answers.{refusal_of}
use Rattle.acceptance.proofs.accept_in.Goals as goal

pub returns-in_err-judge : goal.returns-in_err-judge
unfolding refusal_of
returns-in_err-judge g c =
    let p = err_from_is_err_and c.from_residual.result c.from_residual.ensures.1 in
    rw (p.1, p.2) c.in_err-judge.ensures.answer

pub returns : goal.returns
unfolding refusal_of
returns g c = c.in_ok-judge.ensures.answer
