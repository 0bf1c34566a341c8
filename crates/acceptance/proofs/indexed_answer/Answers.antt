use mathlib.Core.Path.{sym, ◌∙◌}
use borrow.Author.Rules.{rules}
use Rattle.std.proofs.lemmas.Result.{err_from_is_err_and}
use Rattle.lookup.proofs.Opening.{scan-twins}
use Rattle.rules.proofs.Draws.{unreadable}
use Rattle.acceptance.proofs.indexed_answer.Goals as goal
use Rattle.acceptance.proofs.indexed_answer.Goals.{then-not-pass+in_ok-first_twin, else-not-pass}

pub returns-in_err-first_twin : goal.returns-in_err-first_twin
returns-in_err-first_twin c =
    let p = err_from_is_err_and c.from_residual.result c.from_residual.ensures.1 in
    rw (p.1, p.2) (unreadable _ _ _ (c.in_err-first_twin.ensures ∙ sym (scan-twins _ c.requires.0)))

pub rules_after_reading-requires : goal.rules_after_reading-requires
rules_after_reading-requires c =
    let p = c.requires in (
      p.0,
      p.1,
      p.2,
      elim c.if-not-pass.branch [
        | then-not-pass+in_ok-first_twin w ↦ scan-twins _ p.0 ∙ sym w.in_ok-first_twin.ensures
        | else-not-pass w ↦ p.3 (search rules)
      ],
      p.4,
    )
