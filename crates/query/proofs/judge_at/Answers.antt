use mathlib.Core.Path.{refl, sym, ◌∙◌}
use Rattle.std.proofs.lemmas.Result.{err_from_is_err_and}
use Rattle.records.proofs.Answers.{not-refused}
use Rattle.records.specs.Answers.{refusal_of}
use Rattle.records.specs.Dossier.{records}
use Rattle.station.specs.InForce.{come, query}
use Rattle.index.specs.Holding.{IndexOf}
use Rattle.lookup.specs.Parts.{AtQuery}
use Rattle.lookup.proofs.Parts.{whole-index}
use Rattle.hours.proofs.Undated.{undated-at}
use Rattle.hours.proofs.Owned.{query-index}
use Rattle.formulas.proofs.Hours.{hour-refused}
use Rattle.lookup.proofs.Held.{query-indexed, parameters-held}
use Rattle.query.proofs.Asking.{asked-own, asked-then, unowned-at}
use Rattle.query.proofs.judge_at.Goals as goal
use Rattle.query.proofs.judge_at.Goals.{Joined-judged, Joined-judged-2, then-judged, else-judged, then-judged-2, else-judged-2}

pub at_hour-requires : goal.at_hour-requires
at_hour-requires c = whole-index _ _ c.in_ok-judged.ensures.read.0

-- the index is the hour's
its-hour : (c : Joined-judged) → IndexOf (come c.args.hour (records c.args.d.now)) c.args.d.now c.if-judged.index
its-hour c =
    let j = c.in_ok-judged.ensures.read in
    elim c.if-judged.branch [
      | then-judged w ↦ rw w.index-is w.at_hour.ensures
      | else-judged w ↦ rw w.index-is (undated-at (whole-index _ _ j.0) (j.2 w.if-judged.false) _)
    ]

-- and behind the owner's step the query's
its-query : (c : Joined-judged-2) → AtQuery (query c.args.hour c.args.owner) c.args.d.now c.if-judged-2.index
its-query c =
    let h = its-hour (goal.at.fuel_at-requires c).Joined-judged in
    elim c.if-judged-2.branch [
      | then-judged-2 w ↦ rw w.index-is (query-index _ _ h w.for_owner.ensures)
      | else-judged-2 w ↦ rw w.index-is (unowned-at _ h (c.in_ok-judged.ensures.read.3 w.if-judged-2.false))
    ]

pub fuel_at-requires : goal.fuel_at-requires
fuel_at-requires c = query-indexed _ (its-query c)

pub returns : goal.returns
unfolding refusal_of
returns c =
    let j = c.in_ok-judged.ensures in
    let q = its-query (goal.at.returns c).Joined-judged-2 in (
      c.fuel_at.ensures ∙ rw (parameters-held _ q) refl ∙ asked-then _ _ c.requires.2 (sym j.answer),
      λ z. (q, j.read.1),
    )

pub returns-in_err-judged : goal.returns-in_err-judged
unfolding refusal_of
returns-in_err-judged c =
    let o = c.requires.2 in
    let e = sym c.in_err-judged.ensures.answer in
    let p = err_from_is_err_and c.from_residual.result c.from_residual.ensures.1 in
    rw (p.1, p.2) (asked-own _ _ o e, λ z. absurd (not-refused _ _ (sym (hour-refused _ _ o e) ∙ z)))
