-- The whole answer to a dossier.
use Rattle.std.specs.Prelude.{◌≡◌, not, List, [], ℕ, ltb, length}
use Rattle.lists.specs.Lists.{joined}
use Rattle.records.specs.Table.{RS}
use Rattle.records.specs.Answers.{Accepted, Answer, or_else, refuse_if}
use Rattle.records.specs.Dossier.{records, scan}
use Rattle.station.specs.Current.{longest, twins}
use Rattle.station.specs.Parameters.{Parameters, parameters, technology}
use Rattle.rules.specs.Fit.{unfit}
use Rattle.rules.specs.Curve.{curve_fits, fuel_holds, window_fits, forecast_fits}

-- 7, 8, 9 at "dossier length"; 17 is "tried after 9, at the dossier's length"
unfoldable pub unsupported : Parameters → ℕ → Answer
unsupported s n =
    or_else (refuse_if (not (curve_fits s)) 7 n)
    (or_else (refuse_if (not (fuel_holds s)) 8 n)
    (or_else (refuse_if (not (window_fits s)) 9 n)
    (refuse_if (not (forecast_fits s)) 17 n)))

-- of a dossier's records: "records in turn with 1, 2, 3; then 4 to 9"; "5 no RS" is at the dossier's length too, which is that of the records back to back
unfoldable pub records_answer : List (List ℕ) → Answer
records_answer l =
    or_else (scan 0 l)
    (or_else (twins 0 [] l)
    (or_else (refuse_if (not ((parameters l).has RS 0)) 5 (length (joined l)))
    (or_else (unfit (technology (parameters l)) l)
    (unsupported (parameters l) (length (joined l))))))

-- of a dossier: 13 is tried first
unfoldable pub answer : List ℕ → Answer
answer d = or_else (refuse_if (ltb longest (length d)) 13 0) (records_answer (records d))

-- "A dossier is accepted if it draws none of 1 to 9 and 13", and with 17 "such a dossier isn't accepted"
pub record IsAccepted (d : List ℕ) : Type 0 where
  pub clean : answer d ≡ Accepted
