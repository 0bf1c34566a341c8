-- The answer, test by test.
use mathlib.Core.Path.{◌≡◌, refl, ap, sym, ◌∙◌}
use mathlib.Core.Bool.{true, false, not}
use mathlib.Core.List.{List, []}
use Prim.Native.Nat.{ℕ, ◌<◌}
use lib.Dec.{ltb}
use lib.ListN.{length}
use Rattle.records.specs.Table.{RS}
use Rattle.records.specs.Answers.{Accepted, Answer, or_else, refuse_if, Refused}
use Rattle.records.specs.Dossier.{records, scan}
use Rattle.records.proofs.Answers.{or_else-assoc}
use Rattle.records.proofs.Dossier.{joined-records}
use Rattle.station.specs.Current.{longest, twins, readable}
use Rattle.station.proofs.Current.{too_long}
use Rattle.station.specs.Parameters.{Parameters, parameters, technology}
use Rattle.rules.specs.Fit.{unfit}
use Rattle.rules.specs.Curve.{curve_fits, fuel_holds, window_fits, forecast_fits}
use Rattle.rules.specs.Answer.{unsupported, records_answer, answer}

-- ---- 7, 8, 9 and 17

module _ (s : Parameters) (n : ℕ) where
  pub draws-7 : false ≡ curve_fits s → Refused 7 n ≡ unsupported s n
  unfolding unsupported or_else refuse_if
  draws-7 p = rw (← p) refl

  pub draws-8 : true ≡ curve_fits s → false ≡ fuel_holds s → Refused 8 n ≡ unsupported s n
  unfolding unsupported or_else refuse_if
  draws-8 p q = rw (← p, ← q) refl

  pub draws-9 : true ≡ curve_fits s → true ≡ fuel_holds s → false ≡ window_fits s → Refused 9 n ≡ unsupported s n
  unfolding unsupported or_else refuse_if
  draws-9 p q r = rw (← p, ← q, ← r) refl

  pub draws-17 : true ≡ curve_fits s → true ≡ fuel_holds s → true ≡ window_fits s → false ≡ forecast_fits s → Refused 17 n ≡ unsupported s n
  unfolding unsupported or_else refuse_if
  draws-17 p q r t = rw (← p, ← q, ← r, ← t) refl

  pub draws-none : true ≡ curve_fits s → true ≡ fuel_holds s → true ≡ window_fits s → true ≡ forecast_fits s → Accepted ≡ unsupported s n
  unfolding unsupported or_else refuse_if
  draws-none p q r t = rw (← p, ← q, ← r, ← t) refl

-- ---- the whole

-- what a dossier that can be read draws
abbrev pub beyond_reading : List ℕ → Answer
beyond_reading d =
    or_else (refuse_if (not ((parameters (records d)).has RS 0)) 5 (length d))
    (or_else (unfit (technology (parameters (records d))) (records d))
    (unsupported (parameters (records d)) (length d)))

-- the answer is: whether it can be read, and then that
pub answer-parts : (d : List ℕ) → answer d ≡ or_else (readable d) (beyond_reading d)
unfolding answer records_answer readable
answer-parts d =
    let long : Answer = refuse_if (ltb longest (length d)) 13 0 in
    let faults : Answer = scan 0 (records d) in
    let twice : Answer = twins 0 [] (records d) in
    rw (joined-records d) (sym (or_else-assoc long (or_else faults twice) (beyond_reading d) ∙ ap (or_else long) (or_else-assoc faults twice (beyond_reading d))))

module _ (d : List ℕ) where
  pub unreadable : (n p : ℕ) → Refused n p ≡ readable d → Refused n p ≡ answer d
  unfolding or_else
  unreadable n p e = rw (answer-parts d, ← e) refl

  pub overlong : 60000 < length d → answer d ≡ Refused 13 0
  overlong h = sym (unreadable 13 0 (too_long d h))

  module _ (e : readable d ≡ Accepted) where
    pub no-station : (parameters (records d)).has RS 0 ≡ false → Refused 5 (length d) ≡ answer d
    unfolding or_else refuse_if
    no-station f = rw (answer-parts d, e, f) refl

    module _ (f : (parameters (records d)).has RS 0 ≡ true) where
      pub draws-6 : (n p : ℕ) → Refused n p ≡ unfit (technology (parameters (records d))) (records d) → Refused n p ≡ answer d
      unfolding or_else refuse_if
      draws-6 n p g = rw (answer-parts d, e, f, ← g) refl

      pub the_rest : {a : Answer} → Accepted ≡ unfit (technology (parameters (records d))) (records d) → a ≡ unsupported (parameters (records d)) (length d)
          → a ≡ answer d
      unfolding or_else refuse_if
      the_rest g h = rw (answer-parts d, e, f, ← g) h
