-- What is not yet in force changes nothing, and a dossier without first hours means what it meant without them.
use mathlib.Core.Path.{◌≡◌, refl, ap, sym, subst, ◌∙◌}
use mathlib.Core.Bool.{true}
use mathlib.Core.List.{List, ◌++◌}
use Prim.Native.Nat.{ℕ, ◌<◌}
use lib.Dec.{eqb}
use borrow.Author.Tests.{lt-leb}
use Rattle.lists.specs.Lists.{Each, done, also, Permutation, those}
use Rattle.lists.proofs.Lists.{each_map}
use Rattle.records.specs.Answers.{Accepted}
use Rattle.records.specs.Table.{FU}
use Rattle.records.specs.Record.{mark, since, issue, key_of}
use Rattle.records.specs.Dossier.{records}
use Rattle.station.specs.Current.{current, present}
use Rattle.station.specs.InForce.{come, counts, Undated, speaks_to, Query, in_force}
use Rattle.station.specs.Parameters.{parameters}
use Rattle.station.specs.Declared.{Distinct}
use Rattle.station.proofs.Owners.{force-permuted, force-distinct, come-current}
use Rattle.station.proofs.Undated.{undated-kind, undated-come, undated-counts}
use Rattle.station.proofs.Parameters.{parameters-permuted, amounts-permuted}
use Rattle.rules.specs.Answer.{IsAccepted}
use Rattle.rules.proofs.Sound.{accepted-sound}
use Rattle.formulas.specs.Levels.{parameters_in, parameters_at, profile, IsOwner, fuelled, query_answer, lines, levels}
use Rattle.formulas.proofs.Profile.{profile-always}
use Rattle.formulas.proofs.Hours.{hour-accepted, levels-fuelled, holds-fuelled}
use Rattle.verdicts.specs.Verdict.{settle, on_offer, on_price}
use Rattle.layout.specs.Report.{report}
use Rattle.promise.specs.Dated.{NotYet, records_to, parameters_to, amounts_to, AsBefore, OldMarks}
use Rattle.promise.proofs.Meaning.{same_at}

-- ---- before its first hour

-- records that have not come are not in force
ahead : (q : Query) {later : List (List ℕ)} (l : List (List ℕ)) → Each (λ r. q.hour < since r) later → in_force q (later ++ l) ≡ in_force q l
unfolding in_force come those
ahead q l done = refl
ahead q l (also {a = r} p e) = rw (lt-leb (since r) q.hour p) (ahead q l e)

pub not_yet : NotYet
not_yet d e later a b p q f =
    let s : Permutation (in_force q (records d)) (in_force q (records e)) =
    subst (λ (l : List (List ℕ)). Permutation l (in_force q (records e))) (ahead q (records d) f) (force-permuted q p) in
    let apart : Distinct (in_force q (records d)) = force-distinct q (records d) (accepted-sound d a).1.distinct in
    same_at a b q (parameters-permuted s apart) (amounts-permuted s apart)

-- ---- without first hours

module _ (d : List ℕ) (u : Undated d) where
  all_come : (q : Query) → in_force q (records d) ≡ records_to q.owner d
  unfolding in_force
  all_come q = ap (those (speaks_to q.owner)) (undated-come q.hour u)

  by-issue : Each (λ r. counts (records d) r ≡ eqb (issue r) (issue (current (mark r) (key_of r) (records d)))) (records d)
  by-issue = each_map (λ r e. undated-counts u r ∙ rw (undated-kind r e) refl) u

  module _ (a : IsAccepted d) where
    -- what 8 asks of all the records, and FU speaks to every owner
    fuel-always : (q : Query) → fuelled (parameters_at d q) q.hour ≡ true
    unfolding fuelled parameters
    fuel-always q =
        ap (λ (n : ℕ). present (current FU n (in_force q (records d)))) (profile-always (records d) q)
        ∙ ap present (come-current q FU (profile (parameters_in d) q.hour) refl (records d) ∙ rw (undated-come q.hour u) refl)
        ∙ holds-fuelled (parameters_in d) q.hour (accepted-sound d a).1.fuel

    levels-always : (q : Query) → levels d q ≡ lines (parameters_to q.owner d) (amounts_to q.owner d) q.hour
    levels-always q = levels-fuelled d q (fuel-always q) ∙ rw (all_come q) refl

    drawn-none : (q : Query) → IsOwner q.owner → query_answer d q ≡ Accepted
    drawn-none q o = hour-accepted d q o a (fuel-always q)

    pub as_before : AsBefore d
    unfolding on_offer on_price settle report
    as_before =
        record {
          force = all_come;
          current = by-issue;
          drawn = λ q o. drawn-none q o ∙ sym a.clean;
          levels = levels-always;
          offers = λ q i c o. rw (drawn-none q i, levels-always q, all_come q) refl;
          prices = λ q i v c price. rw (drawn-none q i, levels-always q, all_come q) refl;
          report = λ q. rw (levels-always q, all_come q) refl;
        }

pub old-marks : OldMarks
old-marks d a u = as_before d u a
