-- The declared readings hold.
use mathlib.Core.Path.{◌≡◌, refl, ap, sym, ◌∙◌}
use mathlib.Core.Bool.{Bool, true, false, cond, not, true≢false}
use mathlib.Core.List.{List, [], ◌∷◌}
use Prim.Native.Nat.{ℕ, suc, ◌≤◌, ◌<◌}
use native.Mathlib.Omega.{arith}
use lib.Dec.{leb}
use lib.ListN.{length, get_or}
use borrow.Author.Tests.{leb-true, leb-false, eq-eqb, lt-ltb}
use Rattle.std.specs.Prelude.{Ok, Err}
use Rattle.lists.specs.Lists.{Each}
use Rattle.lists.specs.Tests.{between}
use Rattle.lists.proofs.Lists.{each_map, member-each, those-each, those-test, each-those}
use Rattle.lists.proofs.Tests.{split, and_both}
use Rattle.records.specs.Table.{table, row_of, FU}
use Rattle.records.specs.Record.{mark_in, mark, is_dated, kind_of, kind, since, key_of}
use Rattle.records.specs.Answers.{Accepted, Answer, or_else, refuse_if, answer_numbers, number_of, Refused}
use Rattle.records.specs.Dossier.{records}
use Rattle.station.specs.Current.{matches, current, present}
use Rattle.station.specs.Declared.{CurrentOf, absent, standing}
use Rattle.station.specs.InForce.{come, counts, Query, in_force}
use Rattle.station.specs.Parameters.{parameters}
use Rattle.station.proofs.Current.{current-found}
use Rattle.station.proofs.InForce.{counts_some, counts-declared, declared-counts}
use Rattle.station.proofs.Owners.{come-current}
use Rattle.rules.specs.Answer.{answer, IsAccepted}
use Rattle.rules.proofs.Sound.{accepted-sound, sound-accepted}
use Rattle.formulas.specs.Levels.{parameters_in, parameters_at, profile, owner_refusal, fuelled, query_answer}
use Rattle.formulas.proofs.Profile.{profile-always}
use Rattle.formulas.proofs.Hours.{hour-without}
use Rattle.promise.specs.Declared.{CurrentDeclared, CountingDeclared, FuelDeclared, AcceptanceDeclared}

pub current-declared : CurrentDeclared
current-declared = current-found

pub counting-declared : CountingDeclared
unfolding counts
counting-declared = record { some = counts_some; own = λ all r e. e; only = counts-declared; always = declared-counts }

-- ---- fuel at an hour

-- no record is empty
marked-present : (r : List ℕ) {k : ℕ} → kind r ≡ suc k → present r ≡ true
unfolding kind kind_of is_dated mark mark_in table row_of present
marked-present [] {k} e = absurd (let z : 0 ≡ suc k = e in omega (arith, z))
marked-present (b ∷ r) e = lt-ltb 0 (length (b ∷ r)) (omega arith)

module _ (h n : ℕ) (l : List (List ℕ)) where
  -- every record of the profile's fuel has a later first hour
  abbrev Ahead : Type 0
  Ahead = Each (λ r. matches FU n r ≡ true → h < since r) l

  none_ahead : present (current FU n (come h l)) ≡ false → Ahead
  unfolding come
  none_ahead = go (current FU n (come h l)) (current-found FU n (come h l))
    where
      go : (r : List ℕ) → CurrentOf FU n (come h l) r → present r ≡ false → Ahead
      go r (absent q w) e =
          each_map (λ s f m. split (leb (since s) h) (λ c. absurd (true≢false (sym m ∙ f c))) (λ c. leb-false (since s) h c))
          (each-those (λ s. leb (since s) h) l w)
      go r (standing q) e = absurd (true≢false (sym (marked-present r q.marked) ∙ e))

  ahead_none : Ahead → present (current FU n (come h l)) ≡ false
  unfolding come present matches
  ahead_none w = go (current FU n (come h l)) (current-found FU n (come h l))
    where
      go : (r : List ℕ) → CurrentOf FU n (come h l) r → present r ≡ false
      go r (absent q e) = rw q refl
      go r (standing q) =
          let came : since r ≤ h = leb-true (since r) h (member-each q.member (those-test (λ s. leb (since s) h) l)) in
          let later : h < since r =
          member-each q.member (those-each (λ s. leb (since s) h) w) (and_both _ _ (eq-eqb (kind r) FU q.marked) (eq-eqb (key_of r) n q.keyed)) in
          absurd (omega arith)

module _ (d : List ℕ) (a : IsAccepted d) (q : Query) where
  -- the hour's profile is the same, whatever has come, and fuel is the same to every owner
  in-force : fuelled (parameters_at d q) q.hour ≡ present (current FU (profile (parameters_in d) q.hour) (come q.hour (records d)))
  unfolding fuelled parameters
  in-force =
      ap (λ (n : ℕ). present (current FU n (in_force q (records d)))) (profile-always (records d) q)
      ∙ ap present (come-current q FU (profile (parameters_in d) q.hour) refl (records d))

  -- an owner draws 3 or nothing
  without-fuel : query_answer d q ≡ Refused 20 0 → fuelled (parameters_at d q) q.hour ≡ false
  unfolding query_answer owner_refusal or_else refuse_if number_of
  without-fuel e = go (between 1 2 q.owner) (fuelled (parameters_at d q) q.hour) (rw a.clean at e)
    where
      go : (b f : Bool) → or_else (cond (not b) (Refused 3 0) Accepted) (cond (not f) (Refused 20 0) Accepted) ≡ Refused 20 0 → f ≡ false
      go true true z = absurd (let n : ◌≡◌ {A = ℕ} 0 20 = ap number_of z in omega arith)
      go b false z = refl
      go false true z = absurd (let n : ◌≡◌ {A = ℕ} 3 20 = ap number_of z in omega arith)

pub fuel-declared : FuelDeclared
fuel-declared =
    record {
      only = λ d a q e. none_ahead q.hour (profile (parameters_in d) q.hour) (records d) (sym (in-force d a q) ∙ without-fuel d a q e);
      always = λ d a q o e. hour-without d q o a (in-force d a q ∙ ahead_none q.hour (profile (parameters_in d) q.hour) (records d) e);
    }

-- ---- acceptance

accepted-numbers : (a : Answer) → answer_numbers a ≡ 0 ∷ [] → a ≡ Accepted
unfolding answer_numbers
accepted-numbers (Ok x) h = refl
accepted-numbers (Err r) h = absurd (let z : ◌≡◌ {A = ℕ} 2 0 = ap (λ l. get_or l 0 0) h in omega arith)

pub acceptance-declared : AcceptanceDeclared
acceptance-declared = record { only = accepted-sound; always = sound-accepted; numbers = λ d h. record { clean = accepted-numbers (answer d) h } }
