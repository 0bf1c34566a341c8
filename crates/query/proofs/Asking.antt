-- What a query tells those who ask: its refusal, or that it draws nothing, with its profile.
use mathlib.Core.Path.{◌≡◌, refl, sym, subst, ◌∙◌}
use mathlib.Core.Bool.{not}
use mathlib.Core.List.{List}
use Prim.Native.Nat.{ℕ, ◌≤◌}
use native.Mathlib.Omega.{arith}
use Rattle.std.specs.Prelude.{Ok, Err}
use Rattle.lists.proofs.Tests.{split}
use Rattle.records.specs.Answers.{Accepted, Answer, refuse_if, Refused}
use Rattle.records.specs.Dossier.{records}
use Rattle.records.proofs.Dossier.{scan-each}
use Rattle.station.specs.InForce.{come, Unowned, Query}
use Rattle.station.proofs.Owners.{force-each, unowned-force}
use Rattle.rules.specs.Answer.{answer}
use Rattle.index.specs.Holding.{IndexOf}
use Rattle.lookup.specs.Parts.{AtQuery, Indexed}
use Rattle.lookup.proofs.Held.{query-indexed}
use Rattle.formulas.specs.Levels.{parameters_at, profile, fuelled, IsOwner, query_answer}
use Rattle.formulas.proofs.Hours.{hour-accepted, hour-without, hour-refused, hour-parts}
use Rattle.query.specs.Drawn.{asked, asked_at, Asked, Answered}
use Rattle.query.proofs.Requests.{profile-range}

-- ---- what is drawn

module _ (d : List ℕ) (q : Query) where
  -- the profile, and whether it has fuel in force
  abbrev its-profile : ℕ
  its-profile = profile (parameters_at d q) q.hour

  -- a refused dossier's own refusal, and of an accepted one 20
  pub asked-own : IsOwner q.owner → {n p : ℕ} → answer d ≡ Refused n p → Refused n p ≡ asked_at d q
  unfolding asked_at asked
  asked-own o e = rw (hour-refused d q o e) refl

  pub asked-then : IsOwner q.owner → answer d ≡ Accepted
      → asked (refuse_if (not (fuelled (parameters_at d q) q.hour)) 20 0) its-profile ≡ asked_at d q
  unfolding asked_at refuse_if
  asked-then o e =
      split (fuelled (parameters_at d q) q.hour)
      (λ f. rw (hour-accepted d q o (record { clean = e }) f, f) refl)
      (λ f. rw (hour-without d q o (record { clean = e }) f, f) refl)

  -- and back
  pub asked-refused : {n p : ℕ} {r : Asked} → r ≡ asked_at d q → r ≡ Refused n p → query_answer d q ≡ Refused n p
  unfolding asked_at asked
  asked-refused {n} {p} e f = go (query_answer d q) (sym f ∙ e)
    where
      go : (a : Answer) → Refused n p ≡ asked a its-profile → a ≡ Refused n p
      go (Ok x) t = let z : ◌≡◌ {A = ℕ} 0 1 = cc t in absurd (omega arith)
      go (Err y) t = cc t

  asked-answered : {p : ℕ} → Answered p ≡ asked_at d q → (query_answer d q ≡ Accepted) × (p ≡ its-profile)
  unfolding asked_at asked
  asked-answered {p} e = go (query_answer d q) e
    where
      go : (a : Answer) → Answered p ≡ asked a its-profile → (a ≡ Accepted) × (p ≡ its-profile)
      go (Ok x) t = (refl, cc t)
      go (Err y) t = let z : ◌≡◌ {A = ℕ} 0 1 = cc t in absurd (omega arith)

  within : {ix : List ℕ} → AtQuery q d ix → (1 ≤ its-profile) × (its-profile ≤ 4)
  unfolding profile
  within i = profile-range (force-each q (scan-each 0 (records d) i.clean)) q.hour 16

-- ---- a query that is answered

-- what the functions below go by, which know no query, and then what ties their answers to the query's
pub record Ready (d : List ℕ) (q : Query) (p : ℕ) (ix : List ℕ) : Type 0 where
  pub accepted : answer d ≡ Accepted
  pub indexed : Indexed d ix
  pub low : 1 ≤ p
  pub high : p ≤ 4
  pub drawn : query_answer d q ≡ Accepted
  pub its : p ≡ profile (parameters_at d q) q.hour
  pub index : AtQuery q d ix

pub ready : (d : List ℕ) (q : Query) {p : ℕ} {ix : List ℕ} {r : Asked} {More : Type 0} → r ≡ asked_at d q
    → (query_answer d q ≡ Accepted → AtQuery q d ix × More) → r ≡ Answered p → Ready d q p ix
ready d q e f g =
    let a = asked-answered d q (sym g ∙ e) in
    let i = (f a.0).0 in
    let w = within d q i in
    record {
      accepted = (hour-parts d q a.0).1.clean;
      indexed = query-indexed q i;
      low = rw a.1 w.0;
      high = rw a.1 w.1;
      drawn = a.0;
      its = a.1;
      index = i;
    }

-- where no record names an owner, the index of an hour is that of every query at it
pub unowned-at : (q : Query) {d ix : List ℕ} → IndexOf (come q.hour (records d)) d ix → Unowned d → AtQuery q d ix
unowned-at q {d} {ix} i u = subst (λ (l : List (List ℕ)). IndexOf l d ix) (sym (unowned-force q u)) i
