-- The way in: what closes it is what the query draws, and where it is open the owner is one of the two.
use mathlib.Core.Path.{◌≡◌, refl, sym, ◌∙◌}
use mathlib.Core.Bool.{Bool, true, false, ◌||◌, not}
use mathlib.Core.List.{List}
use Prim.Native.Nat.{ℕ}
use lib.Dec.{ltb}
use lib.ListN.{length}
use borrow.Author.Tests.{not-false, lt-leb, le-leb, ltb-true, ltb-false}
use Rattle.lists.specs.Tests.{between}
use Rattle.lists.proofs.Tests.{split, between-low, between-high}
use Rattle.std.specs.Prelude.{Result, Err}
use Rattle.records.specs.declared.Refusal.{Refusal}
use Rattle.records.specs.Answers.{Accepted, Answer, or_else, refuse_if, refusal_of, Refused}
use Rattle.records.specs.Dossier.{records}
use Rattle.records.proofs.Answers.{not-refused, or_else-parts, not-refuse_if}
use Rattle.station.specs.Current.{longest}
use Rattle.station.specs.InForce.{query}
use Rattle.lookup.specs.Parts.{too_long}
use Rattle.rules.specs.Answer.{records_answer, answer}
use Rattle.formulas.specs.Levels.{parameters_at, fuelled, IsOwner, owner_refusal, query_answer}
use Rattle.query.specs.Drawn.{way_answer}

module _ (d : List ℕ) (o : ℕ) where
  -- ---- as the code tries it

  tried : ltb o 1 || ltb 2 o ≡ not (between 1 2 o)
  unfolding between
  tried =
      split (ltb o 1)
      (λ e. rw (e, lt-leb 1 o (ltb-true o 1 e)) refl)
      (λ e. rw (e, le-leb 1 o (ltb-false o 1 e))
      (split (ltb 2 o) (λ f. rw (f, lt-leb o 2 (ltb-true 2 o f)) refl) (λ f. rw (f, le-leb o 2 (ltb-false 2 o f)) refl)))

  pub no-owner : ltb o 1 || ltb 2 o ≡ true → Refused 3 0 ≡ way_answer d o
  unfolding way_answer owner_refusal or_else refuse_if
  no-owner e = rw (sym tried ∙ e) refl

  -- of an owner the room for the dossier says it
  pub by-room : {A : Type 0} → ltb o 1 || ltb 2 o ≡ false → (w : Result A Refusal) → refusal_of w ≡ too_long d → refusal_of w ≡ way_answer d o
  unfolding way_answer owner_refusal or_else refuse_if
  by-room e w f = rw (sym tried ∙ e, f) refl

  -- ---- what it says

  -- what closes the way is drawn at every hour
  pub way-closed : {A : Type 0} {r : Refusal} (w : Result A Refusal) → refusal_of w ≡ way_answer d o → w ≡ Err r → (h : ℕ) → query_answer d (query h o) ≡ Err r
  unfolding way_answer query_answer answer owner_refusal or_else refuse_if refusal_of
  way-closed {A} {r} w e f h =
      go (not (between 1 2 o)) (ltb longest (length d)) (records_answer (records d)) (refuse_if (not (fuelled (parameters_at d (query h o)) h)) 20 0)
      (rw f at e)
    where
      go : (b c : Bool) (x y : Answer) → Err r ≡ or_else (refuse_if b 3 0) (refuse_if c 13 0)
          → or_else (refuse_if b 3 0) (or_else (or_else (refuse_if c 13 0) x) y) ≡ Err r
      go true c x y z = sym z
      go false true x y z = sym z
      go false false x y z = absurd (not-refused _ _ z)

  -- where none does, the owner is one of the two
  pub way-open : {A : Type 0} (w : Result A Refusal) → refusal_of w ≡ way_answer d o → refusal_of w ≡ Accepted → IsOwner o
  unfolding way_answer owner_refusal
  way-open w e f =
      let p = or_else-parts (refuse_if (not (between 1 2 o)) 3 0) (refuse_if (ltb longest (length d)) 13 0) (sym e ∙ f) in
      let b : between 1 2 o ≡ true = not-false _ (not-refuse_if (not (between 1 2 o)) 3 0 p.0) in
      (between-low 1 2 o b, between-high 1 2 o b)
