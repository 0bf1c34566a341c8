-- The other owner's costs change nothing, a dossier without AO means the same to both, and any other owner draws 3.
use mathlib.Core.Path.{◌≡◌, refl, ap, sym, ◌∙◌}
use mathlib.Core.Bool.{Bool, true, false, cond, ◌&&◌, ◌||◌, not}
use mathlib.Core.List.{List, ◌∷◌}
use Prim.Native.Nat.{ℕ}
use lib.Dec.{leb, eqb}
use Rattle.lists.specs.Lists.{Pairwise, none, more, those}
use Rattle.lists.specs.Tests.{between}
use Rattle.lists.proofs.Tests.{split, and_right, between-low, between-high, in_between}
use Rattle.records.specs.Table.{AO}
use Rattle.records.specs.Record.{kind, since, told}
use Rattle.records.specs.Answers.{or_else, refuse_if, is_accepted, Refused}
use Rattle.records.specs.Dossier.{records}
use Rattle.station.specs.InForce.{speaks_to, Query, query, in_force}
use Rattle.station.specs.Parameters.{parameters, amounts}
use Rattle.station.proofs.Owners.{force-those, unowned-force}
use Rattle.formulas.specs.Levels.{IsOwner, owner_refusal, query_answer, levels}
use Rattle.formulas.proofs.Hours.{owner-unknown}
use Rattle.verdicts.specs.Verdict.{settle, numbers, on_offer, on_price}
use Rattle.layout.specs.Report.{buffer_with, report_answer, buffer_after}
use Rattle.promise.specs.AlikeBut.{AlikeBut}
use Rattle.promise.specs.Owners.{of_other, OthersCosts, SameToBoth, OwnerDeclared}
use Rattle.promise.proofs.AlikeBut.{but_same, but-since, but-speaks}
use Rattle.promise.proofs.Meaning.{same-for, same_at}

-- ---- the other owner's costs

-- of two lists that differ only where a test fails, those that it holds of are the same
those-same : {A : Type 0} (f : A → Bool) {R : A → A → Type 0} → ((a b : A) → R a b → (f a ≡ f b) × (f a ≡ true → a ≡ b))
    → {l m : List A} → Pairwise R l m → those f l ≡ those f m
unfolding those
those-same f h none = refl
those-same f h (more {a = a} {b = b} {l = l} {m = m} r w) = go (f a) refl (those-same f h w)
  where
    go : (x : Bool) → f a ≡ x → those f l ≡ those f m → cond (f a) (a ∷ those f l) (those f l) ≡ cond (f b) (b ∷ those f m) (those f m)
    go true e z = rw (← (h a b r).0, e, (h a b r).1 e, z) refl
    go false e z = rw (← (h a b r).0, e, z) refl

-- a record that speaks to the owner is not another owner's
speaks-other : (o : ℕ) (r : List ℕ) → speaks_to o r ≡ true → of_other o r ≡ false
unfolding speaks_to of_other
speaks-other o r = go (eqb (kind r) AO) (eqb (told AO 0 r) o)
  where
    go : (a b : Bool) → not a || b ≡ true → a && not b ≡ false
    go true true e = refl
    go true false e = sym e
    go false b e = refl

force-same : (q : Query) {l m : List (List ℕ)} → Pairwise (AlikeBut (of_other q.owner)) l m → in_force q l ≡ in_force q m
force-same q {l} {m} a = force-those q l ∙ those-same f (λ r s b. (test r s b, same r s b)) a ∙ sym (force-those q m)
  where
    f : List ℕ → Bool
    f r = leb (since r) q.hour && speaks_to q.owner r

    test : (r s : List ℕ) → AlikeBut (of_other q.owner) r s → f r ≡ f s
    test r s b = rw (but-since b, but-speaks b q.owner) refl

    same : (r s : List ℕ) → AlikeBut (of_other q.owner) r s → f r ≡ true → r ≡ s
    same r s b e = but_same b (speaks-other q.owner r (and_right (leb (since r) q.hour) (speaks_to q.owner r) e))

pub others-costs : OthersCosts
others-costs d e a b q w =
    let z : in_force q (records d) ≡ in_force q (records e) = force-same q w in
    (z, same_at a b q (ap parameters z) (ap amounts z))

-- ---- without AO

pub same-to-both : SameToBoth
unfolding query_answer owner_refusal between levels
same-to-both d u =
    record {
      force = λ q. unowned-force q u;
      both = λ h. same-for d d (query h 1) (query h 2) (rw (one h) refl) refl (ap parameters (one h)) (rw (one h) refl);
    }
  where
    one : (h : ℕ) → in_force (query h 1) (records d) ≡ in_force (query h 2) (records d)
    one h = unowned-force (query h 1) u ∙ sym (unowned-force (query h 2) u)

-- ---- whom a query names

pub owner-declared : OwnerDeclared
unfolding on_offer on_price settle numbers report_answer buffer_after buffer_with is_accepted or_else query_answer owner_refusal refuse_if
owner-declared =
    record {
      other = λ d q n.
          let z : query_answer d q ≡ Refused 3 0 = owner-unknown d q (outside q n) in
          record {
            drawn = z;
            offers = λ c o. rw z refl;
            prices = λ v c price. rw z refl;
            answer = λ n. rw z refl;
            buffer = λ buf. rw z refl;
          };
      known = λ d q o. rw (in_between 1 2 q.owner o.0 o.1) refl;
    }
  where
    outside : (q : Query) → (IsOwner q.owner → ⊥) → between 1 2 q.owner ≡ false
    outside q n = split (between 1 2 q.owner) (λ e. absurd (n (between-low 1 2 q.owner e, between-high 1 2 q.owner e))) (λ e. e)
