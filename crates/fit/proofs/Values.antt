-- What FU and MM say, record by record: the loop over the records.
use mathlib.Core.Path.{◌≡◌, refl, ap, sym, ◌∙◌}
use mathlib.Core.Bool.{Bool, true, false}
use mathlib.Core.List.{List}
use Prim.Native.Nat.{ℕ, ◌+◌, ◌-◌, ◌≤◌, ◌<◌}
use lib.ListN.{length, take, drop}
use borrow.Author.Tests.{ne_eqb}
use Rattle.lists.specs.Tests.{every_of}
use Rattle.records.specs.Answers.{Accepted}
use Rattle.records.specs.Table.{thermal}
use Rattle.records.specs.Record.{mark, size, fault}
use Rattle.records.specs.Dossier.{records, scan}
use Rattle.records.proofs.Dossier.{scan-each}
use Rattle.records.proofs.Over.{tail, Over, begins, ends, its-mark, within, answers, goes_on}
use Rattle.trials.specs.Trials.{value_fits}
use Rattle.trials.proofs.Laws.{valued-take}
use Rattle.fit.specs.BySlots.{values_fit}

abbrev Sane : List ℕ → Type 0
Sane r = fault r ≡ 0

-- there is no state
abbrev saying : ℕ → ℕ → ℕ → List (List ℕ) → Bool
saying t _ p l = every_of (λ r. value_fits t (mark r) r) l

-- at place p of the loop
abbrev pub Asking : ℕ → List ℕ → ℕ → Type 0
Asking t d p = Over Sane (saying t) 0 d p 0

pub ask-first : (t : ℕ) (d : List ℕ) → scan 0 (records d) ≡ Accepted → Asking t d 0
ask-first t d h = begins (scan-each 0 (records d) h)

-- of a station that is not thermal
module _ (t : ℕ) (d : List ℕ) (other : t ≡ thermal → ⊥) where
  told : {b : Bool} → b ≡ every_of (λ r. value_fits t (mark r) r) (records d) → b ≡ values_fit t (records d)
  unfolding values_fit
  told e = rw (ne_eqb t thermal other) e

  pub ask-last : (p : ℕ) → length d ≤ p → Asking t d p → true ≡ values_fit t (records d)
  ask-last p h o = told (unfold every_of in ends h o)

  module _ (p : ℕ) (h : p < length d) (o : Asking t d p) {k n : ℕ} (ek : k ≡ mark (take (length d - p) (drop p d))) (en : n ≡ size k) where
    n-is : n ≡ size (mark (take (length d - p) (drop p d)))
    n-is = en ∙ ap size ek

    pub ask-within : (1 ≤ n) × (n ≤ length d - p)
    ask-within = within (λ r e. e) h o n-is

    module _ {b : Bool} (eb : b ≡ value_fits t k (take (length d - p) (drop p d))) where
      abbrev s : List ℕ
      s = drop p d

      its-value : value_fits t (mark (take n s)) (take n s) ≡ b
      its-value =
          ap (λ (j : ℕ). value_fits t j (take n s)) (its-mark (λ r e. e) h o n-is)
          ∙ ap (λ (m : ℕ). value_fits t (mark s) (take m s)) (n-is ∙ ap (λ (x : List ℕ). size (mark x)) (tail d p))
          ∙ valued-take t (mark s) s
          ∙ sym (eb ∙ ap (λ (j : ℕ). value_fits t j (take (length d - p) s)) ek ∙ ap (λ (x : List ℕ). value_fits t (mark x) x) (tail d p))

      pub ask-stops : b ≡ false → false ≡ values_fit t (records d)
      ask-stops e = told (unfold every_of in answers (λ r z. z) h o n-is (rw (its-value ∙ e) refl))

      pub ask-next : b ≡ true → Asking t d (p + n)
      unfolding every_of
      ask-next e = goes_on (λ r z. z) h o n-is (rw (its-value ∙ e) refl)
