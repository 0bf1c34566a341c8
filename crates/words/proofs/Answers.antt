-- The answer to a call for words, and the words after it.
use mathlib.Core.Path.{◌≡◌, refl, sym, subst}
use mathlib.Core.List.{List, [], ◌∷◌, ◌++◌, map}
use Prim.Native.Nat.{ℕ, zero, suc, ◌<◌, ◌≤◌}
use native.Mathlib.Omega.{arith}
use borrow.Author.Tests.{lt-ltb, le-ltb}
use lib.ListN.{length, get_or, drop, length-map}
use Rattle.std.specs.Prelude.{Err}
use Rattle.records.specs.declared.Refusal.{Refusal}
use Rattle.records.specs.Answers.{Accepted, Answer, or_else, refuse_if, is_accepted, Refused}
use Rattle.station.specs.InForce.{Query}
use Rattle.arrays.specs.declared.HourLevels.{HourLevels}
use Rattle.formulas.specs.Levels.{query_answer, Line, amount}
use Rattle.arrays.specs.Packed.{arrays_of, energy_lines, padded, packed, packed_at}
use Rattle.reference.specs.Held.{packed_held}
use Rattle.reference.proofs.Handed.{handed-count}
use Rattle.words.specs.Words.{Blank, words_of, words_answer, words_after}

-- what a call for dossier d and query q answers, and what it leaves of words that held e
abbrev pub Told : List ℕ → Query → List ℕ → Answer → List ℕ → Type 0
Told d q e a w = (a ≡ words_answer d q (length e)) × (w ≡ words_after d q e)

module _ (d : List ℕ) (q : Query) (e : List ℕ) where
  pub told-words : (r : HourLevels) {w : List ℕ} → query_answer d q ≡ Accepted → 66 ≤ length e
      → r ≡ packed_at d q → w ≡ words_of r ++ drop 66 e
      → Told d q e Accepted w
  unfolding words_answer words_after or_else refuse_if is_accepted
  told-words r a l p w = rw (a, le-ltb (length e) 66 l, ← p) (refl, w)

  -- too few words
  pub told-few : query_answer d q ≡ Accepted → length e < 66 → Told d q e (Refused 15 0) e
  unfolding words_answer words_after or_else refuse_if is_accepted
  told-few a l = rw (a, lt-ltb (length e) 66 l) (refl, refl)

  -- a refused dossier's refusal comes first
  pub told-refusal : (r : Refusal) → query_answer d q ≡ Err r → Told d q e (Err r) e
  unfolding words_answer words_after or_else is_accepted
  told-refusal r a = rw a (refl, refl)

-- ---- what `profile_levels` hands over has nothing past its laminations

padded-past : (k i : ℕ) (l : List ℕ) → length l ≤ i → get_or (padded k l) i 0 ≡ 0
unfolding padded
padded-past zero i l h = refl
padded-past (suc k) zero [] h = refl
padded-past (suc k) (suc i) [] h = padded-past k i [] (omega arith)
padded-past (suc k) zero (x ∷ l) h = absurd (omega arith)
padded-past (suc k) (suc i) (x ∷ l) h = padded-past k i l (omega arith)

column-past : (g : Line → ℕ) (l : List Line) (i : ℕ) → length l ≤ i → get_or (padded 20 (map g l)) i 0 ≡ 0
column-past g l i h = padded-past 20 i (map g l) (rw length-map h)

packed-blank : (t p : ℕ) (l : List Line) → (packed t p l).count ≤ 20 → Blank (arrays_of (packed t p l))
unfolding packed
packed-blank t p l h =
    record {
      few = h;
      none =
          λ i g. rw (
            column-past (λ x. x.from) (energy_lines l) i g,
            column-past (λ x. x.to) (energy_lines l) i g,
            column-past (λ x. amount x) (energy_lines l) i g,
          ) refl;
    }

pub handed-blank : (d ix : List ℕ) (p : ℕ) {r : HourLevels} → r ≡ packed_held d ix p → Blank (arrays_of r)
handed-blank d ix p e =
    subst (λ (x : HourLevels). Blank (arrays_of x)) (sym e) (packed-blank _ _ _ (handed-count d ix p refl))
