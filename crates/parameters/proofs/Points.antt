-- Whether a record is there, as the code tells it; the points of the curve, counted by their slots.
use Rattle.records.specs.Record.{datable}
use mathlib.Core.Path.{◌≡◌, refl, ap, sym, ◌∙◌}
use mathlib.Core.Bool.{Bool, true, false, cond, not}
use mathlib.Core.List.{List}
use Prim.Native.Nat.{ℕ, zero, suc, ◌+◌, ◌≤◌, ◌<◌}
use native.Mathlib.Nat.{le_refl, add-zero}
use native.Mathlib.Numerals.{add-one}
use native.Mathlib.Omega.{arith}
use lib.Dec.{ltb, eqb}
use lib.ListN.{length, get_or, take, drop, length-drop}
use Rattle.std.specs.Prelude.{count_by}
use Rattle.std.proofs.lemmas.List.{get_or-drop}
use Rattle.std.proofs.lemmas.List.Sums.{count_by_more_yes, count_by_more_no}
use Rattle.rules.specs.Curve.{points}
use borrow.Author.Tests.{lt-ltb, le-ltb}
use Rattle.lists.specs.Tests.{count_to, among}
use Rattle.records.specs.Table.{HP, table}
use Rattle.records.specs.Dossier.{records}
use Rattle.station.specs.Current.{current, present}
use Rattle.station.specs.Parameters.{parameters}
use Rattle.index.specs.Slots.{slot}
use Rattle.lookup.specs.Parts.{Indexed}
use Rattle.lookup.proofs.Keys.{point-key}
use Rattle.lookup.proofs.Held.{slot-says}

pub there-is : (l : List (List ℕ)) (k n : ℕ) {r : List ℕ} → r ≡ current k n l → ltb 0 (length r) ≡ (parameters l).has k n
unfolding parameters present
there-is l k n e = rw e refl

pub none-there : (l : List (List ℕ)) (k n : ℕ) {r : List ℕ} → r ≡ current k n l → length r ≡ 0 → (parameters l).has k n ≡ false
none-there l k n {r} e z = sym (there-is l k n e) ∙ le-ltb 0 (length r) (omega arith)

pub one-there : (l : List (List ℕ)) (k n : ℕ) {r : List ℕ} → r ≡ current k n l → (length r ≡ 0 → ⊥) → (parameters l).has k n ≡ true
one-there l k n {r} e z = sym (there-is l k n e) ∙ lt-ltb 0 (length r) (omega arith)

-- a slot that holds a record
abbrev pub is_full : ℕ → Bool
is_full v = not (eqb v 0)

-- the slots of the points are counted as the points are
module _ (d ix : List ℕ) (h : Indexed d ix) {j : ℕ} (first : j ≡ slot HP 1) where
  abbrev there : ℕ → Bool
  there n = (parameters (records d)).has HP n

  -- each tells of its point
  point-told : (i : ℕ) → i < 21 → there (suc i) ≡ is_full (get_or (drop j ix) i 0)
  unfolding slot datable among table
  point-told i w =
      sym (there-is (records d) HP (suc i) refl) ∙ slot-says h HP (suc i) refl (point-key (suc i) (omega arith) (omega arith)) refl
      ∙ ap (λ (k : ℕ). is_full (get_or ix k 0)) (omega (arith, first)) ∙ ap is_full (sym (get_or-drop j ix i 0))

  points-to : (n : ℕ) → n ≤ 21 → n ≤ length (drop j ix) → count_by is_full (take n (drop j ix)) ≡ count_to n there
  unfolding count_to
  points-to zero p q = refl
  points-to (suc n) p q = go (is_full (get_or (drop j ix) n 0)) refl (points-to n (omega arith) (omega arith))
    where
      go : (b : Bool) → is_full (get_or (drop j ix) n 0) ≡ b
          → count_by is_full (take n (drop j ix)) ≡ count_to n there
          → count_by is_full (take (suc n) (drop j ix)) ≡ count_to n there + cond (there (suc n)) 1 0
      go true e r =
          rw (point-told n (omega arith), e)
          (rw add-one at (count_by_more_yes is_full (drop j ix) n 0 (omega arith) e) ∙ ap (λ (m : ℕ). m + 1) r)
      go false e r =
          rw (point-told n (omega arith), e, add-zero)
          (rw add-one at (count_by_more_no is_full (drop j ix) n 0 (omega arith) e) ∙ r)

  pub points-counted : j + 21 ≤ length ix → count_by is_full (take 21 (drop j ix)) ≡ points (parameters (records d))
  unfolding points
  points-counted w = points-to 21 (le_refl 21) (omega (arith, length-drop {A = ℕ}))
