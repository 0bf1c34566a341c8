-- 8: a request's profile has an FU or FV, told request by request.
use mathlib.Core.Path.{◌≡◌, refl, ap, sym, ◌∙◌}
use mathlib.Core.Bool.{Bool, true, false, ◌&&◌, ◌||◌, not}
use mathlib.Core.List.{List, [], ◌∷◌}
use Prim.Native.Nat.{ℕ, zero, suc, ◌+◌, ◌≤◌, ◌<◌}
use native.Mathlib.Nat.{le_refl}
use native.Mathlib.Numerals.{add-one}
use native.Mathlib.Omega.{arith}
use lib.Dec.{ltb, eqb}
use lib.ListN.{length, get_or}
use borrow.Author.Tests.{lt-ltb, eq-eqb, ne_eqb}
use Rattle.lists.specs.Tests.{all_to}
use Rattle.fields.specs.Numbers.{number}
use Rattle.fields.proofs.Numbers.{number-nil}
use Rattle.records.specs.Table.{FU, RQ}
use Rattle.records.specs.Dossier.{records}
use Rattle.station.specs.Current.{current, present}
use Rattle.station.specs.Parameters.{parameters, requested}
use Rattle.station.proofs.Fields.{requested-at}
use Rattle.index.specs.Slots.{slot, slots_empty}
use Rattle.lookup.specs.Parts.{Whole}
use Rattle.lookup.proofs.Keys.{fuel-key, request-key}
use Rattle.lookup.proofs.Parts.{current-in-empty, slot-tells, fits}
use Rattle.parameters.proofs.Points.{there-is}
use Rattle.rules.specs.Curve.{fuel_holds}
use Rattle.requirements.specs.Segments.{fuelled}

-- a request that asks for a profile is there
requested-there : (l : List (List ℕ)) (n : ℕ) → (requested (parameters l) n ≡ 0 → ⊥) → (parameters l).has RQ n ≡ true
unfolding parameters present
requested-there l n z = go (current RQ n l) (λ e. z (requested-at l n ∙ e))
  where
    go : (r : List ℕ) → (number 15 1 r ≡ 0 → ⊥) → ltb 0 (length r) ≡ true
    go [] w = absurd (w (number-nil 15 1))
    go (b ∷ r) w = lt-ltb 0 (suc (length r)) (omega arith)

module _ (l : List (List ℕ)) (n : ℕ) {p : ℕ} (e : p ≡ requested (parameters l) n) where
  pub request-none : p ≡ 0 → true ≡ fuelled (parameters l) n
  request-none z = rw (← e, eq-eqb p 0 z) (go ((parameters l).has RQ n))
    where
      go : (a : Bool) → true ≡ not a || true || (parameters l).has FU p
      go true = refl
      go false = refl

  pub request-named : (p ≡ 0 → ⊥) → {b : Bool} → b ≡ (parameters l).has FU p → b ≡ fuelled (parameters l) n
  request-named z f = rw (requested-there l n (λ w. z (e ∙ w)), ← e, ne_eqb p 0 z) f

pub fuel-whole : (l : List (List ℕ)) {a b : Bool} → a ≡ (parameters l).has FU 1 → b ≡ all_to 16 (fuelled (parameters l)) → a && b ≡ fuel_holds (parameters l)
unfolding fuel_holds
fuel-whole l p q = rw (p, q) refl

-- a profile has an FU or FV as its slot tells
module _ (d ix : List ℕ) (h : Whole d ix) (p : ℕ) (low : 1 ≤ p) (high : p ≤ 4) {j : ℕ} (at : j ≡ slot FU p) where
  pub fuel-fits : j < length ix
  fuel-fits = rw at (fits ix h.roomy FU p (fuel-key p low high) refl)

  pub fuel-told : not (eqb (get_or ix j 0) 0) ≡ (parameters (records d)).has FU p
  fuel-told =
      let i = fuel-key p low high in
      rw at (sym (slot-tells d ix h FU p i (fits ix h.roomy FU p i refl)) ∙ there-is (records d) FU p refl)

-- where the slots of all requests are empty, there is none
module _ (d ix : List ℕ) (h : Whole d ix) {j : ℕ} (first : j ≡ slot RQ 1) (empty : slots_empty ix j 16 ≡ true) where
  unrequested : (n : ℕ) → n < 16 → current RQ (n + 1) (records d) ≡ []
  unfolding slot
  unrequested n p =
      let i = request-key (n + 1) (omega arith) (omega arith) in
      current-in-empty d ix h RQ (n + 1) i (fits ix h.roomy RQ (n + 1) i refl) j 16 empty (omega (arith, first)) (omega (arith, first))

  fuelled-to : (n : ℕ) → n ≤ 16 → true ≡ all_to n (fuelled (parameters (records d)))
  unfolding all_to
  fuelled-to zero p = refl
  fuelled-to (suc n) p =
      let none : requested (parameters (records d)) (n + 1) ≡ 0 = requested-at (records d) (n + 1)
      ∙ ap (number 15 1) (unrequested n (omega arith)) ∙ number-nil 15 1 in
      let k : fuelled (parameters (records d)) (n + 1) ≡ true = sym (request-none (records d) (n + 1) (sym none) refl) in
      rw (← fuelled-to n (omega arith), ← add-one n, k) refl

  pub requests-none : true ≡ all_to 16 (fuelled (parameters (records d)))
  requests-none = fuelled-to 16 (le_refl 16)
