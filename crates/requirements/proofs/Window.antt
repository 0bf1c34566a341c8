-- 9 and 17: the hours of the window and the places of the forecast.
use mathlib.Core.Path.{◌≡◌, refl, ap, ap₂, sym, ◌∙◌}
use mathlib.Core.Bool.{Bool, true, ◌&&◌, not}
use mathlib.Core.List.{List, []}
use Prim.Native.Nat.{ℕ, zero, suc, ◌+◌, ◌≤◌, ◌<◌}
use native.Mathlib.Omega.{arith}
use lib.Dec.{leb, ltb, eqb}
use lib.ListN.{length, get_or, get_or-eq_default}
use borrow.Author.Tests.{ltb-true, ltb-false, eq-eqb, ne_eqb}
use Rattle.lists.specs.Tests.{all_below, all_to}
use Rattle.lists.proofs.Tests.{split}
use Rattle.records.specs.Table.{HR, FP}
use Rattle.records.specs.Dossier.{records}
use Rattle.station.specs.Parameters.{Parameters, parameters, technology, window}
use Rattle.index.specs.Slots.{slot, slots_full}
use Rattle.index.proofs.KeyBounds.{InKey}
use Rattle.lookup.specs.Parts.{Whole, Complete}
use Rattle.lookup.proofs.Keys.{hour-key, place-key}
use Rattle.lookup.proofs.Parts.{slot-tells, beyond-index}
use Rattle.parameters.proofs.Points.{there-is, none-there}
use Rattle.rules.specs.Curve.{full_hours, hours_hold, window_fits, places_hold, forecast_fits}

-- a key is there as its slot tells; one without a slot in a complete index is not
module _ (d ix : List ℕ) (h : Whole d ix) (c : Complete d ix) (k n : ℕ) {j : ℕ} (ej : slot k n ≡ j) where
  key-beyond : length ix ≤ j → not (eqb (get_or ix j 0) 0) ≡ (parameters (records d)).has k n
  key-beyond b =
      rw (get_or-eq_default ix 0 b)
      (sym (none-there (records d) k n {r = []} (sym (beyond-index d ix c k n (omega (arith, b, ej)))) refl))

  key-within : InKey k n → j < length ix → not (eqb (get_or ix j 0) 0) ≡ (parameters (records d)).has k n
  key-within i b =
      ap (λ (m : ℕ). not (eqb (get_or ix m 0) 0)) (sym ej) ∙ sym (slot-tells d ix h k n i (omega (arith, b, ej))) ∙ there-is (records d) k n refl

  key-told : InKey k n → not (eqb (get_or ix j 0) 0) ≡ (parameters (records d)).has k n
  key-told i = split (ltb j (length ix)) (λ e. key-within i (ltb-true j (length ix) e)) (λ e. key-beyond (ltb-false j (length ix) e))

-- keys that count from 1, their slots one behind the other, are all there if all their slots are full
keys-told : (d ix : List ℕ) → Whole d ix → Complete d ix → (k j : ℕ) → ((i : ℕ) → slot k (suc i) ≡ j + i) → (n : ℕ)
    → ((i : ℕ) → i < n → InKey k (suc i)) → slots_full ix j n ≡ all_to n ((parameters (records d)).has k)
unfolding slots_full all_below all_to
keys-told d ix h c k j a zero g = refl
keys-told d ix h c k j a (suc n) g =
    ap₂ (λ (x y : Bool). x && y) (keys-told d ix h c k j a n (λ i l. g i (omega (arith, l)))) (key-told d ix h c k (suc n) (a n) (g n (omega arith)))

-- so it is of the hours of the window and of the places of the forecast
module _ (d ix : List ℕ) (h : Whole d ix) (c : Complete d ix) (n : ℕ) {j : ℕ} where
  pub hours-told : j ≡ slot HR 1 → n ≤ 168 → slots_full ix j n ≡ all_to n ((parameters (records d)).has HR)
  unfolding slot
  hours-told e w = keys-told d ix h c HR j (λ i. omega (arith, e)) n (λ i l. hour-key (suc i) (omega arith) (omega arith))

  pub places-told : j ≡ slot FP 1 → n ≤ 4000 → slots_full ix j n ≡ all_to n ((parameters (records d)).has FP)
  unfolding slot
  places-told e w = keys-told d ix h c FP j (λ i. omega (arith, e)) n (λ i l. place-key (suc i) (omega arith) (omega arith))

module _ (s : Parameters) (t : ℕ) (et : t ≡ technology s) where
  -- what 9 asks
  pub window-none : (t ≡ 3 → ⊥) → true ≡ window_fits s
  unfolding window_fits
  window-none z = rw (← et, ne_eqb t 3 z) refl

  pub window-whole : t ≡ 3 → {x w : ℕ} {b : Bool} → x ≡ full_hours s → w ≡ window s → b ≡ all_to w (s.has HR) → ltb 0 x && leb x w && b ≡ window_fits s
  unfolding window_fits hours_hold
  window-whole e ex ew eb = rw (← et, eq-eqb t 3 e, eb, ex, ew) refl

  -- what 17 asks
  pub forecast-none : (t ≡ 4 → ⊥) → true ≡ forecast_fits s
  unfolding forecast_fits
  forecast-none z = rw (← et, ne_eqb t 4 z) refl

  pub forecast-whole : t ≡ 4 → {w : ℕ} {b : Bool} → w ≡ window s → b ≡ all_to w (s.has FP) → leb 50 w && b ≡ forecast_fits s
  unfolding forecast_fits places_hold
  forecast-whole e ew eb = rw (← et, eq-eqb t 4 e, eb, ew) refl
