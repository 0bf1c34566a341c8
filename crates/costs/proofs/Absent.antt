-- A level without adders or a profile without items, told by its empty slots: they add nothing. A dossier without LC: its last charging cost is 0.
use mathlib.Core.Path.{◌≡◌, refl, ap, sym, subst, ◌∙◌}
use mathlib.Core.Bool.{Bool, true, false, cond, ◌&&◌}
use mathlib.Core.List.{List, []}
use Prim.Native.Nat.{ℕ, suc, ◌+◌, ◌*◌, ◌≤◌}
use native.Mathlib.Nat.{add-zero}
use native.Mathlib.Omega.{arith}
use lib.Dec.{eqb}
use lib.ListN.{get_or}
use Rattle.lists.specs.Sums.{sum_to}
use Rattle.lists.specs.Tests.{all_below}
use Rattle.lists.proofs.Tests.{and_left, and_right, cond-holds}
use Rattle.lists.proofs.Sums.{sum_to-zeros}
use Rattle.fields.specs.Numbers.{number}
use Rattle.fields.proofs.Numbers.{number-nil}
use Rattle.records.specs.Table.{table, row_of, field_of, AD, MM, LC, AO}
use Rattle.records.specs.Record.{mark, offset, is_money, read, told}
use Rattle.records.specs.Dossier.{records}
use Rattle.station.specs.Current.{current}
use Rattle.station.specs.Parameters.{amounts, adder_key, adder, own_key, own_adder, item_key, cost_c, output_w, interval_t, hours_per_start_s, last_cost}
use Rattle.station.proofs.Fields.{last_cost-at}
use Rattle.index.specs.Slots.{slot, slots_empty}
use Rattle.index.proofs.KeyBounds.{InKey}
use Rattle.index.proofs.Slots.{early, adder-slot, owner-slot}
use Rattle.lookup.specs.Parts.{Indexed, held, fits_short, parameters_held, amounts_held}
use Rattle.lookup.proofs.Keys.{adder-key, owner-key, item-key}
use Rattle.lookup.proofs.Held.{held-in-empty}
use Rattle.lookup.proofs.Rooms.{short_none}
use Rattle.formulas.specs.Exact.{quotient, micro_dollars}
use Rattle.formulas.specs.Levels.{amounts_in, third_party, maintenance, start_maintenance}
use Rattle.formulas.proofs.Rounding.{quotient-of-none}

-- an owner's key, its fields one behind the other
pub owner-fields : (o p c v : ℕ) → o * 16777216 + p * 65536 + c * 256 + v ≡ own_key o p c v
owner-fields o p c v = omega arith

-- of a record that is not there an amount is 0
no-amount : (k n i : ℕ) (l : List (List ℕ)) → (field_of k i).is_signed ≡ false → current k n l ≡ [] → (amounts l).of k n i ≡ 0
unfolding amounts told read
no-amount k n i l u e =
    rw (e, u, number-nil (offset (mark []) i) (field_of k i).width) (cond-holds (λ x. x ≡ 0) (is_money (field_of k i).role) 0 0 refl refl)

-- what tells that no cost of a level is claimed
abbrev pub none_claimed : List ℕ → ℕ → Bool
none_claimed ix j = eqb (get_or ix j 0) 0 && eqb (get_or ix (j + 4) 0) 0 && eqb (get_or ix (j + 8) 0) 0 && eqb (get_or ix (j + 16) 0) 0

module _ {d ix : List ℕ} (h : Indexed d ix) where
  -- the costs of a level, of AD or of an owner's AO: the slot of each is the fourth behind that of the one before
  module _ (k i : ℕ) (key : ℕ → ℕ) (low : ℕ) (e : early k ≡ true) (u : (field_of k i).is_signed ≡ false)
      (in-key : (c : ℕ) → 1 ≤ c → c ≤ 5 → InKey k (key c)) (its-slot : (c : ℕ) → c ≤ 5 → low + c * 4 ≡ slot k (key c)) where
    no-cost : (c j : ℕ) → 1 ≤ c → c ≤ 5 → j ≡ low + c * 4 → eqb (get_or ix j 0) 0 ≡ true → (amounts_held d ix).of k (key c) i ≡ 0
    unfolding slots_empty all_below
    no-cost c j x y at empty =
        let own = its-slot c y in
        no-amount k (key c) i (held d ix) u
        (held-in-empty h k (key c) e (in-key c x y) j 1 (rw (add-zero j) empty) (omega (arith, own, at)) (omega (arith, own, at)))

    no-costs : {j : ℕ} → j ≡ slot k (key 1) → none_claimed ix j ≡ true
        → 0 ≡ sum_to 5 (λ c. cond (eqb c third_party) 0 ((amounts_held d ix).of k (key c) i))
    unfolding sum_to
    no-costs {j} first empty =
        let at : j ≡ low + 4 = omega (arith, first, its-slot 1 (omega arith)) in
        let t : ℕ → Bool = λ n. eqb (get_or ix n 0) 0 in
        let three : t j && t (j + 4) && t (j + 8) ≡ true = and_left (t j && t (j + 4) && t (j + 8)) (t (j + 16)) empty in
        let two : t j && t (j + 4) ≡ true = and_left (t j && t (j + 4)) (t (j + 8)) three in
        omega (
          arith,
          no-cost 1 j (omega arith) (omega arith) (omega arith) (and_left (t j) (t (j + 4)) two),
          no-cost 2 (j + 4) (omega arith) (omega arith) (omega arith) (and_right (t j) (t (j + 4)) two),
          no-cost 3 (j + 8) (omega arith) (omega arith) (omega arith) (and_right (t j && t (j + 4)) (t (j + 8)) three),
          no-cost 5 (j + 16) (omega arith) (omega arith) (omega arith) (and_right (t j && t (j + 4) && t (j + 8)) (t (j + 16)) empty),
        )

  module _ (p : ℕ) (a : 1 ≤ p) (b : p ≤ 4) where
    module _ (v : ℕ) (x : 1 ≤ v) (y : v ≤ 4) where
      pub no-common-adders : {j : ℕ} → j ≡ slot AD (adder_key p 1 v) → none_claimed ix j ≡ true
          → 0 ≡ sum_to 5 (λ c. cond (eqb c third_party) 0 (adder (amounts_held d ix) p c v))
      unfolding field_of row_of table
      no-common-adders =
          no-costs AD 3 (λ c. adder_key p c v) (1 + p * 20 + v) refl refl (λ c s t. adder-key p c v a b s t x y)
          (λ c t. omega (arith, adder-slot p c v (omega arith) (omega arith)))

      no-adders-of : {j : ℕ} (o : ℕ) → 1 ≤ o → o ≤ 2 → j ≡ slot AO (o * 16777216 + p * 65536 + 256 + v) → none_claimed ix j ≡ true
          → 0 ≡ sum_to 5 (λ c. cond (eqb c third_party) 0 (own_adder (amounts_held d ix) o p c v))
      unfolding field_of row_of table
      no-adders-of o f g first =
          no-costs AO 4 (λ c. own_key o p c v) (229 + o * 80 + p * 20 + v) refl refl
          (λ c s t. subst (InKey AO) (owner-fields o p c v) (owner-key o p c v f g a b s t x y))
          (λ c t. omega (arith, owner-slot o p c v (omega arith) (omega arith) (omega arith), ap (slot AO) (owner-fields o p c v)))
          (first ∙ ap (slot AO) (owner-fields o p 1 v))

      pub no-own-adders : {i j : ℕ} → i ≡ slot AO (16777216 + p * 65536 + 256 + v) → none_claimed ix i ≡ true
          → j ≡ slot AO (33554432 + p * 65536 + 256 + v) → none_claimed ix j ≡ true
          → 0 ≡ sum_to 5 (λ c. cond (eqb c third_party) 0 (own_adder (amounts_held d ix) 1 p c v + own_adder (amounts_held d ix) 2 p c v))
      unfolding sum_to
      no-own-adders e f g k = omega (arith, no-adders-of 1 (omega arith) (omega arith) e f, no-adders-of 2 (omega arith) (omega arith) g k)

    module _ {j : ℕ} (first : j ≡ slot MM (item_key p 1)) (empty : slots_empty ix j 8 ≡ true) where
      no_item : (i : ℕ) → 1 ≤ i → i ≤ 8 → cost_c (amounts_held d ix) p i ≡ 0
      unfolding slot field_of row_of table
      no_item i u w =
          no-amount MM (item_key p i) 2 (held d ix) refl
          (held-in-empty h MM (item_key p i) refl (item-key p i a b u w) j 8 empty (omega (arith, first)) (omega (arith, first)))

      pub no-maintenance : 0 ≡ micro_dollars (maintenance (parameters_held d ix) (amounts_held d ix) p)
      unfolding micro_dollars maintenance sum_to
      no-maintenance =
          sym (sum_to-zeros (λ k. quotient (cost_c (amounts_held d ix) p k * 100000)
          (output_w (parameters_held d ix) p k * interval_t (parameters_held d ix) p k)) 0 8
          (λ i z. quotient-of-none _ _ (rw (no_item (suc (0 + i)) (omega arith) (omega arith)) (omega arith))))

      pub no-start-maintenance : 0 ≡ micro_dollars (start_maintenance (parameters_held d ix) (amounts_held d ix) p)
      unfolding micro_dollars start_maintenance sum_to
      no-start-maintenance =
          sym (sum_to-zeros (λ k. quotient (cost_c (amounts_held d ix) p k * hours_per_start_s (parameters_held d ix) p k * 1000)
          (interval_t (parameters_held d ix) p k)) 0 8
          (λ i z. quotient-of-none _ _ (rw (no_item (suc (0 + i)) (omega arith) (omega arith)) (omega arith))))

-- a dossier that a short index has slots for has no LC
pub no-last-cost : (d : List ℕ) → true ≡ fits_short d → 0 ≡ last_cost (amounts_in d)
no-last-cost d e = sym (last_cost-at (records d) ∙ ap (number 6 4) (short_none d e LC 0 refl) ∙ number-nil 6 4)
