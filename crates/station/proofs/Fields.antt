-- Where each field lies: what the code reads of a current record is what the parameters and the amounts say.
use mathlib.Core.Path.{◌≡◌, refl, ap, ◌∙◌}
use mathlib.Core.Bool.{false}
use mathlib.Core.List.{List}
use Prim.Native.Nat.{ℕ}
use Rattle.fields.specs.Numbers.{number, biased}
use Rattle.records.specs.Table.{table, row_of, field_of, RS, HP, FU, AD, MM, RQ, HR, CH, TH, FP, LC, AO}
use Rattle.records.specs.Record.{datable, fields_at, offset_in, offset, read, value, told}
use Rattle.records.specs.MarkShapes.{body}
use Rattle.records.proofs.Dated.{told-value, told-nil, told-body, body-nil, other-mark}
use Rattle.lists.specs.Tests.{among}
use Rattle.station.specs.Current.{current}
use Rattle.station.specs.Declared.{CurrentOf, absent, standing}
use Rattle.station.proofs.Current.{current-found}
use Rattle.station.specs.Parameters.{parameters, amounts, adder_key, item_key, threshold_key, technology, capacity, factor, start_heat}
use Rattle.station.specs.Parameters.{no_load_heat, incremental_fuel, charge, efficiency, window, output, heat, fuel, emission, adder, cost_c}
use Rattle.station.specs.Parameters.{output_w, interval_t, hours_per_start_s, first_hour, last_hour, requested, hour_price, charge_price, charge_energy}
use Rattle.station.specs.Parameters.{percent, margin, floor, place_price, last_cost, own_key, own_adder}

-- what the current record of a kind tells, read in its body
body_of : (k n i : ℕ) (l : List (List ℕ)) → told k i (current k n l) ≡ value k i (body (current k n l))
body_of k n i l = go (current k n l) (current-found k n l)
  where
    go : (r : List ℕ) → CurrentOf k n l r → told k i r ≡ value k i (body r)
    go r (standing q) = told-body k i r q.marked
    go r (absent p w) = rw (p, body-nil) (told-nil k i)

-- the same of a kind without first hours
plain_of : (k n i : ℕ) (l : List (List ℕ)) → datable k ≡ false → told k i (current k n l) ≡ value k i (current k n l)
plain_of k n i l h = go (current k n l) (current-found k n l)
  where
    go : (r : List ℕ) → CurrentOf k n l r → told k i r ≡ value k i r
    go r (standing q) = told-value k i r q.marked ∙ ap (λ (m : ℕ). value m i r) (other-mark r h q.marked)
    go r (absent p w) = rw p (told-nil k i)

module _ (l : List (List ℕ)) where
  pub technology-at : technology (parameters l) ≡ number 6 1 (current RS 0 l)
  unfolding datable among parameters value read offset fields_at offset_in field_of row_of table
  technology-at = plain_of RS 0 0 l refl

  pub capacity-at : capacity (parameters l) ≡ number 7 2 (current RS 0 l)
  unfolding datable among parameters value read offset fields_at offset_in field_of row_of table
  capacity-at = plain_of RS 0 1 l refl

  pub factor-at : factor (parameters l) ≡ number 9 2 (current RS 0 l)
  unfolding datable among parameters value read offset fields_at offset_in field_of row_of table
  factor-at = plain_of RS 0 2 l refl

  pub start_heat-at : start_heat (parameters l) ≡ number 11 4 (current RS 0 l)
  unfolding datable among parameters value read offset fields_at offset_in field_of row_of table
  start_heat-at = plain_of RS 0 3 l refl

  pub no_load_heat-at : no_load_heat (parameters l) ≡ number 15 4 (current RS 0 l)
  unfolding datable among parameters value read offset fields_at offset_in field_of row_of table
  no_load_heat-at = plain_of RS 0 4 l refl

  pub incremental_fuel-at : incremental_fuel (parameters l) ≡ number 19 4 (current RS 0 l)
  unfolding datable among parameters value read offset fields_at offset_in field_of row_of table
  incremental_fuel-at = plain_of RS 0 5 l refl

  pub charge-at : charge (parameters l) ≡ number 23 4 (current RS 0 l)
  unfolding datable among parameters value read offset fields_at offset_in field_of row_of table
  charge-at = plain_of RS 0 6 l refl

  pub efficiency-at : efficiency (parameters l) ≡ number 27 2 (current RS 0 l)
  unfolding datable among parameters value read offset fields_at offset_in field_of row_of table
  efficiency-at = plain_of RS 0 7 l refl

  pub window-at : window (parameters l) ≡ number 29 2 (current RS 0 l)
  unfolding datable among parameters value read offset fields_at offset_in field_of row_of table
  window-at = plain_of RS 0 8 l refl

  pub output-at : (i : ℕ) → output (parameters l) i ≡ number 7 2 (current HP i l)
  unfolding datable among parameters value read offset fields_at offset_in field_of row_of table
  output-at i = plain_of HP i 1 l refl

  pub heat-at : (i : ℕ) → heat (parameters l) i ≡ number 9 4 (current HP i l)
  unfolding datable among parameters value read offset fields_at offset_in field_of row_of table
  heat-at i = plain_of HP i 2 l refl

  pub fuel-at : (p : ℕ) → fuel (amounts l) p ≡ number 7 4 (body (current FU p l))
  unfolding amounts value read offset fields_at offset_in field_of row_of table
  fuel-at p = body_of FU p 1 l

  pub emission-at : (p : ℕ) → emission (amounts l) p ≡ number 11 4 (body (current FU p l))
  unfolding amounts value read offset fields_at offset_in field_of row_of table
  emission-at p = body_of FU p 2 l

  pub adder-at : (p c v : ℕ) → adder (amounts l) p c v ≡ number 9 8 (body (current AD (adder_key p c v) l))
  unfolding amounts value read offset fields_at offset_in field_of row_of table
  adder-at p c v = body_of AD (adder_key p c v) 3 l

  pub cost_c-at : (p j : ℕ) → cost_c (amounts l) p j ≡ number 8 8 (body (current MM (item_key p j) l))
  unfolding amounts value read offset fields_at offset_in field_of row_of table
  cost_c-at p j = body_of MM (item_key p j) 2 l

  pub output_w-at : (p j : ℕ) → output_w (parameters l) p j ≡ number 16 2 (body (current MM (item_key p j) l))
  unfolding parameters value read offset fields_at offset_in field_of row_of table
  output_w-at p j = body_of MM (item_key p j) 3 l

  pub interval_t-at : (p j : ℕ) → interval_t (parameters l) p j ≡ number 18 4 (body (current MM (item_key p j) l))
  unfolding parameters value read offset fields_at offset_in field_of row_of table
  interval_t-at p j = body_of MM (item_key p j) 4 l

  pub hours_per_start_s-at : (p j : ℕ) → hours_per_start_s (parameters l) p j ≡ number 22 2 (body (current MM (item_key p j) l))
  unfolding parameters value read offset fields_at offset_in field_of row_of table
  hours_per_start_s-at p j = body_of MM (item_key p j) 5 l

  pub first_hour-at : (n : ℕ) → first_hour (parameters l) n ≡ number 7 4 (current RQ n l)
  unfolding datable among parameters value read offset fields_at offset_in field_of row_of table
  first_hour-at n = plain_of RQ n 1 l refl

  pub last_hour-at : (n : ℕ) → last_hour (parameters l) n ≡ number 11 4 (current RQ n l)
  unfolding datable among parameters value read offset fields_at offset_in field_of row_of table
  last_hour-at n = plain_of RQ n 2 l refl

  pub requested-at : (n : ℕ) → requested (parameters l) n ≡ number 15 1 (current RQ n l)
  unfolding datable among parameters value read offset fields_at offset_in field_of row_of table
  requested-at n = plain_of RQ n 3 l refl

  pub hour_price-at : (n : ℕ) → hour_price (amounts l) n ≡ biased (number 7 4 (current HR n l))
  unfolding datable among amounts value read offset fields_at offset_in field_of row_of table
  hour_price-at n = plain_of HR n 1 l refl

  pub charge_price-at : (n : ℕ) → charge_price (amounts l) n ≡ biased (number 8 4 (current CH n l))
  unfolding datable among amounts value read offset fields_at offset_in field_of row_of table
  charge_price-at n = plain_of CH n 1 l refl

  pub charge_energy-at : (n : ℕ) → charge_energy (parameters l) n ≡ number 12 4 (current CH n l)
  unfolding datable among parameters value read offset fields_at offset_in field_of row_of table
  charge_energy-at n = plain_of CH n 2 l refl

  pub percent-at : (c v : ℕ) → percent (parameters l) c v ≡ number 8 2 (current TH (threshold_key c v) l)
  unfolding datable among parameters value read offset fields_at offset_in field_of row_of table
  percent-at c v = plain_of TH (threshold_key c v) 2 l refl

  pub margin-at : (c v : ℕ) → margin (parameters l) c v ≡ number 10 4 (current TH (threshold_key c v) l)
  unfolding datable among parameters value read offset fields_at offset_in field_of row_of table
  margin-at c v = plain_of TH (threshold_key c v) 3 l refl

  pub floor-at : (c v : ℕ) → floor (parameters l) c v ≡ number 14 4 (current TH (threshold_key c v) l)
  unfolding datable among parameters value read offset fields_at offset_in field_of row_of table
  floor-at c v = plain_of TH (threshold_key c v) 4 l refl

  pub place_price-at : (n : ℕ) → place_price (amounts l) n ≡ biased (number 8 4 (current FP n l))
  unfolding datable among amounts value read offset fields_at offset_in field_of row_of table
  place_price-at n = plain_of FP n 1 l refl

  pub last_cost-at : last_cost (amounts l) ≡ number 6 4 (current LC 0 l)
  unfolding datable among amounts value read offset fields_at offset_in field_of row_of table
  last_cost-at = plain_of LC 0 0 l refl

  pub own_adder-at : (o p c v : ℕ) → own_adder (amounts l) o p c v ≡ number 10 8 (current AO (own_key o p c v) l)
  unfolding datable among amounts value read offset fields_at offset_in field_of row_of table
  own_adder-at o p c v = plain_of AO (own_key o p c v) 4 l refl
