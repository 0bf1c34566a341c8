-- The week of a dossier is what its current records say.
use mathlib.Core.Path.{◌≡◌, refl, ap, sym, ◌∙◌}
use mathlib.Core.List.{List}
use Prim.Native.Nat.{ℕ}
use Rattle.fields.specs.Numbers.{unbiased, biased_of}
use Rattle.fields.proofs.Numbers.{biased_of-unbiased}
use Rattle.records.specs.Table.{table, row_of, field_of, CH}
use Rattle.records.specs.Answers.{Accepted, is_accepted}
use Rattle.records.specs.Dossier.{records}
use Rattle.station.specs.Current.{current, readable, lookup}
use Rattle.station.specs.Parameters.{parameters, amounts, charge_price, charge_energy}
use Rattle.station.specs.Week.{week_price, week_energy}

-- of a dossier that draws none of 13 and 1 to 4
module _ (d : List ℕ) (e : readable d ≡ Accepted) where
  pub looked-up : (k n : ℕ) → lookup d k n ≡ current k n (records d)
  unfolding lookup is_accepted
  looked-up k n = rw e refl

  pub price-told : (n : ℕ) → week_price d n ≡ unbiased (charge_price (amounts (records d)) n)
  unfolding week_price amounts field_of row_of table
  price-told n = rw (looked-up CH n) refl

  pub price-of-week : (n : ℕ) → charge_price (amounts (records d)) n ≡ biased_of (week_price d n)
  price-of-week n = sym (ap biased_of (price-told n) ∙ biased_of-unbiased (charge_price (amounts (records d)) n))

  pub energy-of-week : (n : ℕ) → charge_energy (parameters (records d)) n ≡ week_energy d n
  unfolding week_energy parameters field_of row_of table
  energy-of-week n = rw (looked-up CH n) refl
