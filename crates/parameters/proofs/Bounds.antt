-- What the code reads of a current record is what the parameters and the amounts say, and at most the table's highest.
use mathlib.Core.Path.{◌≡◌, ap, sym, ◌∙◌}
use mathlib.Core.List.{List}
use Prim.Native.Nat.{ℕ, ◌≤◌}
use Rattle.lists.specs.Lists.{Each}
use Rattle.fields.specs.Numbers.{number, biased}
use Rattle.records.specs.Table.{field_of}
use Rattle.records.specs.Record.{fault}
use Rattle.records.specs.Dossier.{records}
use Rattle.records.proofs.Dossier.{scan-each}
use Rattle.station.specs.Current.{current}
use Rattle.station.specs.Parameters.{parameters, amounts}
use Rattle.station.proofs.Parameters.{says-high, amount-high}
use Rattle.lookup.specs.Parts.{Indexed}

-- of any faultless records
module _ {l : List (List ℕ)} (faultless : Each (λ r. fault r ≡ 0) l) {r : ℕ} {x y : List ℕ} (k n i o w : ℕ) where
  pub says-read : (parameters l).says k n i ≡ number o w y → r ≡ number o w x → x ≡ y → (r ≡ (parameters l).says k n i)
      × (r ≤ (field_of k i).highest)
  says-read e p q =
      let z : r ≡ (parameters l).says k n i = p ∙ ap (number o w) q ∙ sym e in
      (z, rw z (says-high faultless k n i))

  pub amount-read : (amounts l).of k n i ≡ number o w y → r ≡ number o w x → x ≡ y → (r ≡ (amounts l).of k n i)
      × (r ≤ (field_of k i).highest)
  amount-read e p q =
      let z : r ≡ (amounts l).of k n i = p ∙ ap (number o w) q ∙ sym e in
      (z, rw z (amount-high faultless k n i))

-- a price, plus 2^31
pub price-read : {l : List (List ℕ)} → Each (λ r. fault r ≡ 0) l → {r v : ℕ} {x : List ℕ} (k n i o : ℕ)
    → (amounts l).of k n i ≡ biased (number o 4 (current k n l)) → r ≡ biased v → v ≡ number o 4 x → x ≡ current k n l → (r ≡ (amounts l).of k n i)
    × (r ≤ (field_of k i).highest)
price-read {l} faultless {r} k n i o e b p q =
    let z : r ≡ (amounts l).of k n i = b ∙ ap biased (p ∙ ap (number o 4) q) ∙ sym e in
    (z, rw z (amount-high faultless k n i))

-- a dossier's records are
pub clean : {d ix : List ℕ} → Indexed d ix → Each (λ r. fault r ≡ 0) (records d)
clean {d} h = scan-each 0 (records d) h.index.clean
