-- What the RS of a dossier without faults says lies in its range, and a window that isn't hydroelectric is at most 168.
use Rattle.lists.specs.Tests.{among}
use mathlib.Core.Path.{◌≡◌, refl, sym, ◌∙◌}
use mathlib.Core.Bool.{true}
use mathlib.Core.List.{List, [], ◌∷◌}
use Prim.Native.Nat.{ℕ, suc, ◌≤◌}
use native.Mathlib.Omega.{arith}
use lib.Dec.{ltb, lit≤}
use lib.ListN.{length}
use borrow.Author.Tests.{lt-ltb, leb-true}
use Rattle.lists.proofs.Tests.{between-low, between-high}
use Rattle.fields.specs.Numbers.{number}
use Rattle.fields.proofs.Numbers.{number-nil}
use Rattle.records.specs.Table.{table, row_of, field_of, RS}
use Rattle.records.specs.Record.{value, in_range, agrees, datable, told, read, offset, fields_at, offset_in}
use Rattle.records.specs.Dossier.{records}
use Rattle.records.proofs.Dossier.{scan-each}
use Rattle.station.specs.Current.{current, present}
use Rattle.station.specs.Parameters.{parameters, technology, window}
use Rattle.station.proofs.Fields.{technology-at, window-at}
use Rattle.lookup.specs.Parts.{Indexed}
use Rattle.rules.specs.Fit.{Known}
use Rattle.rules.proofs.Sound.{clean-range, clean-agrees}

module _ (d ix : List ℕ) (h : Indexed d ix) where
  -- a station has an RS that says what it is
  station-there : (t : ℕ) → technology (parameters (records d)) ≡ suc t → (parameters (records d)).has RS 0 ≡ true
  unfolding parameters present
  station-there t e = go (current RS 0 (records d)) (sym e ∙ technology-at (records d))
    where
      go : (r : List ℕ) → suc t ≡ number 6 1 r → ltb 0 (length r) ≡ true
      go [] z = absurd (omega (arith, z, number-nil 6 1))
      go (b ∷ r) z = lt-ltb 0 (suc (length r)) (omega arith)

  -- to 168 unless it is hydroelectric
  pub storage-window : technology (parameters (records d)) ≡ 3 → window (parameters (records d)) ≤ 168
  unfolding datable among agrees value read offset fields_at offset_in field_of row_of table
  storage-window e =
      let t : number 6 1 (current RS 0 (records d)) ≡ 3 = sym (technology-at (records d)) ∙ e in
      rw (window-at (records d)) (leb-true (number 29 2 (current RS 0 (records d))) 168
      (rw t at (clean-agrees (scan-each 0 (records d) h.index.clean) RS 0 (station-there 2 e) refl)))

  module _ (there : (parameters (records d)).has RS 0 ≡ true) where
    pub technology-known : Known (technology (parameters (records d)))
    unfolding parameters in_range field_of row_of table
    technology-known =
        let w = clean-range (scan-each 0 (records d) h.index.clean) RS 0 there 0 (lit≤ tt) in
        let x : ℕ = told RS 0 (current RS 0 (records d)) in
        (between-low 1 4 x w, between-high 1 4 x w)
