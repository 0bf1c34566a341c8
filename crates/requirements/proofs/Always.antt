-- The technology and the window, of which every query sees the same, are the same of the index at hand and of the dossier.
use mathlib.Core.Path.{◌≡◌, refl}
use mathlib.Core.List.{List}
use Prim.Native.Nat.{ℕ}
use Rattle.lists.specs.Tests.{among}
use Rattle.records.specs.Table.{RS, table}
use Rattle.records.specs.Record.{datable}
use Rattle.records.specs.Dossier.{records}
use Rattle.station.specs.Parameters.{parameters, technology, window}
use Rattle.lookup.specs.Parts.{Indexed, parameters_held}
use Rattle.lookup.proofs.Held.{says-always}

module _ {d ix : List ℕ} (h : Indexed d ix) where
  pub technology-always : technology (parameters_held d ix) ≡ technology (parameters (records d))
  unfolding datable among table
  technology-always = says-always h RS 0 refl 0

  pub window-always : window (parameters_held d ix) ≡ window (parameters (records d))
  unfolding datable among table
  window-always = says-always h RS 0 refl 8
