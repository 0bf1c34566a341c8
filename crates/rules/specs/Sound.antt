-- What the records of an accepted dossier are like, declared: the law `accepted-sound` and its converse say that accepted is
-- this and no more than 60,000 bytes.
use Rattle.std.specs.Prelude.{◌≡◌, true, List, ℕ}
use Rattle.lists.specs.Lists.{Each}
use Rattle.records.specs.Table.{RS}
use Rattle.records.specs.Record.{mark, fault}
use Rattle.station.specs.InForce.{counts}
use Rattle.station.specs.Declared.{Distinct}
use Rattle.station.specs.Parameters.{parameters, technology}
use Rattle.rules.specs.Fit.{fits}
use Rattle.rules.specs.Curve.{curve_fits, fuel_holds, window_fits, forecast_fits}

-- a record of some fits their technology, if it counts at some hour
abbrev pub FitsIn : List (List ℕ) → List ℕ → Type 0
FitsIn l r = counts l r ≡ true → fits (technology (parameters l)) (mark r) r ≡ true

-- none draws 1 to 3, no two are twins, there is an RS, those that count at some hour fit, and 7, 8, 9 and 17 are not drawn
pub record Sound (l : List (List ℕ)) : Type 0 where
  pub clean : Each (λ r. fault r ≡ 0) l
  pub distinct : Distinct l
  pub station : (parameters l).has RS 0 ≡ true
  pub fit : Each (FitsIn l) l
  pub curve : curve_fits (parameters l) ≡ true
  pub fuel : fuel_holds (parameters l) ≡ true
  pub window : window_fits (parameters l) ≡ true
  pub forecast : forecast_fits (parameters l) ≡ true
