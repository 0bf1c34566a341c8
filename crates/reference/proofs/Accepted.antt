-- What the levels take from acceptance: a technology of the four, a window that holds X hours, and one of 50 or more.
use mathlib.Core.Path.{◌≡◌}
use mathlib.Core.Bool.{Bool, true, ◌&&◌}
use mathlib.Core.List.{List}
use Prim.Native.Nat.{ℕ, ◌≤◌}
use lib.Dec.{leb, ltb, lit≤}
use borrow.Author.Tests.{leb-true}
use Rattle.lists.specs.Tests.{all_to}
use Rattle.lists.proofs.Tests.{and_left, and_right, between-low}
use Rattle.records.specs.Table.{table, row_of, field_of, RS, HR, FP}
use Rattle.records.specs.Record.{told, in_range}
use Rattle.station.specs.Current.{current}
use Rattle.station.specs.Parameters.{parameters, technology, window}
use Rattle.rules.specs.Curve.{full_hours, hours_hold, window_fits, places_hold, forecast_fits}
use Rattle.rules.specs.Sound.{Sound}
use Rattle.rules.proofs.Sound.{its-range}

pub technology-low : {l : List (List ℕ)} → Sound l → 1 ≤ technology (parameters l)
unfolding parameters in_range field_of row_of table
technology-low {l} h = between-low 1 4 (told RS 0 (current RS 0 l)) (its-range h RS 0 h.station 0 (lit≤ tt))

pub hours-fit : {l : List (List ℕ)} → Sound l → technology (parameters l) ≡ 3 → full_hours (parameters l) ≤ window (parameters l)
unfolding window_fits hours_hold
hours-fit {l} h e =
    let s = parameters l in
    let x : Bool = ltb 0 (full_hours s) in
    let y : Bool = leb (full_hours s) (window s) in
    let z : Bool = all_to (window s) (s.has HR) in
    let g : x && y && z ≡ true = rw e at h.window in
    leb-true (full_hours s) (window s) (and_right x y (and_left (x && y) z g))

pub places-fit : {l : List (List ℕ)} → Sound l → technology (parameters l) ≡ 4 → 50 ≤ window (parameters l)
unfolding forecast_fits places_hold
places-fit {l} h e =
    let s = parameters l in
    leb-true 50 (window s) (and_left (leb 50 (window s)) (all_to (window s) (s.has FP)) (rw e at h.forecast))
