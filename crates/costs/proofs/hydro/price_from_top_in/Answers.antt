use mathlib.Core.Path.{◌≡◌}
use borrow.Author.Rules.{rules}
use Prim.Native.Nat.{ℕ}
use native.Mathlib.Omega.{arith}
use lib.ListN.{length, length-replicate}
use Rattle.records.specs.Dossier.{records}
use Rattle.station.specs.Parameters.{amounts, place_price}
use Rattle.parameters.proofs.Bounds.{clean}
use Rattle.costs.proofs.Prices.{prices-ready, place-in}
use Rattle.costs.proofs.hydro.price_from_top_in.Goals as goal

pub from_top-requires : goal.from_top-requires
from_top-requires g c =
    let f = place_price (amounts (records c.args.d.now)) in
    let room = g.row.ROOM in
    let l = c.last_places.new.table in
    let n : length l ≡ room = omega (arith, c.last_places.auto.table, length-replicate {A = ℕ} room 0) in
    let e = rw n at (c.last_places.ensures f (λ k r a b e. search rules)) in
    let r = prices-ready room f l c.args.places c.requires.2 e (place-in (clean c.requires.0)) in
    rw n (c.requires.4, omega (arith, r.0, c.requires.5), omega (arith, r.0, c.requires.2, c.requires.3), r.1)
