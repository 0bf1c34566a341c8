use mathlib.Core.Path.{◌≡◌}
use borrow.Author.Rules.{rules}
use Prim.Native.Nat.{ℕ}
use native.Mathlib.Omega.{arith}
use lib.ListN.{length, length-replicate}
use Rattle.lookup.specs.Parts.{held}
use Rattle.lookup.proofs.Held.{held-clean}
use Rattle.station.specs.Parameters.{amounts, hour_price}
use Rattle.costs.proofs.Prices.{prices-ready, hour-in}
use Rattle.costs.proofs.storage.highest_sum.Goals as goal

pub highest-requires : goal.highest-requires
highest-requires c =
    let m = amounts (held c.args.d.now c.args.index.now) in
    let l = c.last_places.new.table in
    let n : length l ≡ 168 = omega (arith, c.last_places.auto.table, length-replicate {A = ℕ} 168 0) in
    let e = rw n at (c.last_places.ensures (hour_price m) (λ k r a b e. search rules)) in
    let r = prices-ready 168 (hour_price m) l c.args.window c.requires.1 e (hour-in (held-clean c.requires.0)) in
    (omega (arith, r.0, c.requires.2), omega (arith, r.0, c.requires.1), r.1)
