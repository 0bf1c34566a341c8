use mathlib.Core.List.{List}
use Prim.Native.Nat.{ℕ, ◌≤◌}
use native.Mathlib.Omega.{arith}
use lib.ListN.{length, length-replicate}
use Rattle.index.specs.Slots.{wide}
use Rattle.lists.proofs.Lists.{each_map}
use Rattle.lookup.specs.Parts.{Indexed, Complete}
use Rattle.lookup.proofs.Parts.{wide-up-to}
use Rattle.lookup.proofs.Held.{whole-indexed}
use Rattle.costs.proofs.hydro.forecast_price.Goals as goal

-- every record has a slot in an index of all slots
complete : {d ix : List ℕ} → Indexed d ix → wide ≤ length ix → Complete d ix
complete {d} h w = each_map (λ r g. omega (arith, w, g)) (wide-up-to d h.index.clean)

pub forecast_through-requires : goal.forecast_through-requires
forecast_through-requires c = let p = c.requires in (p.0, complete p.0 c.if-index-ge-WIDE.true, p.1, p.2, p.3)

pub forecast_through-requires-2 : goal.forecast_through-requires-2
forecast_through-requires-2 c =
    let f = c.fill in
    let h = whole-indexed f.ensures in
    let p = c.requires in
    (h, complete h (omega (arith, f.auto.index, length-replicate {A = ℕ} wide 0)), p.1, p.2, p.3)
