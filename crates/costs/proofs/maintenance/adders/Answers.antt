use mathlib.Core.Path.{◌≡◌, sym, ◌∙◌}
use mathlib.Core.Bool.{Bool, true, cond, ◌&&◌}
use mathlib.Core.List.{List}
use Prim.Native.Nat.{ℕ, ◌+◌, ◌*◌, ◌≤◌}
use native.Mathlib.Omega.{arith}
use lib.Dec.{eqb}
use Rattle.lists.specs.Sums.{sum_to}
use Rattle.lists.proofs.Tests.{and_left, and_right}
use Rattle.records.specs.Table.{AO}
use Rattle.station.specs.Parameters.{own_adder}
use Rattle.index.specs.Slots.{slot}
use Rattle.index.proofs.Slots.{adder-slot, owner-slot}
use Rattle.lookup.specs.Parts.{Indexed, amounts_held}
use Rattle.formulas.specs.Levels.{third_party}
use Rattle.costs.proofs.Absent.{none_claimed, no-common-adders, no-own-adders}
use Rattle.costs.proofs.Costs.{all-adders}
use Rattle.costs.proofs.maintenance.adders.Goals as goal

pub unclaimed-requires : goal.unclaimed-requires
unclaimed-requires c =
    let a = c.args in
    let q = c.requires in
    omega (arith, c.slot_ao.ensures, owner-slot 1 a.p 1 a.v (omega arith) (omega arith) (omega arith), q.0.index.roomy, q.2, q.4)

pub unclaimed-requires-2 : goal.unclaimed-requires-2
unclaimed-requires-2 c =
    let a = c.args in
    let q = c.requires in
    omega (arith, c.slot_ao-2.ensures, owner-slot 2 a.p 1 a.v (omega arith) (omega arith) (omega arith), q.0.index.roomy, q.2, q.4)

pub unclaimed-requires-3 : goal.unclaimed-requires-3
unclaimed-requires-3 c =
    let a = c.args in
    let q = c.requires in
    omega (arith, c.slot_ad.ensures, adder-slot a.p 1 a.v (omega arith) (omega arith), q.0.index.roomy, q.2, q.4)

-- what the slots tell of the owners' adders, the first of each owner's
no-owners : {d ix : List ℕ} → Indexed d ix → (p v : ℕ) → 1 ≤ p → p ≤ 4 → 1 ≤ v → v ≤ 4 → {i j : ℕ} {first second : Bool}
    → i ≡ slot AO (16777216 + p * 65536 + 256 + v) → first ≡ none_claimed ix i
    → j ≡ slot AO (33554432 + p * 65536 + 256 + v) → second ≡ none_claimed ix j → first && second ≡ true
    → 0 ≡ sum_to 5 (λ c. cond (eqb c third_party) 0 (own_adder (amounts_held d ix) 1 p c v + own_adder (amounts_held d ix) 2 p c v))
no-owners h p v a b x y {first = first} {second = second} ei ef ej es e =
    no-own-adders h p a b v x y ei (sym ef ∙ and_left first second e) ej (sym es ∙ and_right first second e)

pub returns-then-unclaimed-own : goal.returns-then-unclaimed-own
returns-then-unclaimed-own c =
    let a = c.args in
    let q = c.requires in
    let none = c.unclaimed-3.result in
    let owners = c.unclaimed.result && c.unclaimed-2.result in
    let common = no-common-adders q.0 a.p q.1 q.2 a.v q.3 q.4 c.slot_ad.ensures
    (sym c.unclaimed-3.ensures ∙ and_left none owners c.if-unclaimed-own.true) in (
      all-adders _ a.p a.v common (no-owners q.0 a.p a.v q.1 q.2 q.3 q.4 c.slot_ao.ensures c.unclaimed.ensures
          c.slot_ao-2.ensures c.unclaimed-2.ensures (and_right none owners c.if-unclaimed-own.true)),
      omega arith,
    )

pub returns-then-own : goal.returns-then-own
returns-then-own c =
    let a = c.args in
    let q = c.requires in
    let common = c.common_adders-common.ensures in
    let owners = no-owners q.0 a.p a.v q.1 q.2 q.3 q.4 c.slot_ao.ensures c.unclaimed.ensures
    c.slot_ao-2.ensures c.unclaimed-2.ensures c.if-own.true in
    (omega (arith, all-adders (amounts_held a.d.now a.index.now) a.p a.v common.0 owners), omega (arith, common.1))

pub returns : goal.returns
returns c =
    let a = c.args in
    let common = c.common_adders-common.ensures in
    let own = c.own_adders.ensures in
    (all-adders _ a.p a.v common.0 own.0, omega (arith, common.1, own.1))
