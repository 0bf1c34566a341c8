use mathlib.Core.Path.{◌≡◌, refl, sym, ◌∙◌}
use mathlib.Core.Bool.{Bool, ◌&&◌}
use Prim.Native.Nat.{ℕ, zero, suc, ◌+◌, ◌-◌, ◌≤◌}
use native.Mathlib.Omega.{arith}
use Rattle.lists.specs.Tests.{all_to}
use Rattle.records.specs.Table.{RQ}
use Rattle.records.specs.Dossier.{records}
use Rattle.station.specs.Parameters.{parameters}
use Rattle.index.specs.Slots.{slot}
use Rattle.requirements.specs.Segments.{fuelled}
use Rattle.requirements.proofs.Fuel.{requests-none}
use Rattle.requirements.proofs.requests_fuelled.Goals as goal

at_one : slot RQ 1 ≡ 138
unfolding slot
at_one = refl

pub slots_empty-requires : goal.slots_empty-requires
slots_empty-requires c = omega (arith, c.requires.roomy, c.slot_rq.ensures, at_one)

pub returns-then-slots_empty : goal.returns-then-slots_empty
returns-then-slots_empty c =
    requests-none _ _ c.requires c.slot_rq.ensures
    (sym c.slots_empty.ensures ∙ c.if-slots_empty.true)

-- one request more
turn : (f : ℕ → Bool) (n : ℕ) {a b : Bool} → 1 ≤ n → a ≡ all_to (n - 1) f → b ≡ f n → a && b ≡ all_to n f
unfolding all_to
turn f zero h p q = absurd (omega arith)
turn f (suc n) h p q =
    let z : suc n - 1 ≡ n = omega arith in
    rw (rw z at p, q) refl

pub loop-n-init : goal.loop-n-init
unfolding all_to
loop-n-init c = refl

pub loop-n-preserved : goal.loop-n-preserved
loop-n-preserved c =
    let l = c.loop-n in
    let z : l.n + 1 - 1 ≡ l.n = omega arith in
    rw z (turn (fuelled (parameters (records c.args.d.now))) l.n l.auto.n l.invariant c.request_fuelled-ok.ensures)
