use mathlib.Core.Path.{◌≡◌, refl, ap, sym, ◌∙◌}
use mathlib.Core.List.{List}
use Prim.Native.Nat.{ℕ, ◌≤◌}
use native.Mathlib.Omega.{arith}
use Rattle.records.specs.Table.{RQ}
use Rattle.records.specs.Dossier.{records}
use Rattle.station.specs.Parameters.{parameters}
use Rattle.index.specs.Slots.{slot}
use Rattle.lookup.specs.Parts.{Indexed}
use Rattle.formulas.specs.Levels.{profile_of, profile}
use Rattle.parameters.proofs.Bounds.{clean}
use Rattle.query.proofs.Requests.{highest-asks, highest-silent, profile-range, profile-none}
use Rattle.query.proofs.profile.profile.Goals as goal

at_one : slot RQ 1 ≡ 138
unfolding slot
at_one = refl

pub slots_empty-requires : goal.slots_empty-requires
slots_empty-requires c = omega (arith, c.requires.index.roomy, c.slot_rq.ensures, at_one)

pub returns-then-slots_empty : goal.returns-then-slots_empty
returns-then-slots_empty c = (
  profile-none _ _ c.requires c.slot_rq.ensures (sym c.slots_empty.ensures ∙ c.if-slots_empty.true) c.args.hour,
  omega arith,
  omega arith,
)

pub loop-n-init : goal.loop-n-init
unfolding profile
loop-n-init c = refl

in-range : {d ix : List ℕ} → Indexed d ix → (h : ℕ) → (1 ≤ profile (parameters (records d)) h) × (profile (parameters (records d)) h ≤ 4)
unfolding profile
in-range i h = profile-range (clean i) h 16

pub returns-in-Some : goal.returns-in-Some
returns-in-Some c =
    let l = c.loop-n in
    let e : c.in-Some.asked ≡ profile (parameters (records c.args.d.now)) c.args.hour = highest-asks _ _ l.n
    (omega arith) c.in-Some.ensures ∙ l.invariant in
    let z = in-range c.requires c.args.hour in
    (e, rw e z.0, rw e z.1)

pub loop-n-preserved : goal.loop-n-preserved
loop-n-preserved c =
    let l = c.loop-n in
    highest-silent _ _ l.n (omega arith) (sym c.in_default.is ∙ c.asked_at.ensures) ∙ l.invariant

pub returns : goal.returns
unfolding profile_of
returns c =
    let l = c.loop-n in
    let w : 0 ≡ l.n = omega arith in
    (ap (profile_of _ _) w ∙ l.invariant, omega arith, omega arith)
