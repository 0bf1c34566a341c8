use mathlib.Core.Path.{ap, ◌∙◌}
use Prim.Native.Nat.{ℕ, ◌≤◌}
use native.Mathlib.Omega.{arith}
use lib.ListN.{length}
use Rattle.lists.specs.Lists.{Member, those}
use Rattle.lists.proofs.Lists.{member-each}
use Rattle.records.specs.Record.{since}
use Rattle.records.proofs.Over.{tail}
use Rattle.counting.specs.Sweep.{place_in, kept_by, without}
use Rattle.counting.proofs.thinned.Goals.{Else-b-eq0}
use Rattle.counting.proofs.thinned.Goals as goal

-- where one is found
one : (c : Else-b-eq0) → Member c.hider_of-b.result c.args.ids.now
one c = c.hider_of-b.ensures (omega (arith, c.if-b-eq0.false))

low : (c : Else-b-eq0) → place_in c.hider_of-b.result ≤ length c.args.d.now
low c = member-each (one c) c.requires

pub slice_bounds-since_at-count : goal.slice_bounds-since_at-count
slice_bounds-since_at-count c = omega (arith, low (goal.at.slice_bounds-since_at-count c).Else-b-eq0)

pub slice_bounds-since_at-start : goal.slice_bounds-since_at-start
slice_bounds-since_at-start c = omega (arith, low (goal.at.slice_bounds-since_at-start c).Else-b-eq0)

pub returns : goal.returns
returns c =
    let a = c.args in
    let b = c.hider_of-b.result in
    let t = c.thin.ensures in (
      t.0,
      without b (one (goal.at.returns c).Else-b-eq0) (t.1 ∙ ap (λ (h : ℕ). those (kept_by a.d.now b h) a.ids.now)
          (c.since_at.ensures ∙ ap since (tail a.d.now (place_in b)))),
    )
