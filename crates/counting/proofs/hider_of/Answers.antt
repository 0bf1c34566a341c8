use borrow.Author.Rules.{rules}
use mathlib.Core.Path.{◌≡◌}
use Prim.Native.Nat.{min, max}
use Rattle.counting.proofs.Fewer.{some-like, some-lower, some-higher}
use Rattle.counting.proofs.hider_of.Goals as goal

pub loop-id-preserved : goal.loop-id-preserved
loop-id-preserved c =
    let l = c.args.ids.now in
    let p = c.loop-id.invariant in
    let x = some-like l c.loop-id.id-index _ c.loop-id-test.true c.like-x.ensures in
    let top : c.max-first.result ≡ max c.loop-id.first c.like-x.result = search rules in
    let low : c.min.result ≡ min c.loop-id.first c.like-x.result = search rules in
    let high : c.max-second.result ≡ max c.loop-id.second c.min.result = search rules in (
      some-higher l _ _ p.0 x top,
      some-higher l _ _ p.1 (some-lower l _ _ p.0 x low) high,
    )
