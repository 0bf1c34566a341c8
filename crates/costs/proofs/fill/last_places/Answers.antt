use Rattle.std.proofs.Common.{◌≡◌, refl, ◌+◌, ◌<◌, length}
use native.Mathlib.Omega.{arith}
use lib.ListN.{length-set}
use Rattle.costs.proofs.Prices.{prices-none, prices-more}
use Rattle.costs.proofs.fill.last_places.Goals as goal

pub loop-k-init : goal.loop-k-init
loop-k-init g c = (refl, λ f h. prices-none (length c.args.table.now) f c.args.table.now refl)

pub loop-k-preserved : goal.loop-k-preserved
loop-k-preserved g c =
    let l = c.loop-k in
    let m = length c.args.table.now in
    let room : l.k < m = omega (arith, c.requires.room) in (
      simp length-set l.invariant.0,
      λ f h. prices-more m f l.table l.k _ c.price.result l.invariant.0 room (omega arith) (l.invariant.1 f h)
          (h (l.k + 1) c.price.result (omega arith) (omega arith) c.price.ensures),
    )

pub returns : goal.returns
returns g c f h =
    let l = c.loop-k in
    let z : l.k ≡ c.args.n = omega arith in
    rw (l.invariant.0, ← z) (l.invariant.1 f h)
