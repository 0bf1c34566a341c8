use mathlib.Core.Path.{refl, ap, ◌∙◌}
use Prim.Native.Nat.{ℕ}
use lib.Dec.{ltb}
use Rattle.records.specs.Record.{since}
use Rattle.records.proofs.Over.{tail}
use Rattle.counting.specs.Sweep.{place_in, kept_by}
use Rattle.counting.proofs.is_kept.Goals as goal

pub returns-then-x-b : goal.returns-then-x-b
unfolding kept_by
returns-then-x-b c = rw c.if-x-b.true refl

pub returns : goal.returns
unfolding kept_by
returns c =
    let a = c.args in
    rw c.if-x-b.false (ap (λ (y : ℕ). ltb y a.h) (c.since_at.ensures ∙ ap since (tail a.d.now (place_in a.x))))
