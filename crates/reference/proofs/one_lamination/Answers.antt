use mathlib.Core.Path.{ap}
use Prim.Native.Nat.{ℕ}
use Rattle.arrays.specs.Packed.{single_levels}
use Rattle.arrays.proofs.Packed.{first-set}
use Rattle.reference.proofs.one_lamination.Goals as goal

pub returns : goal.returns
returns c =
    let a = c.args in
    let p = c.requires in (
      ap (λ (x : ℕ). single_levels a.technology a.p 1 0 0 x) c.from_sum-reserve_level.ensures,
      first-set p.1 c.capacity.ensures.0,
      first-set p.2 c.from_sum-energy_level.ensures,
    )
