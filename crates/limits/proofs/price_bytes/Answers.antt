use mathlib.Core.Path.{◌∙◌}
use Prim.Native.Nat.{◌+◌, ◌*◌}
use native.Mathlib.Omega.{arith}
use Rattle.limits.proofs.Turns.{number-part}
use Rattle.limits.proofs.price_bytes.Goals as goal

pub returns : goal.returns
returns c =
    let a = c.args in
    c.u32_at-2.ensures ∙ number-part (6 * a.k) (6 * a.k + 6) 2 4 a.offer.now (omega arith)
