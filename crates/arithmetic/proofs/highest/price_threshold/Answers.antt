use borrow.Author.Rules.{rules}
use mathlib.Core.Path.{◌≡◌}
use mathlib.Core.List.{List}
use Prim.Native.Nat.{ℕ, min}
use native.Mathlib.Nat.{le_refl}
use native.Mathlib.Omega.{arith}
use lib.Dec.{lit≤}
use Rattle.std.specs.Prelude.{fold}
use Rattle.lists.specs.Lists.{Each}
use Rattle.arithmetic.specs.Highest.{PriceIn}
use Rattle.arithmetic.proofs.Selection.{topmost-le, all-least, threshold-lowest, none_above, lowest-in, topmost-in}
use Rattle.arithmetic.proofs.highest.price_threshold.Goals as goal

highest-price : PriceIn 2147683648
highest-price = record { low = lit≤ tt; high = le_refl 2147683648 }

-- the lowest is a price
low-price : (low : ℕ) (s : List ℕ) → Each PriceIn s → low ≡ fold min 2147683648 s → PriceIn low
low-price low s p e = rw e (lowest-in 2147683648 p highest-price)

pub returns-then-s-most : goal.returns-then-s-most
returns-then-s-most c =
    let p = low-price _ c.args.s.now c.requires.3 c.lowest-low.ensures in
    (threshold-lowest _ _ _ 2147683648 c.args.s.now c.requires.1 c.if-s-most.true (omega arith), p.low, p.high)

pub threshold-requires : goal.threshold-requires
threshold-requires c =
    let s = c.args.s.now in
    let low = c.lowest-low.result in (
      search rules,
      search rules,
      omega (arith, topmost-le low s),
      omega (arith, all-least low 2147683648 s (omega arith)),
      omega (arith, none_above c.topmost-high.result low s (omega arith)),
    )

pub returns : goal.returns
returns c =
    let p = low-price _ c.args.s.now c.requires.3 c.lowest-low.ensures in
    let q = topmost-in c.lowest-low.result c.requires.3 p in
    (c.threshold.ensures.0, omega arith, omega arith)
