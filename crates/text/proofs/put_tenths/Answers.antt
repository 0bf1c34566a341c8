use mathlib.Core.List.{◌++◌}
use Prim.Native.Nat.{◌/◌}
use native.Mathlib.Omega.{arith}
use lib.ListN.{length-set}
use Rattle.text.specs.Text.{decimal, point, tenths}
use Rattle.text.proofs.Lengths.{tenths-length}
use Rattle.text.proofs.Over.{byte}
use Rattle.text.proofs.put_tenths.Goals as goal

-- `text::put_tenths` meets its contract: the point and the last digit go behind the whole MW.

pub bounds-buf-b : goal.bounds-buf-b
bounds-buf-b c = simp length-set (omega (arith, tenths-length c.args.n))

pub returns : goal.returns
unfolding tenths
returns c =
    let n = c.args.n in
    let e = c.args.buf.now in
    let k = tenths-length n in
    let pointed = byte (decimal (n / 10)) e 46 (omega arith) c.put_decimal-a.ensures in
    rw c.digit.ensures (byte (decimal (n / 10) ++ point) e _ (omega arith) pointed)
