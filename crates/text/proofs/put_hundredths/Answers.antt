use Prim.Native.Nat.{◌/◌}
use native.Mathlib.Omega.{arith}
use Rattle.text.specs.Text.{tenths, hundredths}
use Rattle.text.proofs.Lengths.{hundredths-length}
use Rattle.text.proofs.Over.{byte}
use Rattle.text.proofs.put_hundredths.Goals as goal

-- `text::put_hundredths` meets its contract: the last digit goes behind the tenths.

pub returns : goal.returns
unfolding hundredths
returns c =
    let n = c.args.n in
    let e = c.args.buf.now in
    let k = hundredths-length n in
    rw c.digit.ensures (byte (tenths (n / 10)) e _ (omega arith) c.put_tenths-a.ensures)
