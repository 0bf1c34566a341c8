use mathlib.Core.Path.{◌≡◌}
use native.Mathlib.Omega.{arith}
use Rattle.text.proofs.Decimal.{last_digits, decimal-digits_all}
use Rattle.text.proofs.Store.{more}
use Rattle.text.proofs.put_decimal.Goals as goal

pub loop-i-init : goal.loop-i-init
loop-i-init c = rw (c.decimal_len-len.ensures, decimal-digits_all c.args.n (omega arith))

pub loop-i-preserved : goal.loop-i-preserved
loop-i-preserved c =
    let l = c.loop-i in
    more _ l.buf l.i l.m c.digit.result c.loop-i-test.true (omega arith) (omega (arith, c.digit.ensures)) l.invariant

pub returns : goal.returns
unfolding last_digits
returns c =
    let z : c.loop-i.i ≡ 0 = omega arith in
    (c.decimal_len-len.ensures, rw z at c.loop-i.invariant)
