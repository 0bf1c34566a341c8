use native.Mathlib.Omega.{arith}
use Rattle.costs.proofs.Retired.{some-le, payments-there}
use Rattle.costs.proofs.maintenance.payments.Goals as goal

pub returns : goal.returns
returns c = (
  payments-there c.requires.0 c.args.p c.args.v c.ad.ensures c.ao.ensures c.ao-2.ensures,
  omega (arith, some-le c.ad.result.now, some-le c.ao.result.now, some-le c.ao-2.result.now),
)
