use Rattle.std.proofs.Common.{rules, ◌≡◌, ◌∙◌, sum_by}
use mir.Val.{bool_byte}
use lib.Dec.{ltb}
use Rattle.arithmetic.proofs.Selection.{sum-tests}
use Rattle.arithmetic.proofs.highest.above.Goals as goal

pub returns : goal.returns
returns c =
    let e : c.sum.result ≡ sum_by (λ x. bool_byte (ltb c.args.v x)) c.args.s.now = search rules in
    e ∙ sum-tests c.args.v c.args.s.now
