use mathlib.Core.Path.{ap, ◌∙◌}
use mir.Facts.{to_z-of_z}
use Rattle.verdicts.specs.Verdict.{on_price}
use Rattle.bench.specs.Codes.{verdict_code}
use Rattle.bench.proofs.bench_price_test.Goals as goal

pub returns : goal.returns
returns c = c.of_verdict.ensures ∙ ap verdict_code (c.price_test.ensures ∙ ap (on_price _ _ _ _) (to_z-of_z c.ranges.price))
