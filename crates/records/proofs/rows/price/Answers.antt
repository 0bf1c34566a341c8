use Rattle.records.proofs.Ranges.{inside}
use Rattle.records.proofs.rows.price.Goals as goal

pub returns : goal.returns
returns c = rw (← c.u32_at.ensures, ← c.biased.ensures) (inside _ _ c.biased.result c.new.ensures.start c.new.ensures.end c.new.ensures.exhausted c.contains.ensures.value)
