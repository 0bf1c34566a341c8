use Rattle.records.proofs.EveryMark.{mark-lt, kind-lt}
use Rattle.lookup.proofs.current_by_number.Goals as goal

pub lookup_part-requires : goal.lookup_part-requires
lookup_part-requires c = rw c.kind_of.ensures (kind-lt _ (rw c.mark_at.ensures (mark-lt _)))
