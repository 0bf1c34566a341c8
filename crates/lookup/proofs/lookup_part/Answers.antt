use Rattle.lookup.proofs.Rooms.{overlong-room}
use Rattle.lookup.proofs.Lookup.{part-overlong}
use Rattle.lookup.proofs.lookup_part.Goals as goal

pub returns-in_default : goal.returns-in_default
returns-in_default c = let d = c.args.d.now in part-overlong d _ _ (overlong-room d c.room_for.ensures c.in_default.is).0
