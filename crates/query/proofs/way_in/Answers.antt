use Rattle.records.specs.Answers.{refusal_of}
use Rattle.query.proofs.WayIn.{no-owner, by-room}
use Rattle.query.proofs.way_in.Goals as goal

pub returns-then-owner : goal.returns-then-owner
unfolding refusal_of
returns-then-owner c = no-owner _ _ c.if-owner.true

-- of an owner the room for the dossier says what the query draws
pub returns : goal.returns
returns c = by-room _ _ c.if-owner.false _ c.room_for.ensures
