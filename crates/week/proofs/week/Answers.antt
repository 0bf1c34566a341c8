use Rattle.std.proofs.lemmas.Result.{err_from_is_err_and}
use Rattle.acceptance.proofs.Entry.{no_room}
use Rattle.week.proofs.Told.{told-refusal}
use Rattle.week.proofs.week.Goals as goal

pub returns-in_err-room_for : goal.returns-in_err-room_for
returns-in_err-room_for c =
    let a = c.args in
    let p = err_from_is_err_and c.from_residual.result c.from_residual.ensures.1 in
    rw (p.1, p.2) (told-refusal a.d.now a.prices.now a.energies.now _ (no_room a.d.now c.room_for.ensures c.in_err-room_for.was))
