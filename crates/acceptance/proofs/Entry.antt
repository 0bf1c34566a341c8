-- The way in to every call that begins with the answer to a dossier.
use mathlib.Core.Path.{◌≡◌, ap, sym, ◌∙◌}
use mathlib.Core.List.{List}
use Prim.Native.Nat.{ℕ}
use Rattle.std.specs.Prelude.{Result, Err}
use Rattle.records.specs.declared.Refusal.{Refusal}
use Rattle.records.specs.Answers.{refusal_of}
use Rattle.lookup.specs.Parts.{too_long}
use Rattle.lookup.proofs.Rooms.{overlong-room}
use Rattle.rules.specs.Answer.{answer}
use Rattle.rules.proofs.Draws.{overlong}

-- what `lookup::room_for` refuses of a dossier, for it is too long, is its answer
pub no_room : {A : Type 0} {w : Result A Refusal} {r : Refusal} (d : List ℕ) → refusal_of w ≡ too_long d → w ≡ Err r → answer d ≡ Err r
no_room d e f = let long = overlong-room d e f in overlong d long.0 ∙ ap Err (sym long.1)
