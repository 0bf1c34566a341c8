-- Arrival order says nothing.
use mathlib.Core.Path.{◌≡◌, ap, sym, ◌∙◌}
use mathlib.Core.List.{List}
use Prim.Native.Nat.{ℕ}
use lib.ListN.{length}
use Rattle.lists.specs.Lists.{Permutation}
use Rattle.lists.proofs.Lists.{each-permuted, joined_length}
use Rattle.records.specs.Dossier.{records}
use Rattle.records.proofs.Dossier.{joined-records, records-joined, records-whole}
use Rattle.station.specs.InForce.{Query}
use Rattle.station.proofs.Parameters.{parameters-permuted, amounts-permuted}
use Rattle.station.proofs.Owners.{force-permuted, force-distinct}
use Rattle.rules.specs.Answer.{IsAccepted}
use Rattle.rules.specs.Sound.{Sound}
use Rattle.rules.proofs.Sound.{accepted-sound, sound-accepted, sound-permuted}
use Rattle.formulas.specs.Levels.{parameters_at, amounts_at}
use Rattle.promise.specs.Order.{Reordered, ArrivalOrder}
use Rattle.promise.proofs.Meaning.{same-meaning}

module _ {d e : List ℕ} (h : IsAccepted d) (q : Reordered d e) where
  sound : Sound (records d)
  sound = (accepted-sound d h).1

  -- its records are those of d, in that order
  same-records : records e ≡ q.order
  same-records =
      ap records q.made ∙ records-joined (each-permuted q.same (records-whole d sound.clean))

  permuted : Permutation (records d) (records e)
  permuted = rw same-records q.same

  same_length : length d ≡ length e
  same_length = ap length (sym (joined-records d)) ∙ joined_length q.same ∙ ap length (sym q.made)

  accepted : IsAccepted e
  accepted = sound-accepted e (rw (← same_length) (accepted-sound d h).0) (sound-permuted permuted sound)

  -- for a query, what is in force is the same in another order
  same-parameters : (t : Query) → parameters_at d t ≡ parameters_at e t
  same-parameters t = parameters-permuted (force-permuted t permuted) (force-distinct t (records d) sound.distinct)

  same-amounts : (t : Query) → amounts_at d t ≡ amounts_at e t
  same-amounts t = amounts-permuted (force-permuted t permuted) (force-distinct t (records d) sound.distinct)

pub arrival-order : ArrivalOrder
arrival-order d e h q = same-meaning h (accepted h q) (same-parameters h q) (same-amounts h q)
