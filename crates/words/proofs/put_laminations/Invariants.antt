use Prim.Native.Nat.{◌+◌, ◌*◌}
use Rattle.text.proofs.Over.{Wrote}
use Rattle.arrays.specs.Packed.{in_arrays}
use Rattle.words.specs.Words.{words_to}
use Rattle.words.proofs.put_laminations.Given as goal

-- `words::put_laminations` meets its contract. The loop's invariant: the words of the places passed stand.

abbrev pub invariant-loop-i : goal.invariant-loop-i
invariant-loop-i l = Wrote (words_to l.profile (in_arrays l.from l.to l.cents l.count) l.i) l.initial.words (3 * l.i + 2) l.words
