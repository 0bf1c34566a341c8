use mathlib.Core.Path.{◌≡◌, refl, ◌∙◌}
use mathlib.Core.List.{List}
use Prim.Native.Nat.{ℕ, ◌+◌, ◌<◌}
use native.Mathlib.Numerals.{add-one}
use native.Mathlib.Omega.{arith}
use lib.Bits.{bit_or}
use lib.Dec.{eqb}
use lib.ListN.{get_or, take, drop, length-take}
use lib.Seq.{get_or-take, get_or-drop}
use Rattle.lists.specs.Tests.{all_below}
use Rattle.lists.proofs.Tests.{or-none}
use Rattle.index.specs.Slots.{slots_empty}
use Rattle.index.proofs.slots_empty.Goals as goal

empty-next : (ix : List ℕ) (j n i a : ℕ) → i < n → eqb a 0 ≡ slots_empty ix j i
    → eqb (bit_or a (get_or (take n (drop j ix)) i 0)) 0 ≡ slots_empty ix j (i + 1)
unfolding slots_empty all_below
empty-next ix j n i a h e =
    or-none a (get_or (take n (drop j ix)) i 0) ∙ rw (get_or-take n (drop j ix) i 0 h, get_or-drop j ix i 0, e, add-one i) refl

pub loop-v-init : goal.loop-v-init
unfolding slots_empty all_below
loop-v-init c = refl

pub loop-v-preserved : goal.loop-v-preserved
loop-v-preserved c = empty-next _ _ _ _ _ (omega (arith, length-take {A = ℕ}, c.loop-v-test.true)) c.loop-v.invariant
