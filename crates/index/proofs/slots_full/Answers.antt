use mathlib.Core.Path.{◌≡◌, refl, sym, ◌∙◌}
use mathlib.Core.Bool.{Bool, ◌&&◌, not}
use mathlib.Core.List.{List}
use Prim.Native.Nat.{ℕ, zero, suc, ◌+◌, ◌<◌}
use native.Mathlib.Numerals.{add-one}
use native.Mathlib.Omega.{arith}
use lib.Dec.{eqb}
use borrow.Author.Tests.{ne_eqb}
use lib.ListN.{length, get_or, take, drop, length-take, get_or-eq_default}
use lib.Seq.{get_or-take, get_or-drop}
use Rattle.lists.specs.Tests.{all_below}
use Rattle.lists.proofs.Tests.{and-false}
use Rattle.index.specs.Slots.{slots_full}
use Rattle.index.proofs.slots_full.Goals as goal

-- a slot behind the index is empty
full-beyond : (ix : List ℕ) (j n : ℕ) → length ix < j + n → eqb n 0 ≡ slots_full ix j n
unfolding slots_full all_below
full-beyond ix j zero h = refl
full-beyond ix j (suc n) h =
    ne_eqb (suc n) 0 (λ e. omega (arith, e)) ∙ sym (rw (get_or-eq_default ix 0 {n = j + n} (omega arith)) (and-false (slots_full ix j n)))

full-next : (ix : List ℕ) (j n i : ℕ) (a : Bool) → i < n → a ≡ slots_full ix j i
    → (a && not (eqb (get_or (take n (drop j ix)) i 0) 0)) ≡ slots_full ix j (i + 1)
unfolding slots_full all_below
full-next ix j n i a h e = rw (get_or-take n (drop j ix) i 0 h, get_or-drop j ix i 0, e, add-one i) refl

pub returns-then-index-j : goal.returns-then-index-j
returns-then-index-j c = full-beyond _ _ _ c.if-index-j.true

pub loop-v-init : goal.loop-v-init
unfolding slots_full all_below
loop-v-init c = refl

pub loop-v-preserved : goal.loop-v-preserved
loop-v-preserved c = full-next _ _ _ _ _ (omega (arith, length-take {A = ℕ}, c.loop-v-test.true)) c.loop-v.invariant
