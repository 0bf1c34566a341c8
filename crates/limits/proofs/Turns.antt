-- One pair after the other, as a loop goes through them.
use mathlib.Core.Path.{◌≡◌, refl, ap, ◌∙◌}
use mathlib.Core.List.{List}
use Prim.Native.Nat.{ℕ, suc, ◌+◌, ◌-◌, ◌≤◌, ◌<◌}
use native.Mathlib.Nat.{sub-zero}
use native.Mathlib.Numerals.{add-one}
use native.Mathlib.Omega.{arith}
use lib.ListN.{take, drop}
use lib.Seq.{get_or-take}
use Rattle.fields.specs.Numbers.{number}
use Rattle.fields.proofs.Numbers.{number_same, number-drop}
use Rattle.verdicts.specs.Test.{quantity, before}

pub one_less : (n k : ℕ) → k < n → n - k ≡ suc (n - (k + 1))
one_less n k h = omega arith

-- all pairs are left where the loop begins
pub all_left : {A : Type 0} (f : ℕ → A) (n : ℕ) → f (n - 0) ≡ f n
all_left f n = ap f (sub-zero n)

pub before-next : (o : List ℕ) (k : ℕ) → quantity o k ≡ before o (k + 1)
unfolding before
before-next o k = rw (add-one k) refl

-- a number in a part of a list, read in place
pub number-part : (a e o w : ℕ) (r : List ℕ) → a + o + w ≤ e → number o w (take (e - a) (drop a r)) ≡ number (a + o) w r
number-part a e o w r h = number_same o w (take (e - a) (drop a r)) (drop a r) (λ i p q. get_or-take (e - a) (drop a r) i 0 (omega arith)) ∙ number-drop a o w r
