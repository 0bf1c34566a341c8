-- Laws of chains of answers.
use mathlib.Core.Path.{◌≡◌, refl, ap}
use mathlib.Core.Bool.{Bool, true, false, cond}
use Prim.Native.Nat.{ℕ}
use native.Mathlib.Omega.{arith}
use lib.Dec.{eqb}
use borrow.Author.Tests.{eqb-true, eq-eqb}
use Rattle.std.specs.Prelude.{Ok, Err}
use Rattle.records.specs.Answers.{Accepted, Answer, or_else, drawn, refuse_if, Refused}

pub not-refused : (n p : ℕ) → Refused n p ≡ Accepted → ⊥
not-refused n p e = let z : ◌≡◌ {A = ℕ} 1 0 = ap (λ x. elim x [ Ok x ↦ 0 | Err r ↦ 1 ]) e in omega arith

-- a chain is accepted exactly if each part is
pub or_else-parts : (a b : Answer) → or_else a b ≡ Accepted → (a ≡ Accepted) × (b ≡ Accepted)
unfolding or_else
or_else-parts (Ok x) b h = (refl, h)
or_else-parts (Err r) b h = absurd (not-refused r.number r.place h)

pub parts-or_else : (a b : Answer) → a ≡ Accepted → b ≡ Accepted → or_else a b ≡ Accepted
unfolding or_else
parts-or_else a b p q = rw (p, q) refl

pub drawn-none : (n p : ℕ) → drawn n p ≡ Accepted → n ≡ 0
unfolding drawn
drawn-none n p = go (eqb n 0) refl
  where
    go : (b : Bool) → eqb n 0 ≡ b → cond b Accepted (Refused n p) ≡ Accepted → n ≡ 0
    go true e h = eqb-true n 0 e
    go false e h = absurd (not-refused n p h)

pub none-drawn : (n p : ℕ) → n ≡ 0 → drawn n p ≡ Accepted
unfolding drawn
none-drawn n p e = rw (eq-eqb n 0 e) refl

pub not-refuse_if : (b : Bool) (n p : ℕ) → refuse_if b n p ≡ Accepted → b ≡ false
unfolding refuse_if
not-refuse_if true n p h = absurd (not-refused n p h)
not-refuse_if false n p h = refl

pub refuse_if-not : (b : Bool) (n p : ℕ) → b ≡ false → refuse_if b n p ≡ Accepted
unfolding refuse_if
refuse_if-not b n p e = rw e refl

pub or_else-assoc : (a b c : Answer) → or_else (or_else a b) c ≡ or_else a (or_else b c)
unfolding or_else
or_else-assoc (Ok x) b c = refl
or_else-assoc (Err r) b c = refl

pub or_else-none : (a : Answer) → or_else a Accepted ≡ a
unfolding or_else
or_else-none (Ok x) = refl
or_else-none (Err r) = refl
