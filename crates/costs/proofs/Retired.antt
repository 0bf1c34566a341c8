-- Third-party payments in force, told by what the lookup gives.
use mathlib.Core.Path.{◌≡◌, refl, ap, ap₂, sym, ◌∙◌}
use mathlib.Core.Bool.{Bool, true, false, cond, not}
use mathlib.Core.List.{List}
use Prim.Native.Nat.{ℕ, zero, suc, ◌+◌, ◌*◌, ◌<◌, ◌≤◌}
use native.Mathlib.Omega.{arith}
use mir.Val.{bool_byte}
use lib.Dec.{ltb, eqb, lit≤}
use lib.ListN.{length, drop, length-drop}
use borrow.Author.Tests.{lt-ltb, ne_eqb}
use Rattle.lists.proofs.Lists.{member-each}
use Rattle.records.specs.Table.{AD, AO}
use Rattle.records.specs.Record.{mark, is_dated, fault}
use Rattle.records.specs.MarkShapes.{body}
use Rattle.records.proofs.Record.{faultless, size-ge}
use Rattle.records.proofs.Dated.{body-nil, dated-at}
use Rattle.station.specs.Current.{current, present}
use Rattle.station.specs.Declared.{CurrentOf, absent, standing}
use Rattle.station.specs.Parameters.{Parameters, parameters, adder_key, own_key}
use Rattle.station.proofs.Current.{current-found}
use Rattle.lookup.specs.Parts.{Indexed, held, parameters_held}
use Rattle.lookup.proofs.Held.{held-clean}
use Rattle.formulas.specs.Levels.{one_if, third_party}
use Rattle.costs.proofs.Absent.{owner-fields}

-- a record without fault has a body
body-there : (r : List ℕ) → fault r ≡ 0 → 0 < length (body r)
unfolding body
body-there r e = go (is_dated (mark r)) refl
  where
    go : (b : Bool) → is_dated (mark r) ≡ b → 0 < length (cond b (drop 4 r) r)
    go true d = omega (arith, length-drop 4 r, (faultless r e).whole, size-ge (mark r), dated-at (mark r) d)
    go false d = omega (arith, (faultless r e).whole, size-ge (mark r))

-- the payments of a level that are in force
abbrev pub payments : Parameters → ℕ → ℕ → ℕ
payments s p v = one_if s AD (adder_key p third_party v) + one_if s AO (own_key 1 p third_party v) + one_if s AO (own_key 2 p third_party v)

-- 1 where a lookup gave something, else 0
abbrev some : List ℕ → ℕ
some r = bool_byte (not (eqb (length r) 0))

pub some-le : (r : List ℕ) → some r ≤ 1
some-le r = go (not (eqb (length r) 0))
  where
    go : (b : Bool) → bool_byte b ≤ 1
    go true = lit≤ tt
    go false = lit≤ tt

counted : {b t : Bool} → b ≡ t → bool_byte b ≡ cond t 1 0
counted {b} e = rw (sym e) (go b)
  where
    go : (b : Bool) → bool_byte b ≡ cond b 1 0
    go true = refl
    go false = refl

module _ {d ix : List ℕ} (h : Indexed d ix) where
  -- a record is there where its body is not empty
  body-counts : (k n : ℕ) {r : List ℕ} → r ≡ body (current k n (held d ix)) → some r ≡ one_if (parameters_held d ix) k n
  unfolding parameters present
  body-counts k n e = counted (ap (λ (r : List ℕ). not (eqb (length r) 0)) e ∙ go (current k n (held d ix)) (current-found k n (held d ix)))
    where
      go : (r : List ℕ) → CurrentOf k n (held d ix) r → not (eqb (length (body r)) 0) ≡ ltb 0 (length r)
      go r (absent z w) = rw (z, body-nil) refl
      go r (standing q) =
          let f = member-each q.member (held-clean h) in
          let there : 0 < length r = omega (arith, (faultless r f).whole, size-ge (mark r)) in
          rw (ne_eqb (length (body r)) 0 (λ z. omega (arith, z, body-there r f)), lt-ltb 0 (length r) there) refl

  -- or where it is not empty itself: that of an owner's cost
  own-counts : (o p c v : ℕ) {r : List ℕ} → r ≡ current AO (o * 16777216 + p * 65536 + c * 256 + v) (held d ix)
      → some r ≡ one_if (parameters_held d ix) AO (own_key o p c v)
  unfolding parameters present
  own-counts o p c v {r} e =
      let its = ap (λ (n : ℕ). current AO n (held d ix)) (owner-fields o p c v) in
      counted (go (length r) ∙ ap (λ (x : List ℕ). ltb 0 (length x)) (e ∙ its))
    where
      go : (m : ℕ) → not (eqb m 0) ≡ ltb 0 m
      go zero = refl
      go (suc m) = rw (ne_eqb (suc m) 0 (λ z. omega (arith, z)), lt-ltb 0 (suc m) (omega arith)) refl

  pub payments-there : (p v : ℕ) {a x y : List ℕ} → a ≡ body (current AD (adder_key p third_party v) (held d ix))
      → x ≡ current AO (16777216 + p * 65536 + 1024 + v) (held d ix) → y ≡ current AO (33554432 + p * 65536 + 1024 + v) (held d ix)
      → some a + some x + some y ≡ payments (parameters_held d ix) p v
  payments-there p v e f g =
      ap₂ (λ (x y : ℕ). x + y) (ap₂ (λ (x y : ℕ). x + y) (body-counts AD (adder_key p third_party v) e) (own-counts 1 p third_party v f))
      (own-counts 2 p third_party v g)
