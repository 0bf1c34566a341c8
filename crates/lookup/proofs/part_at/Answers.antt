use mathlib.Core.Path.{◌≡◌, refl, ap, sym, ◌∙◌}
use mathlib.Core.List.{List}
use mathlib.Core.Logic.{inl, inr}
use Prim.Native.Nat.{ℕ, ◌+◌, ◌-◌}
use native.Mathlib.Omega.{arith}
use lib.ListN.{length, get_or}
use borrow.Author.Tests.{ne_eqb, lt-ltb}
use Rattle.std.specs.Borrow.{Bor}
use Rattle.std.specs.Prelude.{Option, Some, None, unwrap_or}
use Rattle.std.specs.Slice.{IsGetRangeResult}
use Rattle.lookup.specs.Parts.{part, part_bytes, place_at, part_at}
use Rattle.lookup.proofs.Parts.{part_none, record-there}
use Rattle.lookup.proofs.part_at.Goals as goal

pub returns-then-v-eq0 : goal.returns-then-v-eq0
returns-then-v-eq0 c = sym (part_none _ _ _ _ c.if-v-eq0.true)

-- the part from where the slot says on, and an empty one where the dossier ends before
got : (d ix : List ℕ) (j n : ℕ) (r : Option (Bor (List ℕ))) (e : Bor (List ℕ)) → (get_or ix j 0 ≡ 0 → ⊥)
    → IsGetRangeResult d (get_or ix j 0 - 1) (get_or ix j 0 - 1 + n) r → e.now ≡ part_bytes d (part 0 0) → (unwrap_or r e).now ≡ part_at d ix j n
unfolding part_at place_at
got d ix j n (Some s) e some t h = t.0.2 ∙ record-there d (get_or ix j 0) n some refl t.0.1
got d ix j n None e some (inl t, _) h = absurd (omega (arith, t))
got d ix j n None e some (inr t, _) h = rw (ne_eqb (get_or ix j 0) 0 some, lt-ltb (length d) (get_or ix j 0 - 1 + n) t) h

pub returns : goal.returns
unfolding part_bytes
returns c = ap (λ (s : Bor (List ℕ)). s.now) c.unwrap_or.ensures ∙ got _ _ _ _ c.get.result _ c.if-v-eq0.false c.get.ensures.lookup refl
