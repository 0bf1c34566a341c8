-- The index that a pass fills is one of all the records.
use mathlib.Core.Path.{◌≡◌, refl, ap, sym, ◌∙◌}
use mathlib.Core.List.{List, []}
use Prim.Native.Nat.{ℕ, ◌+◌, ◌-◌, ◌≤◌}
use native.Mathlib.Omega.{arith}
use lib.ListN.{length, drop, length-replicate}
use borrow.Author.Tests.{ne_eqb}
use Rattle.records.specs.Answers.{Accepted}
use Rattle.records.specs.Record.{mark}
use Rattle.records.specs.Dossier.{first_of, records, scan}
use Rattle.records.specs.Walk.{folded}
use Rattle.records.proofs.Record.{mark-take, size-ge}
use Rattle.station.specs.Current.{current}
use Rattle.index.specs.Slots.{short, fresh, keep_step}
use Rattle.index.specs.Holding.{held_record, IndexOf}
use Rattle.index.proofs.KeyBounds.{test-key}
use Rattle.index.proofs.Holds.{Holds, absent, there, index-holds, folded-length}

-- a slot that holds a record holds the record at its place
pub held-is : {k p v q : ℕ} (d : List ℕ) (c : List ℕ) → Holds k d p v c q → held_record d v ≡ c
unfolding held_record first_of
held-is d c (absent e z y) = rw (e, z) refl
held-is {q = q} d c (there e w f m g) =
    let s = drop q d in
    let at : q + 1 - 1 ≡ q = omega arith in
    let same : mark c ≡ mark s = ap mark (sym g) ∙ mark-take (length c) s (omega (arith, f, size-ge (mark c))) in
    rw (e, ne_eqb (q + 1) 0 (λ z. omega (arith, z)), at, ← same, ← f) g

-- and one that holds none is 0
pub held_none : {k p v q : ℕ} (d : List ℕ) (c : List ℕ) → Holds k d p v c q → c ≡ [] → v ≡ 0
held_none d c (absent e z y) n = e
held_none d c (there e w f m g) n = absurd (omega (arith, f, size-ge (mark c), ap length n))

pub index-of : (d : List ℕ) (w : ℕ) → scan 0 (records d) ≡ Accepted → length d ≤ 60000 → short ≤ w
    → IndexOf (records d) d (folded (keep_step d) 0 (fresh w) (records d)).slots
index-of d w s h r =
    let len : length (folded (keep_step d) 0 (fresh w) (records d)).slots ≡ w = folded-length d 0 (fresh w) (records d) ∙ length-replicate {A = ℕ} w 0 in
    record {
      roomy = omega (arith, len);
      short = h;
      clean = s;
      holds = λ k n a b c. held-is d (current k n (records d)) (index-holds d w s k n (test-key k n a b) (omega (arith, c, len)));
      none = λ k n a b c. held_none d (current k n (records d)) (index-holds d w s k n (test-key k n a b) (omega (arith, c, len)));
    }
