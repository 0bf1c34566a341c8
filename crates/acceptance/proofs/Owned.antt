-- The highest slot of a record tells that none names an owner.
use mathlib.Core.Path.{◌≡◌, ap, subst}
use mathlib.Core.Bool.{false}
use mathlib.Core.List.{List}
use Prim.Native.Nat.{ℕ, ◌≤◌}
use native.Mathlib.Omega.{arith}
use lib.Dec.{leb, eqb}
use borrow.Author.Tests.{eqb-true, leb-false}
use Rattle.lists.proofs.Lists.{each_map, each_both}
use Rattle.lists.proofs.Tests.{split}
use Rattle.records.specs.Table.{AO}
use Rattle.records.specs.Record.{kind, key_of, fault}
use Rattle.records.specs.Dossier.{records}
use Rattle.records.proofs.Dossier.{scan-each}
use Rattle.station.specs.InForce.{Unowned}
use Rattle.index.specs.Slots.{slot}
use Rattle.index.proofs.KeyBounds.{InKey, in-key}
use Rattle.index.proofs.Slots.{low, limits}
use Rattle.lookup.specs.Parts.{Whole, UpTo}

-- an owner's record has a slot from 334 on
own-slot : (r : List ℕ) → fault r ≡ 0 → kind r ≡ AO → 334 ≤ slot (kind r) (key_of r)
unfolding low
own-slot r f e =
    let i : InKey AO (key_of r) = subst (λ (k : ℕ). InKey k (key_of r)) e (in-key r f) in
    omega (arith, limits AO (key_of r) i, ap (λ (k : ℕ). slot k (key_of r)) e)

pub none_owned : {d ix : List ℕ} {m : ℕ} → Whole d ix → UpTo d m → leb 334 m ≡ false → Unowned d
none_owned {d} {m = m} w u e =
    each_map (λ r p. split (eqb (kind r) AO)
    (λ k. absurd (omega (arith, own-slot r p.0 (eqb-true (kind r) AO k), p.1, leb-false 334 m e)))
    (λ k. k))
    (each_both (scan-each 0 (records d) w.clean) u)
