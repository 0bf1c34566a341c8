use mathlib.Core.Path.{◌≡◌}
use mathlib.Core.List.{List, [], map}
use Prim.Native.Nat.{ℕ}
use lib.ListN.{take}
use Rattle.lookup.specs.Parts.{held}
use Rattle.station.specs.Parameters.{parameters, amounts}
use Rattle.formulas.specs.Levels.{Line, amount, laminations}
use Rattle.arrays.specs.Packed.{padded}
use Rattle.reference.proofs.laminations.laminations.Given as goal

-- one number of each lamination
abbrev pub column : List (List ℕ) → ℕ → ℕ → (Line → ℕ) → List ℕ
column l p n g = map g (laminations (parameters l) (amounts l) p 1 n [])

abbrev pub invariant-loop-i : goal.invariant-loop-i
invariant-loop-i l =
    (l.from ≡ padded 20 (take l.i (column (held l.d l.index) l.p l.n (λ x. x.from))))
    × (l.to ≡ padded 20 (take l.i (column (held l.d l.index) l.p l.n (λ x. x.to))))
    × (l.cents ≡ padded 20 (take l.i (column (held l.d l.index) l.p l.n (λ x. amount x))))
