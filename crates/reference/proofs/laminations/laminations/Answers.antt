use mathlib.Core.Path.{◌≡◌, ap, ◌∙◌}
use mathlib.Core.List.{List}
use Prim.Native.Nat.{ℕ, ◌+◌, ◌≤◌}
use native.Mathlib.Omega.{arith}
use lib.ListN.{take, set}
use Rattle.lookup.specs.Parts.{held}
use Rattle.station.specs.Parameters.{parameters, amounts, output}
use Rattle.formulas.specs.Levels.{Line, amount, lamination}
use Rattle.arrays.specs.Packed.{padded}
use Rattle.arrays.proofs.Packed.{row_more, row_ends, laminations-length, lamination-at}
use Rattle.reference.proofs.laminations.laminations.Invariants.{column}
use Rattle.reference.proofs.laminations.laminations.Goals as goal

pub loop-i-init : goal.loop-i-init
unfolding padded
loop-i-init c =
    let h = c.requires in
    (h.4, h.5, h.6)

-- what one turn writes to an array is the next number of its column
turn : (l : List (List ℕ)) (p n i : ℕ) (g : Line → ℕ) (a : List ℕ) (x : ℕ) → n ≤ 20 → i + 1 ≤ n → a ≡ padded 20 (take i (column l p n g))
    → x ≡ g (lamination (parameters l) (amounts l) p (i + 1))
    → set a i x ≡ padded 20 (take (i + 1) (column l p n g))
turn l p n i g a x h k e f =
    row_more (column l p n g) a i x (omega arith) (omega (arith, laminations-length (parameters l) (amounts l) p g 1 n)) e
    (f ∙ lamination-at (parameters l) (amounts l) p g 1 n i (i + 1) (omega arith) (omega arith))

pub loop-i-preserved : goal.loop-i-preserved
loop-i-preserved c =
    let a = c.args in
    let m = held a.d.now a.index.now in
    let l = c.loop-i in
    let h = c.requires.3 in (
      turn m a.p a.n l.i (λ x. x.from) l.from _ h (omega arith) l.invariant.0 c.bottom.ensures,
      turn m a.p a.n l.i (λ x. x.to) l.to _ h (omega arith) l.invariant.1
          (c.output.ensures.0 ∙ ap (λ (j : ℕ). output (parameters m) j) (omega arith)),
      turn m a.p a.n l.i (λ x. amount x) l.cents _ h (omega arith) l.invariant.2 c.lamination.ensures,
    )

-- a column that is filled
filled : (l : List (List ℕ)) (p n i : ℕ) (g : Line → ℕ) {a : List ℕ} → n ≤ i → a ≡ padded 20 (take i (column l p n g))
    → a ≡ padded 20 (column l p n g)
filled l p n i g h e = row_ends (column l p n g) _ i (omega (arith, laminations-length (parameters l) (amounts l) p g 1 n)) e

pub returns : goal.returns
returns c =
    let a = c.args in
    let m = held a.d.now a.index.now in
    let h = c.loop-i.invariant in
    let e = c.loop-i-test.false in
    (filled m a.p a.n _ (λ x. x.from) e h.0, filled m a.p a.n _ (λ x. x.to) e h.1, filled m a.p a.n _ (λ x. amount x) e h.2)
