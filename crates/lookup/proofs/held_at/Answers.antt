use mathlib.Core.Path.{◌≡◌, refl}
use native.Mathlib.Omega.{arith}
use borrow.Author.Rules.{rules}
use Rattle.lookup.specs.Parts.{place_at, part_at, body_at}
use Rattle.lookup.proofs.Parts.{record-none, record-there, body-none, body-there}
use Rattle.lookup.proofs.held_at.Goals as goal
use Rattle.lookup.proofs.held_at.Goals.{then-this-ne0, else-this-ne0}

pub returns-then-v-eq0-clause-record : goal.returns-then-v-eq0-clause-record
unfolding place_at part_at
returns-then-v-eq0-clause-record g c = λ _. record-none _ _ _ c.if-v-eq0.true

pub returns-then-v-eq0-clause-body : goal.returns-then-v-eq0-clause-body
unfolding body_at
returns-then-v-eq0-clause-body g c = λ _. body-none _ _ _ c.if-v-eq0.true

-- of a kind without first hours no byte is passed over
pub returns-clause-record : goal.returns-clause-record
unfolding place_at part_at
returns-clause-record g c = λ e.
    let none : c.choose.result ≡ 0 = elim c.if-this-ne0.branch [
      | then-this-ne0 w ↦ absurd (search rules)
      | else-this-ne0 w ↦ rw (c.choose.ensures, w.choose-is, w.if-this-ne0.false) refl
    ] in
    record-there _ _ _ c.if-v-eq0.false (omega (arith, none)) (omega (arith, none, c.requires.1 e c.if-v-eq0.false))

-- of any other the second letter tells
pub returns-clause-body : goal.returns-clause-body
unfolding body_at
returns-clause-body g c = λ e.
    body-there _ _ _ c.if-v-eq0.false
    (elim c.if-this-ne0.branch [
      | then-this-ne0 w ↦ rw (c.choose.ensures, w.choose-is) refl
      | else-this-ne0 w ↦ absurd (search rules)
    ])
