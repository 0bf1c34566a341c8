-- Amounts of third-party payments change nothing.
use mathlib.Core.Path.{◌≡◌, refl, ap, sym, ◌∙◌}
use mathlib.Core.Bool.{true, false, cond, ◌&&◌, ◌||◌, true≢false}
use mathlib.Core.List.{List, []}
use Prim.Native.Nat.{ℕ}
use lib.Dec.{eqb}
use Rattle.lists.specs.Lists.{Each, Pairwise}
use Rattle.lists.proofs.Lists.{member-each}
use Rattle.lists.proofs.Tests.{split, and_left, and_right, and_both}
use Rattle.records.specs.Table.{AD, CH, AO}
use Rattle.records.specs.Record.{key_of, fault}
use Rattle.records.specs.Dossier.{records}
use Rattle.station.specs.InForce.{Query}
use Rattle.station.specs.Parameters.{amounts, charge_price}
use Rattle.station.specs.Declared.{IsCurrent}
use Rattle.station.proofs.Owners.{force-each}
use Rattle.rules.specs.Answer.{IsAccepted}
use Rattle.rules.proofs.Sound.{accepted-sound}
use Rattle.formulas.specs.Levels.{amounts_in, parameters_at, amounts_at, fuelled, third_party, Line, levels}
use Rattle.formulas.proofs.Withdrawn.{cost_in, claimed, claimed-same, lines_same}
use Rattle.promise.specs.AlikeBut.{AlikeBut}
use Rattle.promise.specs.Withdrawn.{adder_field, withdrawn, Withdrawn}
use Rattle.promise.proofs.AlikeBut.{but-force, but-parameters, but-amount}
use Rattle.promise.proofs.AdderKeys.{joins, cost-told}
use Rattle.promise.proofs.Meaning.{meaning-by-levels}

-- a payment by its kind and its key
paid-key : (r : List ℕ) → fault r ≡ 0 → withdrawn r ≡ true → joins r && eqb (cost_in (key_of r)) third_party ≡ true
unfolding withdrawn
paid-key r clean w =
    let j : joins r ≡ true = and_left (joins r) (eqb (adder_field 1 r) third_party) w in
    and_both (joins r) (eqb (cost_in (key_of r)) third_party) j
    (rw (cost-told r clean j) (and_right (joins r) (eqb (adder_field 1 r) third_party) w))

module _ {l m : List (List ℕ)} (a : Pairwise (AlikeBut withdrawn) l m) (clean : Each (λ r. fault r ≡ 0) l) where
  -- under a kind and key that is no third-party payment's none is current
  unpicked : (k n : ℕ) → (eqb k AD || eqb k AO) && eqb (cost_in n) third_party ≡ false → (r : List ℕ) → IsCurrent k n l r → withdrawn r ≡ false
  unpicked k n e r c =
      split (withdrawn r)
      (λ w. absurd (true≢false (sym (rw (c.marked, c.keyed) at (paid-key r (member-each c.member clean) w)) ∙ e)))
      (λ w. w)

  same-claimed : claimed (amounts l) ≡ claimed (amounts m)
  same-claimed = claimed-same (λ k n i e. but-amount a k n i (unpicked k n e))

module _ (d e : List ℕ) (a : IsAccepted d) (b : Pairwise (AlikeBut withdrawn) (records d) (records e)) where
  clean : Each (λ r. fault r ≡ 0) (records d)
  clean = (accepted-sound d a).1.clean

  parameters-same : (q : Query) → parameters_at d q ≡ parameters_at e q
  parameters-same q = but-parameters (but-force b q)

  levels-same : (q : Query) → levels d q ≡ levels e q
  unfolding levels
  levels-same q =
      rw (← parameters-same q)
      (ap (λ (l : List Line). cond (fuelled (parameters_at d q) q.hour) l [])
      (lines_same (parameters_at d q) (amounts_at d q) (amounts_at e q) (same-claimed (but-force b q) (force-each q clean)) q.hour))

  charges-same : (n : ℕ) → charge_price (amounts_in d) n ≡ charge_price (amounts_in e) n
  charges-same n = but-amount b CH n 1 (unpicked b clean CH n refl)

pub withdrawn-same : Withdrawn
withdrawn-same d e a b q = meaning-by-levels a b (parameters-same d e a q) (levels-same d e a q) (charges-same d e a q)
