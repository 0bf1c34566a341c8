use mathlib.Core.Path.{◌≡◌, refl, sym, ◌∙◌}
use Prim.Native.Nat.{ℕ}
use Rattle.lists.specs.Tests.{among}
use Rattle.records.specs.Table.{TH, table}
use Rattle.records.specs.Record.{datable}
use Rattle.lookup.proofs.Held.{says-always}
use Rattle.limits.specs.declared.Threshold.{Threshold}
use Rattle.conduct.proofs.threshold_of.Goals as goal

threshold-is : {p m f q n g : ℕ} → p ≡ q → m ≡ n → f ≡ g
    → ◌≡◌ {A = Threshold} (record { percent = p; margin = m; floor = f }) (record { percent = q; margin = n; floor = g })
threshold-is x y z = rw (x, y, z) refl

pub returns : goal.returns
unfolding datable among table
returns c =
    let h = c.requires.0 in
    threshold-is (c.percent-percent.ensures ∙ sym (says-always h TH _ refl 2)) (c.margin-margin.ensures ∙ sym (says-always h TH _ refl 3))
    (c.floor-floor.ensures ∙ sym (says-always h TH _ refl 4))
