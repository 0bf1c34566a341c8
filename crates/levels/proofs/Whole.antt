-- From what was read to the whole input.
use mathlib.Core.Path.{◌≡◌, refl, sym, ap, ◌∙◌}
use mathlib.Core.List.{List}
use Prim.Native.Nat.{ℕ, ◌≤◌}
use native.Mathlib.Omega.{arith}
use borrow.Author.Tests.{le-ltb}
use lib.ListN.{length, take}
use Rattle.std.specs.Prelude.{IsOk}
use Rattle.text.specs.Text.{over}
use Rattle.layout.specs.Written.{Written, Bytes}
use Rattle.layout.specs.Report.{longest_report, prints}
use Rattle.report.specs.Print.{print_answer, buffer_printed}
use Rattle.report.proofs.Program.{prints-fits, prints-cut}

-- s was read, into a buffer of 60,005 bytes, and there is room for every text
module _ (s e : List ℕ) (room : longest_report ≤ length e) where
  -- of every input of which s is what such a buffer holds, its text is told
  pub whole-text : {n : ℕ} {b : List ℕ} → Bytes n ≡ print_answer s e → b ≡ buffer_printed s e
      → (n ≤ longest_report) × ((i : List ℕ) → take 60005 i ≡ s → (n ≡ length (prints i)) × (b ≡ over (prints i) e))
  whole-text {n} {b} p q =
      let l : n ≡ length (prints s) = cc (rw (le-ltb (length e) longest_report room) at p) in
      let t : b ≡ over (prints s) e = rw (le-ltb (length e) longest_report room) at q in (
        omega (arith, l, prints-fits s),
        λ i r. let c : prints s ≡ prints i = ap prints (sym r)
            ∙ prints-cut i in (l ∙ ap length c, t ∙ ap (λ (x : List ℕ). over x e) c),
      )

  -- nothing is refused
  pub whole-ok : {w : Written} → w ≡ print_answer s e → IsOk w
  whole-ok p = rw (p, le-ltb (length e) longest_report room) refl
