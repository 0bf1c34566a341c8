-- The report as its lines one after the other.
use mathlib.Core.Path.{◌≡◌, refl, ap, ◌∙◌}
use mathlib.Core.Bool.{Bool, true, false}
use mathlib.Core.List.{List, [], ◌∷◌, ◌++◌, append_assoc, append-nil}
use Prim.Native.Nat.{ℕ, zero, suc, ◌+◌, ◌*◌, ◌-◌, ◌≤◌}
use native.Mathlib.Numerals.{add-one}
use native.Mathlib.Omega.{arith}
use lib.ListN.{length, take, drop, get_or, length-append}
use Rattle.lists.proofs.Tests.{split}
use Rattle.text.specs.Text.{profile_word, start_word, no_load_word, reserve_word, retired_word}
use Rattle.text.proofs.Decimal.{decimal-within}
use Rattle.text.proofs.Over.{Wrote, then}
use Rattle.rules.specs.Fit.{start, no_load, reserve, holds}
use Rattle.arrays.specs.declared.HourLevels.{HourLevels}
use Rattle.formulas.specs.Levels.{Shown, shown_as}
use Rattle.arrays.specs.Packed.{Arrays, arrays_of, lamination_at, laminations_from, single_of, unpacked}
use Rattle.lines.specs.Parts.{packed_report, lamination_lines, held_line, other_lines}
use Rattle.layout.specs.Report.{profile_line, energy_line, amount_line, level_line, level_lines, retired_line, report_text, longest_report}
use Rattle.layout.proofs.Lines.{number-length, energy-length, amount-length, tenths-within, hundredths-within, lines-append, lines-within}

-- one lamination more, at the end
laminations-more : (r : Arrays) (j n : ℕ) → laminations_from r j (suc n) ≡ laminations_from r j n ++ (lamination_at r (j + n) ∷ [])
unfolding laminations_from
laminations-more r j zero = ap (λ (k : ℕ). lamination_at r k ∷ []) (omega arith)
laminations-more r j (suc n) =
    ap (λ (l : List Shown). lamination_at r j ∷ l)
    (laminations-more r (suc j) n ∙ ap (λ (k : ℕ). laminations_from r (suc j) n ++ (lamination_at r k ∷ [])) (omega arith))

-- the energy line of the lamination at place i of the arrays
abbrev pub line_at : Arrays → ℕ → List ℕ
line_at r i = energy_line (i + 1) (get_or r.from i 0) (get_or r.to i 0) (get_or r.cents i 0)

-- no line yet
pub no_line : (r : Arrays) → lamination_lines r 0 ≡ []
unfolding level_lines laminations_from
no_line r = refl

-- one line more
next-line : (r : Arrays) (i : ℕ) → lamination_lines r (i + 1) ≡ lamination_lines r i ++ line_at r i
unfolding level_lines level_line
next-line r i =
    let z : 0 + i ≡ i = omega arith in
    rw add-one
    (ap level_lines (laminations-more r 0 i) ∙ lines-append (laminations_from r 0 i) (lamination_at r (0 + i) ∷ [])
    ∙ rw z (ap (λ (t : List ℕ). lamination_lines r i ++ t) (append-nil _)))

pub next-length : (r : Arrays) (i : ℕ) → length (lamination_lines r (i + 1)) ≡ length (lamination_lines r i) + length (line_at r i)
next-length r i = ap length (next-line r i) ∙ length-append (lamination_lines r i) (line_at r i)

laminations-count : (r : Arrays) (i n : ℕ) → length (laminations_from r i n) ≡ n
unfolding laminations_from
laminations-count r i zero = refl
laminations-count r i (suc n) = ap suc (laminations-count r (suc i) n)

pub laminations-within : (r : Arrays) (n : ℕ) → length (lamination_lines r n) ≤ 98 * n
laminations-within r n = omega (arith, lines-within (laminations_from r 0 n), laminations-count r 0 n)

grow : (r : Arrays) (i k n : ℕ) → n ≡ k + i → length (lamination_lines r i) ≤ length (lamination_lines r n)
grow r i zero n e = let z : n ≡ i = omega arith in rw z (omega arith)
grow r i (suc k) n e =
    let z : n ≡ k + i + 1 = omega arith in rw z (omega (arith, next-length r (k + i), grow r i k (k + i) refl))

-- where n lines fit, so do the lines before place i and the line there
pub line-fits : (r : Arrays) (i n : ℕ) → i + 1 ≤ n → length (lamination_lines r i) + length (line_at r i) ≤ length (lamination_lines r n)
line-fits r i n h = omega (arith, next-length r i, grow r (i + 1) (n - (i + 1)) n (omega arith))

-- that line written behind them, in the rest of the buffer
pub turn : (r : Arrays) (i : ℕ) (e : List ℕ) {at q : ℕ} {b b' : List ℕ} → Wrote (lamination_lines r i) e at b
    → Wrote (line_at r i) (take (length b - at) (drop at b)) q b'
    → Wrote (lamination_lines r (i + 1)) e (at + q) (take at b ++ (b' ++ drop (length b - at) (drop at b)))
turn r i e p q = rw (next-line r i) (then (lamination_lines r i) (line_at r i) e p q)

-- the line of a level without laminations, given its word
single-line : (v x : ℕ) (word : List ℕ) (t : ℕ) (held : Bool) → level_line (shown_as v 0 0 0 x) ≡ amount_line word x → holds t v ≡ held
    → level_lines (single_of t v x) ≡ held_line held word x
unfolding level_lines single_of
single-line v x word t true e h = rw h (append-nil _ ∙ e)
single-line v x word t false e h = rw h

-- the other lines by their words
pub others-are : (t x y z : ℕ) → other_lines t x y z ≡ held_line (holds t start) start_word x ++ held_line (holds t no_load) no_load_word y
    ++ held_line (holds t reserve) reserve_word z
unfolding other_lines level_line
others-are t x y z =
    rw (
      single-line start x start_word t (holds t start) refl refl,
      single-line no_load y no_load_word t (holds t no_load) refl refl,
      single-line reserve z reserve_word t (holds t reserve) refl refl,
    )

pub others-length : (t x y z : ℕ) → length (other_lines t x y z) ≡ length (held_line (holds t start) start_word x) + length
    (held_line (holds t no_load) no_load_word y) + length (held_line (holds t reserve) reserve_word z)
others-length t x y z = rw (others-are t x y z) (simp length-append)

single-count : (t v x : ℕ) → length (single_of t v x) ≤ 1
unfolding single_of
single-count t v x = split (holds t v) (λ e. rw e (omega arith)) (λ e. rw e (omega arith))

single-within : (t v x : ℕ) → length (level_lines (single_of t v x)) ≤ 98
single-within t v x = omega (arith, lines-within (single_of t v x), single-count t v x)

pub others-within : (t x y z : ℕ) → length (other_lines t x y z) ≤ 294
unfolding other_lines
others-within t x y z = simp length-append (omega (arith, single-within t start x, single-within t no_load y, single-within t reserve z))

-- the report as profile line, energy lines, the others and the last
pub report-is : (r : HourLevels) (k : ℕ) → packed_report r k ≡ profile_line r.profile ++ lamination_lines (arrays_of r) r.count
    ++ other_lines r.technology r.start r.noload r.reserve ++ retired_line k
unfolding packed_report report_text unpacked other_lines
report-is r k = simp (lines-append, append_assoc)

pub report-length : (r : HourLevels) (k : ℕ) → length (packed_report r k) ≡ length (profile_line r.profile) + length
    (lamination_lines (arrays_of r) r.count) + length (other_lines r.technology r.start r.noload r.reserve) + length (retired_line k)
report-length r k = rw (report-is r k) (simp length-append)

-- a report of at most 20 laminations fits the bytes that hold every report
pub report-within : (r : HourLevels) (k : ℕ) → r.count ≤ 20 → length (packed_report r k) ≤ longest_report
report-within r k h =
    omega (
      arith,
      report-length r k,
      number-length profile_word r.profile,
      decimal-within r.profile,
      laminations-within (arrays_of r) r.count,
      others-within r.technology r.start r.noload r.reserve,
      number-length retired_word k,
      decimal-within k,
    )

-- how long the lines are, and that each fits, for `grind`
pub ruleset lengths = (
  length-append,
  number-length,
  energy-length,
  amount-length,
  decimal-within,
  tenths-within,
  hundredths-within,
  others-length,
  others-within,
  report-length,
  report-within,
)
