-- How long the report's lines are, and that each fits a fixed number of bytes.
use mathlib.Core.Path.{◌≡◌, refl, sym, ap, ◌∙◌}
use mathlib.Core.Bool.{Bool, true, false, cond}
use mathlib.Core.List.{List, [], ◌∷◌, ◌++◌, append_assoc}
use Prim.Native.Nat.{ℕ, ◌+◌, ◌*◌, ◌-◌, ◌/◌, ◌≤◌}
use native.Mathlib.Omega.{arith}
use lib.Dec.{eqb}
use lib.ListN.{length, take, drop, length-append}
use Rattle.text.specs.Text.{decimal, tenths, hundredths, profile_word, start_word, no_load_word, reserve_word, retired_word, newline}
use Rattle.text.proofs.Decimal.{decimal-within}
use Rattle.text.proofs.Lengths.{tenths-length, hundredths-length}
use Rattle.text.proofs.Over.{Wrote, then}
use Rattle.rules.specs.Fit.{energy, start, no_load}
use Rattle.formulas.specs.Levels.{Shown}
use Rattle.layout.specs.Report.{number_line, energy_line, amount_line, level_line, level_lines, report_text}

pub number-length : (word : List ℕ) (n : ℕ) → length (number_line word n) ≡ length word + length (decimal n) + 1
unfolding number_line
number-length word n = simp length-append (omega arith)

pub energy-length : (i a b x : ℕ) → length (energy_line i a b x) ≡ length (decimal i) + length (tenths a) + length (tenths b) + length (hundredths x) + 11
unfolding energy_line
energy-length i a b x = simp length-append (omega arith)

pub amount-length : (word : List ℕ) (x : ℕ) → length (amount_line word x) ≡ length word + length (hundredths x) + 1
unfolding amount_line
amount-length word x = simp length-append (omega arith)

pub tenths-within : (n : ℕ) → length (tenths n) ≤ 22
tenths-within n = omega (arith, tenths-length n, decimal-within (n / 10))

pub hundredths-within : (n : ℕ) → length (hundredths n) ≤ 23
hundredths-within n = omega (arith, hundredths-length n, tenths-within (n / 10))

pub energy-within : (i a b x : ℕ) → length (energy_line i a b x) ≤ 98
energy-within i a b x = omega (arith, energy-length i a b x, decimal-within i, tenths-within a, tenths-within b, hundredths-within x)

-- of two lists of at most n elements one
pub either : {A : Type 0} (n : ℕ) (b : Bool) (l k : List A) → length l ≤ n → length k ≤ n → length (cond b l k) ≤ n
either n true l k p q = p
either n false l k p q = q

pub amount-within : (word : List ℕ) (x : ℕ) → length word ≤ 8 → length (amount_line word x) ≤ 98
amount-within word x h = omega (arith, amount-length word x, hundredths-within x)

-- a text, and then a line with a word and a level in the rest of the buffer
pub then-amount : (t e word : List ℕ) (x : ℕ) {at r : ℕ} {b b' : List ℕ} → Wrote t e at b
    → Wrote (amount_line word x) (take (length b - at) (drop at b)) r b'
    → Wrote (t ++ word ++ hundredths x ++ newline) e (at + r) (take at b ++ (b' ++ drop (length b - at) (drop at b)))
unfolding amount_line
then-amount t e word x p q =
    let k : t ++ word ++ hundredths x ++ newline ≡ t ++ (word ++ hundredths x ++ newline) = simp append_assoc in
    rw k (then t (word ++ hundredths x ++ newline) e p q)

-- ---- the lines of some levels

pub lines-append : (l m : List Shown) → level_lines (l ++ m) ≡ level_lines l ++ level_lines m
unfolding level_lines
lines-append [] m = refl
lines-append (x ∷ l) m = ap (λ (t : List ℕ). level_line x ++ t) (lines-append l m) ∙ sym (append_assoc (level_line x) (level_lines l) (level_lines m))

-- a line has at most 98 bytes
level-within : (x : Shown) → length (level_line x) ≤ 98
unfolding level_line
level-within x =
    either 98 (eqb x.level energy) (energy_line x.lamination x.from x.to x.cents) _ (energy-within x.lamination x.from x.to x.cents)
    (either 98 (eqb x.level start) (amount_line start_word x.cents) _ (amount-within start_word x.cents (omega arith))
    (either 98 (eqb x.level no_load) (amount_line no_load_word x.cents) (amount_line reserve_word x.cents)
    (amount-within no_load_word x.cents (omega arith))
    (amount-within reserve_word x.cents (omega arith))))

pub lines-within : (l : List Shown) → length (level_lines l) ≤ 98 * length l
unfolding level_lines
lines-within [] = omega arith
lines-within (x ∷ l) = omega (arith, length-append (level_line x) (level_lines l), level-within x, lines-within l)

pub text-within : (p : ℕ) (l : List Shown) (n : ℕ) → length (report_text p l n) ≤ 58 + 98 * length l
unfolding report_text
text-within p l n =
    simp length-append (omega (arith, number-length profile_word p, decimal-within p, lines-within l, number-length retired_word n, decimal-within n))
