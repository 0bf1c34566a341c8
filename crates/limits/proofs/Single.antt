-- The test of a single price against the level of its kind is the test over the levels of a station that holds it.
use mathlib.Core.Path.{◌≡◌, refl}
use mathlib.Core.Bool.{Bool, true, false}
use mathlib.Core.List.{List}
use Prim.Native.Nat.{ℕ, zero, suc, ◌+◌, ◌≤◌}
use native.Mathlib.Omega.{arith}
use lib.Dec.{eqb}
use borrow.Author.Tests.{ne_eqb}
use Rattle.station.specs.Parameters.{Parameters, Amounts, technology}
use Rattle.rules.specs.Fit.{energy, reserve, holds}
use Rattle.formulas.specs.Levels.{Line, adders, start_cost, no_load_cost, laminations, one_lamination, single, lines_of}
use Rattle.arrays.specs.Packed.{amount_of}
use Rattle.arrays.proofs.Packed.{others, amount-laminations}
use Rattle.arrays.proofs.Single.{by_kind, thermal_lines, held-lines}
use Rattle.verdicts.specs.declared.Verdict.TheVariants.{Passes}
use Rattle.verdicts.specs.Test.{fails_under, failing, price_test}
use Rattle.limits.specs.Thresholds.{threshold_of, fails_at, single_shown}

module _ (s : Parameters) (m : Amounts) (p c price : ℕ) where
  -- no lamination is of such a kind
  passed_over : (v : ℕ) (test : ℕ → Bool) (k n : ℕ) (l : List Line) → eqb energy v ≡ false
      → failing v (λ a b. true) test 0 (laminations s m p k n l) Passes ≡ failing v (λ a b. true) test 0 l Passes
  unfolding failing laminations
  passed_over v test k zero l e = refl
  passed_over v test k (suc n) l e = rw e (passed_over v test (k + 1) n l e)

  abbrev three : List Line
  three = others (start_cost s m p) (no_load_cost s m p) (adders m p reserve)

  behind : (v : ℕ) → 2 ≤ v → v ≤ 4 → single_shown (threshold_of s c v) price (amount_of v three) ≡ failing v (λ a b. true)
      (fails_under s c v price) 0 three Passes
  unfolding single_shown fails_at fails_under amount_of failing single
  behind =
      by_kind (λ (v : ℕ). single_shown (threshold_of s c v) price (amount_of v three) ≡ failing v (λ a b. true) (fails_under s c v price) 0 three Passes) refl
      refl refl

  thermal-tested : (v n : ℕ) → 2 ≤ v → v ≤ 4 → single_shown (threshold_of s c v) price (amount_of v (thermal_lines s m p n)) ≡ price_test s c v price
      (thermal_lines s m p n)
  unfolding price_test
  thermal-tested v n l u =
      let e = ne_eqb energy v (λ z. omega arith) in
      rw (amount-laminations s m p 1 n v three e, passed_over v (fails_under s c v price) 1 n three e) (behind v l u)

  pub single-tested : (v : ℕ) → 2 ≤ v → v ≤ 4 → holds (technology s) v ≡ true
      → single_shown (threshold_of s c v) price (amount_of v (lines_of s m p)) ≡ price_test s c v price (lines_of s m p)
  unfolding price_test failing single_shown fails_at fails_under amount_of one_lamination single
  single-tested = held-lines s m p (λ v l. single_shown (threshold_of s c v) price (amount_of v l) ≡ price_test s c v price l) thermal-tested (λ e. refl)
