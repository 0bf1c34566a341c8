-- A level without laminations, where it is held: it stands among the lines of a thermal station, or it is reserve behind one lamination.
use mathlib.Core.Path.{◌≡◌, refl, sym}
use mathlib.Core.Bool.{Bool, true, false, cond, ◌||◌, false≢true}
use mathlib.Core.List.{List, [], ◌∷◌}
use Prim.Native.Nat.{ℕ, zero, suc, ◌-◌, ◌≤◌}
use native.Mathlib.Omega.{arith}
use lib.Dec.{eqb}
use Rattle.lists.specs.Tests.{among}
use Rattle.station.specs.Parameters.{Parameters, Amounts, technology}
use Rattle.rules.specs.Fit.{energy, start, no_load, reserve, levels_of, holds}
use Rattle.rules.specs.Curve.{points}
use Rattle.formulas.specs.Exact.{Sum, micro_dollars, cents}
use Rattle.formulas.specs.Levels.{Line, adders, start_cost, no_load_cost, nuclear_energy, storage_energy, hydro_energy, laminations, one_lamination, single, lines_of}
use Rattle.arrays.specs.Packed.{amount_of, single_sum}
use Rattle.arrays.proofs.Packed.{others, amount-laminations}

-- a kind of level other than energy
pub by_kind : (P : ℕ → Type 0) → P start → P no_load → P reserve → (v : ℕ) → 2 ≤ v → v ≤ 4 → P v
by_kind P x y z zero a b = absurd (omega arith)
by_kind P x y z (suc zero) a b = absurd (omega arith)
by_kind P x y z (suc (suc zero)) a b = x
by_kind P x y z (suc (suc (suc zero))) a b = y
by_kind P x y z (suc (suc (suc (suc zero)))) a b = z
by_kind P x y z (suc (suc (suc (suc (suc v))))) a b = absurd (omega arith)

module _ (s : Parameters) (m : Amounts) (p : ℕ) where
  -- the lines of a thermal station, n of them laminations
  abbrev pub thermal_lines : ℕ → List Line
  thermal_lines n = laminations s m p 1 n (others (start_cost s m p) (no_load_cost s m p) (adders m p reserve))

  -- those of a station with one lamination of energy e and with reserve
  abbrev pub reserved_lines : Sum → List Line
  reserved_lines e = one_lamination s e ∷ single reserve (adders m p reserve) ∷ []

  -- the levels and the lines, by the four tests of the technology
  abbrev held_by : Bool → Bool → Bool → Bool → List ℕ
  held_by a b c d = cond a (energy ∷ start ∷ no_load ∷ reserve ∷ []) (cond b (energy ∷ []) (cond (c || d) (energy ∷ reserve ∷ []) []))

  abbrev lines_by : Bool → Bool → Bool → Bool → List Line
  lines_by a b c d =
      cond a (thermal_lines (points s - 1)) (cond b (one_lamination s (nuclear_energy s m p) ∷ [])
      (cond c (reserved_lines (storage_energy s m p)) (cond d (reserved_lines (hydro_energy s m p)) [])))

  module _ (P : ℕ → List Line → Type 0) (thermal : (v n : ℕ) → 2 ≤ v → v ≤ 4 → P v (thermal_lines n))
      (reserved : (e : Sum) → P reserve (reserved_lines e)) where
    -- behind one lamination no other kind is held
    behind : (e : Sum) (v : ℕ) → 2 ≤ v → v ≤ 4 → among v (energy ∷ reserve ∷ []) ≡ true → P v (reserved_lines e)
    unfolding among
    behind e =
        by_kind (λ (v : ℕ). among v (energy ∷ reserve ∷ []) ≡ true → P v (reserved_lines e)) (λ h. absurd (false≢true h)) (λ h. absurd (false≢true h))
        (λ h. reserved e)

    -- nor any of these where energy alone is
    alone : (v : ℕ) → 2 ≤ v → v ≤ 4 → among v (energy ∷ []) ≡ true → P v (one_lamination s (nuclear_energy s m p) ∷ [])
    unfolding among
    alone =
        by_kind (λ (v : ℕ). among v (energy ∷ []) ≡ true → P v (one_lamination s (nuclear_energy s m p) ∷ [])) (λ h. absurd (false≢true h))
        (λ h. absurd (false≢true h)) (λ h. absurd (false≢true h))

    by_tests : (v : ℕ) → 2 ≤ v → v ≤ 4 → (a b c d : Bool) → among v (held_by a b c d) ≡ true → P v (lines_by a b c d)
    unfolding among
    by_tests v l u true b c d h = thermal v (points s - 1) l u
    by_tests v l u false true c d h = alone v l u h
    by_tests v l u false false true d h = behind (storage_energy s m p) v l u h
    by_tests v l u false false false true h = behind (hydro_energy s m p) v l u h
    by_tests v l u false false false false h = absurd (false≢true h)

    -- what holds of such a level among these lines holds of it among the levels of a station that holds it
    pub held-lines : (v : ℕ) → 2 ≤ v → v ≤ 4 → holds (technology s) v ≡ true → P v (lines_of s m p)
    unfolding holds levels_of lines_of
    held-lines v l u h = by_tests v l u (eqb (technology s) 1) (eqb (technology s) 2) (eqb (technology s) 3) (eqb (technology s) 4) h

  -- its amount is its sum in cents
  pub sum-amount : (v : ℕ) → 2 ≤ v → v ≤ 4 → holds (technology s) v ≡ true → cents (micro_dollars (single_sum s m p v)) ≡ amount_of v (lines_of s m p)
  unfolding single_sum amount_of one_lamination single
  sum-amount =
      held-lines (λ v l. cents (micro_dollars (single_sum s m p v)) ≡ amount_of v l)
      (λ v n. by_kind (λ (u : ℕ). cents (micro_dollars (single_sum s m p u)) ≡ amount_of u (thermal_lines n)) (sym (amount-laminations s m p 1 n 2 _ refl))
      (sym (amount-laminations s m p 1 n 3 _ refl)) (sym (amount-laminations s m p 1 n 4 _ refl)) v)
      (λ e. refl)
