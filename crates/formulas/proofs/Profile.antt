-- The profile at an hour, declared: what the highest request that covers the hour names, 1 where none does.
use Rattle.records.specs.Record.{datable}
use mathlib.Core.Path.{◌≡◌, refl, ◌∙◌}
use mathlib.Core.Bool.{true, false}
use mathlib.Core.List.{List}
use Prim.Native.Nat.{ℕ, zero, suc, ◌≤◌, ◌<◌}
use native.Mathlib.Decide.{ℕ_discrete}
use native.Mathlib.Omega.{arith}
use Rattle.lists.specs.Tests.{among}
use Rattle.records.specs.Table.{table, RQ}
use Rattle.station.specs.InForce.{Query, in_force}
use Rattle.station.specs.Parameters.{Parameters, parameters, requested}
use Rattle.station.proofs.Parameters.{has-always, says-always}
use Rattle.formulas.specs.Levels.{covers, profile_of, profile}

module _ (s : Parameters) (h : ℕ) where
  -- requests that do not cover the hour decide nothing
  past : (n k : ℕ) → n ≤ k → ((m : ℕ) → n < m → m ≤ k → covers s h m ≡ false) → profile_of s h k ≡ profile_of s h n
  unfolding profile_of
  past n zero p none = let z : n ≡ 0 = omega arith in rw z refl
  past n (suc k) p none = go (λ q. past n k q (λ m a b. none m a (omega arith))) (ℕ_discrete n (suc k))
    where
      go : (n ≤ k → profile_of s h k ≡ profile_of s h n) → Dec (n ≡ suc k) → profile_of s h (suc k) ≡ profile_of s h n
      go below (yes e) = rw e refl
      go below (no e) = rw (none (suc k) (omega (arith, e)) (omega arith)) (below (omega (arith, e)))

  pub profile-highest : (n : ℕ) → 1 ≤ n → n ≤ 16 → covers s h n ≡ true → ((m : ℕ) → n < m → m ≤ 16 → covers s h m ≡ false) → profile s h ≡ requested s n
  unfolding profile profile_of
  profile-highest zero a b e none = absurd (omega arith)
  profile-highest (suc n) a b e none = past (suc n) 16 b none ∙ rw e refl

  pub profile-none : ((m : ℕ) → 1 ≤ m → m ≤ 16 → covers s h m ≡ false) → profile s h ≡ 1
  unfolding profile profile_of
  profile-none none = past 0 16 (omega arith) (λ m a b. none m (omega arith) b)

-- ---- the profile at an hour, whatever a query sees

module _ (l : List (List ℕ)) (q : Query) where
  covers-always : (n : ℕ) → covers (parameters (in_force q l)) q.hour n ≡ covers (parameters l) q.hour n
  unfolding covers datable among table
  covers-always n = rw (has-always q RQ refl l n, says-always q RQ refl l n 3, says-always q RQ refl l n 1, says-always q RQ refl l n 2) refl

  of-always : (n : ℕ) → profile_of (parameters (in_force q l)) q.hour n ≡ profile_of (parameters l) q.hour n
  unfolding profile_of datable among table
  of-always zero = refl
  of-always (suc n) = rw (covers-always (suc n), says-always q RQ refl l (suc n) 3, of-always n) refl

  pub profile-always : profile (parameters (in_force q l)) q.hour ≡ profile (parameters l) q.hour
  unfolding profile
  profile-always = of-always 16
