-- What a query draws: the owner's refusal, the dossier's own, or 20 at place 0, or nothing; what its levels are then; and what is the same for every query.
use mathlib.Core.Path.{◌≡◌, refl}
use Rattle.records.specs.Record.{datable}
use mathlib.Core.Bool.{Bool, true, false, cond, ◌&&◌, ◌||◌, not, false≢true}
use mathlib.Core.List.{List, []}
use Prim.Native.Nat.{ℕ, zero, suc, ◌*◌, ◌-◌, ◌/◌, ◌≤◌}
use native.Mathlib.Omega.{arith}
use lib.Dec.{leb, eqb}
use borrow.Author.Tests.{not-false}
use Rattle.lists.specs.Sums.{sum_to}
use Rattle.lists.specs.Tests.{among, between}
use Rattle.lists.proofs.Tests.{split, and_left, and_right, to_at, between-low, between-high, in_between}
use Rattle.records.specs.Table.{table, RS, FU, RQ, CH, FP, LC}
use Rattle.records.specs.Answers.{Accepted, or_else, refuse_if, Refused}
use Rattle.records.proofs.Answers.{or_else-parts, not-refuse_if}
use Rattle.station.specs.InForce.{Query, in_force}
use Rattle.station.specs.Parameters.{Parameters, parameters, amounts, first_hour, last_hour, requested}
use Rattle.station.proofs.Parameters.{says-always, of-always}
use Rattle.rules.specs.Answer.{answer, IsAccepted}
use Rattle.rules.specs.Curve.{fuel_holds}
use Rattle.formulas.specs.Sums.{list_to, from_top}
use Rattle.formulas.specs.Exact.{whole, share}
use Rattle.formulas.specs.Levels.{parameters_at, amounts_at, covers, profile_of, profile, fuelled, IsOwner, owner_refusal, query_answer, total_energy}
use Rattle.formulas.specs.Levels.{charging_sum, charging_cost}
use Rattle.formulas.specs.Levels.{forecast_place, forecast_price, lines, levels}

-- ---- the answer

module _ (d : List ℕ) (q : Query) where
  abbrev fuel : Bool
  fuel = fuelled (parameters_at d q) q.hour

  owner-known : IsOwner q.owner → owner_refusal q.owner ≡ Accepted
  unfolding owner_refusal refuse_if
  owner-known o = rw (in_between 1 2 q.owner o.0 o.1) refl

  -- another owner draws 3 whatever the dossier is
  pub owner-unknown : between 1 2 q.owner ≡ false → query_answer d q ≡ Refused 3 0
  unfolding query_answer owner_refusal or_else refuse_if
  owner-unknown e = rw e refl

  -- of an accepted dossier nothing is drawn where the hour's profile has fuel in force
  pub hour-accepted : IsOwner q.owner → IsAccepted d → fuel ≡ true → query_answer d q ≡ Accepted
  unfolding query_answer or_else refuse_if
  hour-accepted o a e = rw (owner-known o, a.clean, e) refl

  -- and 20 where it has none
  pub hour-without : IsOwner q.owner → IsAccepted d → fuel ≡ false → query_answer d q ≡ Refused 20 0
  unfolding query_answer or_else refuse_if
  hour-without o a e = rw (owner-known o, a.clean, e) refl

  -- of a refused one the same at every hour
  pub hour-refused : IsOwner q.owner → {n p : ℕ} → answer d ≡ Refused n p → query_answer d q ≡ Refused n p
  unfolding query_answer or_else
  hour-refused o e = rw (owner-known o, e) refl

  -- where nothing is drawn, the owner is one of the two, the dossier is accepted and there is fuel
  pub hour-parts : query_answer d q ≡ Accepted → IsOwner q.owner × IsAccepted d × (fuel ≡ true)
  unfolding query_answer owner_refusal
  hour-parts e =
      let o = or_else-parts (refuse_if (not (between 1 2 q.owner)) 3 0) (or_else (answer d) (refuse_if (not fuel) 20 0)) e in
      let p = or_else-parts (answer d) (refuse_if (not fuel) 20 0) o.1 in
      let b : between 1 2 q.owner ≡ true = not-false _ (not-refuse_if (not (between 1 2 q.owner)) 3 0 o.0) in
      ((between-low 1 2 q.owner b, between-high 1 2 q.owner b), record { clean = p.0 }, not-false _ (not-refuse_if (not fuel) 20 0 p.1))

  -- two dossiers with the same answer, and fuel in force in both or in neither, draw the same
  pub hour-same : (e : List ℕ) → answer d ≡ answer e → fuel ≡ fuelled (parameters_at e q) q.hour → query_answer d q ≡ query_answer e q
  unfolding query_answer
  hour-same e a f = rw (a, f) refl

  -- ---- the levels

  pub levels-fuelled : fuel ≡ true → levels d q ≡ lines (parameters_at d q) (amounts_at d q) q.hour
  unfolding levels
  levels-fuelled e = rw e refl

  pub levels-without : fuel ≡ false → levels d q ≡ []
  unfolding levels
  levels-without e = rw e refl

-- ---- what 8 asks is that the profile of every hour has fuel, of that hour or another

module _ (s : Parameters) (h : ℕ) (e : fuel_holds s ≡ true) where
  named-fuelled : (n : ℕ) → 1 ≤ n → n ≤ 16 → covers s h n ≡ true → s.has FU (requested s n) ≡ true
  unfolding fuel_holds covers
  named-fuelled n a b c =
      go (s.has RQ n) (eqb (requested s n) 0) (s.has FU (requested s n)) (leb (first_hour s n) h) (leb h (last_hour s n)) c
      (to_at 16 (λ n. not (s.has RQ n) || eqb (requested s n) 0 || s.has FU (requested s n)) (and_right (s.has FU 1) _ e) n a b)
    where
      go : (x y z v w : Bool) → x && not y && v && w ≡ true → not x || y || z ≡ true → z ≡ true
      go true true z v w p q = absurd (false≢true p)
      go true false z v w p q = q
      go false y z v w p q = absurd (false≢true p)

  profile_of-fuelled : (n : ℕ) → n ≤ 16 → s.has FU (profile_of s h n) ≡ true
  unfolding profile_of fuel_holds
  profile_of-fuelled zero b = and_left (s.has FU 1) _ e
  profile_of-fuelled (suc n) b =
      split (covers s h (suc n))
      (λ c. rw c (named-fuelled (suc n) (omega arith) b c))
      (λ c. rw c (profile_of-fuelled n (omega arith)))

  pub holds-fuelled : fuelled s h ≡ true
  unfolding fuelled profile
  holds-fuelled = profile_of-fuelled 16 (omega arith)

-- ---- the charging cost and the price of the forecast, whatever a query sees

pub charging-always : (l : List (List ℕ)) (q : Query)
    → charging_cost (parameters (in_force q l)) (amounts (in_force q l)) ≡ charging_cost (parameters l) (amounts l)
unfolding charging_cost charging_sum total_energy datable among table
charging-always l q =
    λ j. cond (eqb (sum_to 2016 (λ n. says-always q CH refl l n 2 j)) 0) (whole (of-always q LC refl l 0 0 j))
    (share ((sum_to 2016 (λ n. of-always q CH refl l n 1 j * says-always q CH refl l n 2 j) - 2147483648 * sum_to 2016
    (λ n. says-always q CH refl l n 2 j)) * 10000) (sum_to 2016 (λ n. says-always q CH refl l n 2 j)))

pub forecast-always : (l : List (List ℕ)) (q : Query)
    → forecast_price (parameters (in_force q l)) (amounts (in_force q l)) ≡ forecast_price (parameters l) (amounts l)
unfolding forecast_price forecast_place datable among table
forecast-always l q =
    λ j. from_top (says-always q RS refl l 0 8 j / 50) (list_to (says-always q RS refl l 0 8 j) (λ n. of-always q FP refl l n 1 j)) - 2147483648
