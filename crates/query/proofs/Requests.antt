-- The profile at an hour, as the loop over the requests finds it.
use mathlib.Core.Path.{◌≡◌, refl, sym, ◌∙◌}
use mathlib.Core.Bool.{Bool, true, false, cond, ◌&&◌, not, false≢true}
use mathlib.Core.List.{List, []}
use Prim.Native.Nat.{ℕ, zero, suc, ◌-◌, ◌≤◌, ◌<◌}
use native.Mathlib.Nat.{pos_of_ne-zero, le_refl}
use native.Mathlib.Omega.{arith}
use lib.Dec.{leb, ltb, eqb}
use lib.ListN.{length}
use borrow.Author.Tests.{eqb-false}
use Rattle.std.specs.Prelude.{Option, Some, None}
use Rattle.std.specs.Bool.{then_some}
use Rattle.lists.specs.Lists.{Each}
use Rattle.records.specs.Table.{table, row_of, field_of, RQ}
use Rattle.lists.specs.Tests.{among}
use Rattle.records.specs.Record.{datable, fault}
use Rattle.records.specs.Dossier.{records}
use Rattle.station.specs.Current.{current, present}
use Rattle.station.specs.Parameters.{parameters, requested, first_hour, last_hour}
use Rattle.station.proofs.Parameters.{says-high}
use Rattle.index.specs.Slots.{slot, slots_empty}
use Rattle.lookup.specs.Parts.{Indexed, parameters_held}
use Rattle.lookup.proofs.Keys.{request-key}
use Rattle.lookup.proofs.Held.{held-always, has-always, says-always, held-in-empty}
use Rattle.parameters.proofs.Points.{there-is}
use Rattle.formulas.specs.Levels.{covers, profile_of, profile}

-- what one request asks for at an hour, read of its record
pub asked-request : (l : List (List ℕ)) (h n : ℕ) {r : List ℕ} {asked first last : ℕ} → r ≡ current RQ n l → asked ≡ requested (parameters l) n
    → first ≡ first_hour (parameters l) n → last ≡ last_hour (parameters l) n
    → then_some (ltb 0 (length r) && not (eqb asked 0) && leb first h && leb h last) asked
    ≡ cond (covers (parameters l) h n) (Some (requested (parameters l) n)) None
unfolding covers
asked-request l h n {r} {asked} {first} {last} e a b c =
    rw (← a, ← b, ← c, ← there-is l RQ n e) (go (ltb 0 (length r) && not (eqb asked 0) && leb first h && leb h last))
  where
    go : (t : Bool) → then_some t asked ≡ cond t (Some asked) None
    go true = refl
    go false = refl

covered : (s : ℕ) (a b c : Bool) → a && not (eqb s 0) && b && c ≡ true → 1 ≤ s
covered s true b c e = go (eqb s 0) refl e
  where
    go : (x : Bool) → eqb s 0 ≡ x → not x && b && c ≡ true → 1 ≤ s
    go true p q = absurd (false≢true q)
    go false p q = pos_of_ne-zero (eqb-false s 0 p)
covered s false b c e = absurd (false≢true e)

asked-high : {l : List (List ℕ)} → Each (λ r. fault r ≡ 0) l → (n : ℕ) → requested (parameters l) n ≤ 4
unfolding field_of row_of table
asked-high e n = says-high e RQ n 3

pub profile-range : {l : List (List ℕ)} → Each (λ r. fault r ≡ 0) l → (h n : ℕ) → (1 ≤ profile_of (parameters l) h n) × (profile_of (parameters l) h n ≤ 4)
unfolding profile_of covers
profile-range e h zero = (omega arith, omega arith)
profile-range {l} e h (suc n) = go (covers (parameters l) h (suc n)) refl (profile-range e h n)
  where
    go : (t : Bool) → covers (parameters l) h (suc n) ≡ t → (1 ≤ profile_of (parameters l) h n) × (profile_of (parameters l) h n ≤ 4)
        → (1 ≤ cond t (requested (parameters l) (suc n)) (profile_of (parameters l) h n))
        × (cond t (requested (parameters l) (suc n)) (profile_of (parameters l) h n) ≤ 4)
    go true p q = (
      covered (requested (parameters l) (suc n)) ((parameters l).has RQ (suc n)) (leb (first_hour (parameters l) (suc n)) h)
          (leb h (last_hour (parameters l) (suc n))) p,
      asked-high e (suc n),
    )
    go false p q = q

-- the highest of some requests decides if it asks for a profile at the hour, and else the others do
module _ (l : List (List ℕ)) (h : ℕ) where
  abbrev asked : ℕ → Option ℕ
  asked n = cond (covers (parameters l) h n) (Some (requested (parameters l) n)) None

  pub highest-asks : (n : ℕ) {p : ℕ} → 1 ≤ n → Some p ≡ asked n → p ≡ profile_of (parameters l) h n
  unfolding profile_of
  highest-asks zero a e = absurd (omega arith)
  highest-asks (suc n) {p} a e = go (covers (parameters l) h (suc n)) e
    where
      go : (t : Bool) → Some p ≡ cond t (Some (requested (parameters l) (suc n))) None
          → p ≡ cond t (requested (parameters l) (suc n)) (profile_of (parameters l) h n)
      go true q = cc
      go false q = cc

  pub highest-silent : (n : ℕ) → 1 ≤ n → None ≡ asked n → profile_of (parameters l) h (n - 1) ≡ profile_of (parameters l) h n
  unfolding profile_of
  highest-silent zero a e = absurd (omega arith)
  highest-silent (suc n) a e =
      let w : suc n - 1 ≡ n = omega arith in
      rw w (go (covers (parameters l) h (suc n)) e)
    where
      go : (t : Bool) → ◌≡◌ {A = Option ℕ} None (cond t (Some (requested (parameters l) (suc n))) None)
          → profile_of (parameters l) h n ≡ cond t (requested (parameters l) (suc n)) (profile_of (parameters l) h n)
      go true q = cc
      go false q = refl

-- where the slots of all requests are empty, there is none, and no hour has another profile than 1
module _ (d ix : List ℕ) (h : Indexed d ix) {j : ℕ} (first : j ≡ slot RQ 1) (empty : slots_empty ix j 16 ≡ true) (hour : ℕ) where
  unrequested : (n : ℕ) → n < 16 → current RQ (suc n) (records d) ≡ []
  unfolding slot datable among table
  unrequested n p =
      let i = request-key (suc n) (omega arith) (omega arith) in
      sym (held-always h RQ (suc n) refl) ∙ held-in-empty h RQ (suc n) refl i j 16 empty (omega (arith, first)) (omega (arith, first))

  uncovered : (n : ℕ) → n < 16 → covers (parameters (records d)) hour (suc n) ≡ false
  unfolding covers parameters present
  uncovered n p = rw (unrequested n p) refl

  profile-to : (n : ℕ) → n ≤ 16 → 1 ≡ profile_of (parameters (records d)) hour n
  unfolding profile_of
  profile-to zero p = refl
  profile-to (suc n) p = rw (uncovered n (omega arith)) (profile-to n (omega arith))

  pub profile-none : 1 ≡ profile (parameters (records d)) hour
  unfolding profile
  profile-none = profile-to 16 (le_refl 16)

-- ---- of the index at hand the profile is the dossier's

module _ {d ix : List ℕ} (i : Indexed d ix) (h : ℕ) where
  covers-held : (n : ℕ) → covers (parameters_held d ix) h n ≡ covers (parameters (records d)) h n
  unfolding covers datable among table
  covers-held n = rw (has-always i RQ n refl, says-always i RQ n refl 3, says-always i RQ n refl 1, says-always i RQ n refl 2) refl

  profile-held-to : (n : ℕ) → profile_of (parameters_held d ix) h n ≡ profile_of (parameters (records d)) h n
  unfolding profile_of datable among table
  profile-held-to zero = refl
  profile-held-to (suc n) = rw (covers-held (suc n), says-always i RQ (suc n) refl 3, profile-held-to n) refl

  pub profile-held : profile (parameters_held d ix) h ≡ profile (parameters (records d)) h
  unfolding profile
  profile-held = profile-held-to 16
