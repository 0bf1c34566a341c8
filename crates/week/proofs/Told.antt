-- What the caller of a week is told, and what stands in the two lists after the call.
use mathlib.Core.Path.{◌≡◌, refl, sym}
use mathlib.Core.Bool.{true, false, ◌||◌}
use mathlib.Core.List.{List, ◌++◌}
use Prim.Native.Nat.{ℕ, ◌≤◌}
use lib.Dec.{ltb}
use lib.IntN.{ℤ}
use lib.ListN.{length, drop}
use borrow.Author.Tests.{ltb-false}
use Rattle.lists.proofs.Tests.{or-false-left, or-false-right}
use Rattle.std.specs.Prelude.{Err}
use Rattle.records.specs.declared.Refusal.{Refusal}
use Rattle.records.specs.Answers.{Accepted, or_else, refuse_if, is_accepted, Refused}
use Rattle.station.specs.Week.{intervals, week_prices, week_energies}
use Rattle.rules.specs.Answer.{answer}
use Rattle.rules.specs.Week.{week_answer, prices_after, energies_after}
use Rattle.rules.proofs.Week.{week-taken, refused-first, refused-keeps}

module _ (d : List ℕ) (p : List ℤ) (e : List ℕ) where
  -- a refused call keeps every place
  kept : (k i : ℕ) → week_answer d (length p) (length e) ≡ Refused k i
      → (Refused k i ≡ week_answer d (length p) (length e)) × (p ≡ prices_after d p e) × (e ≡ energies_after d p e)
  kept k i a = let z = refused-keeps d p e k i a in (sym a, sym z.0, sym z.1)

  pub told-refusal : (r : Refusal) → answer d ≡ Err r
      → (Err r ≡ week_answer d (length p) (length e)) × (p ≡ prices_after d p e) × (e ≡ energies_after d p e)
  told-refusal r a = kept r.number r.place (refused-first d (length p) (length e) r.number r.place a)

  -- of an accepted dossier
  module _ (h : answer d ≡ Accepted) where
    pub told-short : ltb (length p) intervals || ltb (length e) intervals ≡ true
        → (Refused 15 0 ≡ week_answer d (length p) (length e)) × (p ≡ prices_after d p e) × (e ≡ energies_after d p e)
    unfolding week_answer or_else refuse_if
    told-short t = kept 15 0 (rw (h, t) refl)

    module _ (f : ltb (length p) intervals || ltb (length e) intervals ≡ false) where
      pub prices-room : intervals ≤ length p
      prices-room = ltb-false (length p) intervals (or-false-left (ltb (length p) intervals) (ltb (length e) intervals) f)

      pub energies-room : intervals ≤ length e
      energies-room = ltb-false (length e) intervals (or-false-right (ltb (length p) intervals) (ltb (length e) intervals) f)

      pub told-week : {p' : List ℤ} {e' : List ℕ} → p' ≡ week_prices d ++ drop intervals p → e' ≡ week_energies d ++ drop intervals e
          → (Accepted ≡ week_answer d (length p) (length e)) × (p' ≡ prices_after d p e) × (e' ≡ energies_after d p e)
      unfolding prices_after energies_after is_accepted
      told-week ep ee =
          let a = week-taken (record { clean = h }) (length p) (length e) prices-room energies-room in
          rw a (refl, ep, ee)
