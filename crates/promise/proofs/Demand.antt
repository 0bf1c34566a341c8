-- Demand 3 holds.
use mathlib.Core.Path.{◌≡◌, refl, ap, sym, ◌∙◌}
use mathlib.Core.Bool.{Bool, true, false, cond}
use native.Mathlib.Omega.{arith}
use lib.Dec.{T, ltb, le→leb}
use lib.ListN.{get_or}
use lib.Signed.{le_z, ◌≤ℤ◌, le_z_yes}
use mathlib.Core.List.{List, [], ◌∷◌}
use Prim.Native.Nat.{ℕ, ◌-◌, ◌≤◌}
use lib.IntN.{ℤ, pos, negsuc}
use borrow.Author.Tests.{ltb-true, ltb-false}
use Rattle.lists.specs.Lists.{Pairwise, none, more, Each, done}
use Rattle.lists.specs.Sums.{up_to}
use Rattle.lists.specs.Tests.{among}
use Rattle.lists.proofs.Tests.{split, cond-holds, cond-relates}
use Rattle.fields.specs.Numbers.{biased_of, unbiased}
use Rattle.records.specs.Table.{table, RS, CH}
use Rattle.records.specs.Record.{datable, since}
use Rattle.records.specs.Dossier.{records}
use Rattle.records.specs.Raise.{Raised}
use Rattle.records.proofs.Raise.{raised, raised-self, raised-since}
use Rattle.station.specs.InForce.{Query, in_force}
use Rattle.station.specs.Parameters.{parameters, amounts, technology, efficiency, charge_price, charge_energy}
use Rattle.station.specs.Week.{intervals, week_price, week_energy, week_prices, week_energies}
use Rattle.station.proofs.Parameters.{same-parameters, higher, says-always}
use Rattle.station.proofs.Owners.{force-raised}
use Rattle.station.proofs.Week.{price-told, energy-of-week}
use Rattle.rules.specs.Answer.{IsAccepted}
use Rattle.rules.specs.Week.{week_answer}
use Rattle.lists.proofs.Sums.{up_to-pairwise}
use Rattle.rules.proofs.Week.{accepted-readable}
use Rattle.rules.proofs.Sound.{accepted-sound, sound-accepted, sound-raised, efficient}
use Rattle.formulas.specs.Levels.{parameters_at, amounts_at, IsOwner, fuelled, query_answer, NoLower, CloseLine, levels}
use Rattle.formulas.proofs.Hours.{hour-accepted, hour-without, hour-same, levels-fuelled, levels-without}
use Rattle.formulas.proofs.Lines.{lines-upper, lines-close}
use Rattle.verdicts.specs.declared.Verdict.{Verdict}
use Rattle.verdicts.specs.declared.Verdict.TheVariants.{Passes, Fails, Refused}
use Rattle.verdicts.specs.Verdict.{numbers, on_offer, on_price}
use Rattle.verdicts.proofs.Stays.{settle-stays, offer-stays, price-stays}
use Rattle.promise.specs.Demand.{Raise, Passed, AtQuery, with_fuel, no_fuel, Demand3}

-- passing, in the paper's numbers, is the verdict `Passes`
passed : (v : Verdict) → Passed v → v ≡ Passes
unfolding numbers
passed Passes h = refl
passed (Fails k i) h = absurd (let z : ◌≡◌ {A = ℕ} 1 0 = ap (λ l. get_or l 0 0) h in omega arith)
passed (Refused n p) h = absurd (let z : ◌≡◌ {A = ℕ} 2 0 = ap (λ l. get_or l 0 0) h in omega arith)

in-numbers : {v w : Verdict} → (v ≡ Passes → w ≡ Passes) → Passed v → Passed w
unfolding numbers
in-numbers {v} f h = ap numbers (f (passed v h))

-- numbers held plus 2^31 are in the order of the signed ones
held-order : (m n : ℕ) → m ≤ n → unbiased m ≤ℤ unbiased n
unfolding unbiased
held-order m n h = le_z_yes (go (ltb m 2147483648) (ltb n 2147483648) refl refl)
  where
    go : (b c : Bool) → ltb m 2147483648 ≡ b → ltb n 2147483648 ≡ c
        → T (le_z (cond b (negsuc (2147483647 - m)) (pos (m - 2147483648))) (cond c (negsuc (2147483647 - n)) (pos (n - 2147483648))))
    go true true e f = le→leb (2147483647 - n) (2147483647 - m) (omega arith)
    go true false e f = tt
    go false true e f = absurd (omega (arith, ltb-false m 2147483648 e, ltb-true n 2147483648 f))
    go false false e f = le→leb (m - 2147483648) (n - 2147483648) (omega arith)

-- first hours are no money
since-stays : {t : ℕ} {l m : List (List ℕ)} → Pairwise (Raised t) l m → Pairwise (λ r s. since r ≡ since s) l m
since-stays none = none
since-stays (more q a) = more (raised-since q) (since-stays a)

module _ {d e : List ℕ} (q : Raise d e) (h : IsAccepted d) where
  pairs : Pairwise (Raised (technology (parameters (records d)))) (records d) (records e)
  pairs = raised q

  accepted-stays : IsAccepted e
  accepted-stays =
      let z = accepted-sound d h in
      sound-accepted e (rw (← q.long) z.0) (sound-raised pairs z.1)

  -- for a query, the records in force
  pairs-at : (t : Query) → Pairwise (Raised (technology (parameters (records d)))) (in_force t (records d)) (in_force t (records e))
  pairs-at t = force-raised t pairs

  first-hours-stay : Pairwise (λ r s. since r ≡ since s) (records d) (records e)
  first-hours-stay = since-stays pairs

  drawn-same : (t : Query) → query_answer d t ≡ query_answer e t
  drawn-same t = hour-same d t e (h.clean ∙ sym accepted-stays.clean) (ap (λ s. fuelled s t.hour) (same-parameters (pairs-at t)))

  levels-upper : (t : Query) → Pairwise NoLower (levels d t) (levels e t)
  unfolding levels
  levels-upper t =
      rw (← same-parameters (pairs-at t))
      (cond-relates (Pairwise NoLower) (fuelled (parameters_at d t) t.hour) _ _ _ _
      (lines-upper (parameters_at d t) (higher (pairs-at t)) t.hour) none)

  offers-stay : (t : Query) (c : ℕ) (o : List ℕ) → on_offer d t c o ≡ Passes → on_offer e t c o ≡ Passes
  unfolding on_offer
  offers-stay t c o =
      rw (← drawn-same t, ← same-parameters (pairs-at t)) (settle-stays (query_answer d t) (offer-stays (parameters_at d t) c (levels-upper t) o))

  prices-stay : (t : Query) (v c : ℕ) (price : ℤ) → on_price d t v c price ≡ Passes → on_price e t v c price ≡ Passes
  unfolding on_price
  prices-stay t v c price =
      rw (← drawn-same t, ← same-parameters (pairs-at t))
      (settle-stays (query_answer d t) (price-stays (parameters_at d t) c (levels-upper t) v (biased_of price)))

  week-stays : (n m : ℕ) → week_answer d n m ≡ week_answer e n m
  unfolding week_answer
  week-stays n m = rw (h.clean, accepted-stays.clean) refl

  energies-stay : week_energies d ≡ week_energies e
  unfolding week_energies
  energies-stay = λ i. up_to intervals (λ n. energy n i)
    where
      energy : (n : ℕ) → week_energy d n ≡ week_energy e n
      energy n =
          sym (energy-of-week d (accepted-readable h) n) ∙ ap (λ s. charge_energy s n) (same-parameters pairs)
          ∙ energy-of-week e (accepted-readable accepted-stays) n

  no-price-lower : Pairwise ◌≤ℤ◌ (week_prices d) (week_prices e)
  unfolding week_prices
  no-price-lower =
      up_to-pairwise ◌≤ℤ◌ (week_price d) (week_price e)
      (λ n. rw (price-told d (accepted-readable h) n, price-told e (accepted-readable accepted-stays) n)
      (held-order (charge_price (amounts (records d)) n) (charge_price (amounts (records e)) n) (higher pairs CH n 1)))
      intervals

-- ---- a query of an accepted dossier

module _ (d : List ℕ) (a : IsAccepted d) (q : Query) where
  -- a battery's efficiency is the same for every query
  efficient-at : technology (parameters_at d q) ≡ 3 → 500 ≤ efficiency (parameters_at d q)
  unfolding datable among table
  efficient-at =
      rw (says-always q RS refl (records d) 0 0, says-always q RS refl (records d) 0 7) (efficient (accepted-sound d a).1)

  all-close : Each CloseLine (levels d q)
  unfolding levels
  all-close =
      cond-holds (Each CloseLine) (fuelled (parameters_at d q) q.hour) _ _ (lines-close (parameters_at d q) (amounts_at d q) efficient-at q.hour) done

  at-query : IsOwner q.owner → AtQuery d q
  at-query o =
      split (fuelled (parameters_at d q) q.hour)
      (λ e. with_fuel e (hour-accepted d q o a e) (levels-fuelled d q e))
      (λ e. no_fuel e (hour-without d q o a e) (levels-without d q e))

pub demand3 : Demand3
demand3 =
    record {
      raise = λ d e h q.
          record {
            accepted = accepted-stays q h;
            first-hours = first-hours-stay q h;
            drawn = drawn-same q h;
            higher = levels-upper q h;
            offers = λ t c o. in-numbers (offers-stay q h t c o);
            prices = λ t v c price. in-numbers (prices-stay q h t v c price);
            week-answer = week-stays q h;
            week-energies = energies-stay q h;
            week-prices = no-price-lower q h;
          };
      distance = all-close;
      queries = at-query;
    }

-- every dossier is a raise of itself
pub raise-self : (d : List ℕ) → Raise d d
raise-self d = record { long = refl; alike = λ i h. refl; rising = all (records d) }
  where
    t : ℕ
    t = technology (parameters (records d))

    all : (l : List (List ℕ)) → Pairwise (Rattle.records.specs.Raise.Rising t) l l
    all [] = none
    all (r ∷ l) = more (raised-self t r).rising (all l)
