-- The week of an accepted dossier is looked up, and the charging cost is the week's.
use mathlib.Core.Path.{◌≡◌, refl, ap, sym, ◌∙◌}
use mathlib.Core.Bool.{Bool, true, false, cond}
use mathlib.Core.List.{List, [], ◌∷◌, ◌++◌}
use Prim.Native.Nat.{ℕ, zero, suc, ◌+◌, ◌*◌, ◌-◌, ◌%◌, ◌≤◌}
use native.Mathlib.Omega.{arith}
use lib.Dec.{ltb}
use lib.IntN.{ℤ, pos, negsuc, neg_ℤ, sub_ℕ, ◌+ℤ◌, ◌*ℤ◌, +ℤ_assoc, +ℤ_idl, +ℤ_idr}
use lib.ListN.{length, get_or}
use borrow.Author.Tests.{ltb-true, ltb-false}
use Rattle.lists.specs.Sums.{sum_to, up_to}
use Rattle.lists.proofs.Sums.{sum_to-same}
use Rattle.fields.specs.Numbers.{number, bytes_onto, bytes_of, bias, biased, unbiased, signed}
use Rattle.fields.proofs.Numbers.{number-bytes_of, unbiased-biased}
use Rattle.records.specs.Table.{table, row_of, CH}
use Rattle.records.specs.Record.{mark_in, mark, is_dated, kind_of, key_in, key_width}
use Rattle.records.specs.Answers.{is_accepted}
use Rattle.records.specs.Dossier.{records}
use Rattle.station.specs.Current.{current, lookup, lookup_bytes}
use Rattle.station.specs.Parameters.{charge_price, charge_energy, last_cost}
use Rattle.station.specs.Week.{intervals, week_price, week_energy, week_prices, week_energies}
use Rattle.station.proofs.Fields.{charge_price-at, charge_energy-at}
use Rattle.station.proofs.Week.{looked-up, price-told, energy-of-week}
use Rattle.rules.specs.Answer.{IsAccepted}
use Rattle.rules.specs.Week.{prices_after, energies_after}
use Rattle.lists.proofs.Sums.{up_to-length}
use Rattle.rules.proofs.Week.{prices-length, energies-length, price-at, energy-at, accepted-readable, week-taken}
use Rattle.formulas.specs.Sums.{sum_of}
use Rattle.formulas.specs.Levels.{parameters_in, amounts_in, total_energy, charging_sum, charging_cost}
use Rattle.formulas.proofs.Hours.{charging-always}
use Rattle.formulas.proofs.Signed.{charging-signed}
use Rattle.promise.specs.Week.{part_of, price_in, energy_in, paid_for, or_zero, charged, cost_of_week, WeekLookedUp}

-- ---- an interval

-- the key in two bytes is the key
part-looked-up : (d : List ℕ) (n : ℕ) → n ≤ intervals → part_of d n ≡ lookup d CH n
unfolding lookup_bytes mark mark_in is_dated kind_of key_width key_in table row_of bytes_of bytes_onto
part-looked-up d n h = ap (lookup d CH) (number-bytes_of 2 n (omega arith))

-- what is held of four numbers, whether they are bytes or not, is their signed number
held-signed : (n : ℕ) → unbiased (biased n) ≡ signed (n % 4294967296)
unfolding biased
held-signed n =
    let e : (n + 2147483648) % 4294967296 ≡ (n % 4294967296 + 2147483648) % 4294967296 = omega arith in
    ap unbiased e ∙ unbiased-biased (n % 4294967296) (omega arith)

module _ {d : List ℕ} (h : IsAccepted d) (n : ℕ) (b : n ≤ intervals) where
  part-current : part_of d n ≡ current CH n (records d)
  part-current = part-looked-up d n b ∙ looked-up d (accepted-readable h) CH n

  price-of-part : week_price d n ≡ price_in (part_of d n)
  price-of-part =
      price-told d (accepted-readable h) n ∙ ap unbiased (charge_price-at (records d) n)
      ∙ rw part-current (held-signed (number 8 4 (current CH n (records d))))

  energy-of-part : week_energy d n ≡ energy_in (part_of d n)
  energy-of-part = sym (energy-of-week d (accepted-readable h) n) ∙ charge_energy-at (records d) n ∙ rw part-current refl

-- ---- sums of signed numbers: what is paid, less what is received

received : ℤ → ℕ
received (pos n) = 0
received (negsuc n) = suc n

-- z is a - b
abbrev Less : ℤ → ℕ → ℕ → Type 0
Less z a b = or_zero z + b ≡ received z + a

stopped : (z : ℤ) (a b : ℕ) → Less z a b → or_zero z ≡ a - b
unfolding received
stopped (pos n) a b h = omega (arith, h)
stopped (negsuc n) a b h = omega (arith, h)

less-nothing : Less (pos 0) 0 0
unfolding received
less-nothing = refl

less-difference : (a b : ℕ) → Less (sub_ℕ a b) a b
unfolding received
less-difference a b = go (ltb a b) refl
  where
    go : (c : Bool) → ltb a b ≡ c → Less (cond c (negsuc (b - suc a)) (pos (a - b))) a b
    go true e = omega (arith, ltb-true a b e)
    go false e = omega (arith, ltb-false a b e)

less-owed : (x : ℕ) → Less (neg_ℤ (pos x)) 0 x
unfolding received
less-owed zero = refl
less-owed (suc x) = omega arith

-- a signed number times an energy
less-times : (z : ℤ) (e : ℕ) → Less (z *ℤ pos e) (or_zero z * e) (received z * e)
unfolding received
less-times (pos n) e = omega arith
less-times (negsuc n) e = omega (arith, less-owed (suc n * e))

less-plus : (x y : ℤ) (a b c f : ℕ) → Less x a b → Less y c f → Less (x +ℤ y) (a + c) (b + f)
unfolding received
less-plus (pos m) (pos n) a b c f p q = omega (arith, p, q)
less-plus (pos m) (negsuc n) a b c f p q = omega (arith, p, q, less-difference m (suc n))
less-plus (negsuc m) (pos n) a b c f p q = omega (arith, p, q, less-difference n (suc m))
less-plus (negsuc m) (negsuc n) a b c f p q = omega (arith, p, q)

-- ---- the week's sums, interval after interval

paid-behind : (l : List ℤ) (m : List ℕ) (p : ℤ) (e : ℕ) → length l ≡ length m
    → paid_for (l ++ (p ∷ [])) (m ++ (e ∷ [])) ≡ paid_for l m +ℤ p *ℤ pos e
unfolding paid_for
paid-behind [] [] p e h = +ℤ_idr (p *ℤ pos e) ∙ sym (+ℤ_idl (p *ℤ pos e))
paid-behind [] (y ∷ m) p e h = absurd (omega (arith, h))
paid-behind (x ∷ l) [] p e h = absurd (omega (arith, h))
paid-behind (x ∷ l) (y ∷ m) p e h =
    ap (λ z. x *ℤ pos y +ℤ z) (paid-behind l m p e (omega (arith, h))) ∙ sym (+ℤ_assoc (x *ℤ pos y) (paid_for l m) (p *ℤ pos e))

paid-sum : (f : ℕ → ℤ) (g : ℕ → ℕ) (n : ℕ)
    → Less (paid_for (up_to n f) (up_to n g)) (sum_to n (λ k. or_zero (f k) * g k)) (sum_to n (λ k. received (f k) * g k))
unfolding up_to sum_to
paid-sum f g zero = unfold paid_for in less-nothing
paid-sum f g (suc n) =
    rw (paid-behind (up_to n f) (up_to n g) (f (suc n)) (g (suc n)) (up_to-length f n ∙ sym (up_to-length g n)))
    (less-plus (paid_for (up_to n f) (up_to n g)) (f (suc n) *ℤ pos (g (suc n))) _ _ _ _ (paid-sum f g n) (less-times (f (suc n)) (g (suc n))))

sum-behind : (l : List ℕ) (x : ℕ) → sum_of (λ e. e) (l ++ (x ∷ [])) ≡ sum_of (λ e. e) l + x
unfolding sum_of
sum-behind [] x = omega arith
sum-behind (y ∷ l) x = rw (sum-behind l x) (omega arith)

charged-sum : (g : ℕ → ℕ) (n : ℕ) → charged (up_to n g) ≡ sum_to n g
unfolding up_to sum_to
charged-sum g zero = unfold sum_of in refl
charged-sum g (suc n) = rw (sum-behind (up_to n g) (g (suc n)), charged-sum g n) refl

held-price : (m : ℕ) → m + received (unbiased m) ≡ bias + or_zero (unbiased m)
unfolding unbiased received
held-price m = go (ltb m 2147483648) refl
  where
    go : (b : Bool) → ltb m 2147483648 ≡ b
        → m + received (cond b (negsuc (2147483647 - m)) (pos (m - 2147483648))) ≡ 2147483648 + or_zero (cond b (negsuc (2147483647 - m)) (pos (m - 2147483648)))
    go true e = omega (arith, ltb-true m 2147483648 e)
    go false e = omega (arith, ltb-false m 2147483648 e)

module _ {d : List ℕ} (h : IsAccepted d) where
  total-charged : total_energy (parameters_in d) ≡ charged (week_energies d)
  unfolding total_energy week_energies
  total-charged =
      sum_to-same intervals (charge_energy (parameters_in d)) (week_energy d) (λ n a b. energy-of-week d (accepted-readable h) n)
      ∙ sym (charged-sum (week_energy d) intervals)

  sum-paid : charging_sum (parameters_in d) (amounts_in d) ≡ or_zero (paid_for (week_prices d) (week_energies d))
  unfolding week_prices week_energies
  sum-paid =
      charging-signed (parameters_in d) (amounts_in d) paid owed (λ n. held-price (charge_price (amounts_in d) n))
      ∙ rw (told or_zero, told received) refl
      ∙ sym (stopped (paid_for (up_to intervals (week_price d)) (up_to intervals (week_energy d))) _ _ (paid-sum (week_price d) (week_energy d) intervals))
    where
      paid : ℕ → ℕ
      paid n = or_zero (unbiased (charge_price (amounts_in d) n))

      owed : ℕ → ℕ
      owed n = received (unbiased (charge_price (amounts_in d) n))

      told : (f : ℤ → ℕ) → sum_to intervals (λ n. f (unbiased (charge_price (amounts_in d) n)) * charge_energy (parameters_in d) n)
          ≡ sum_to intervals (λ n. f (week_price d n) * week_energy d n)
      told f =
          sum_to-same intervals _ _
          (λ n a b. rw (price-told d (accepted-readable h) n, energy-of-week d (accepted-readable h) n) refl)

  week-cost : charging_cost (parameters_in d) (amounts_in d) ≡ cost_of_week (week_prices d) (week_energies d) (last_cost (amounts_in d))
  unfolding charging_cost
  week-cost = rw (total-charged, sum-paid) refl

pub week-looked-up : WeekLookedUp
unfolding number signed
week-looked-up d h =
    record {
      prices-many = prices-length d;
      energies-many = energies-length d;
      price = price;
      energy = energy;
      no-price = λ n a b e. price n a b ∙ rw e refl;
      no-energy = λ n a b e. energy n a b ∙ rw e refl;
      prices-after = λ ps es a b. unfold prices_after is_accepted in rw (week-taken h (length ps) (length es) a b) refl;
      energies-after = λ ps es a b. unfold energies_after is_accepted in rw (week-taken h (length ps) (length es) a b) refl;
      cost = λ t. charging-always (records d) t ∙ week-cost h;
    }
  where
    price : (n : ℕ) → 1 ≤ n → n ≤ intervals → get_or (week_prices d) (n - 1) (pos 0) ≡ price_in (part_of d n)
    price n a b = price-at d n a b (pos 0) ∙ price-of-part h n b

    energy : (n : ℕ) → 1 ≤ n → n ≤ intervals → get_or (week_energies d) (n - 1) 0 ≡ energy_in (part_of d n)
    energy n a b = energy-at d n a b 0 ∙ energy-of-part h n b
