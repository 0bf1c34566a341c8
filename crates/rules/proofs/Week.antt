-- The week that is asked for: what draws 15, what stands at each interval's place, what stays.
use mathlib.Core.Path.{◌≡◌, refl, ap, sym, ◌∙◌}
use mathlib.Core.Bool.{Bool, true, false, cond, ◌||◌, true≢false}
use mathlib.Core.List.{List, [], ◌∷◌, ◌++◌}
use Prim.Native.Nat.{ℕ, suc, ◌+◌, ◌-◌, ◌≤◌, ◌<◌}
use native.Mathlib.Omega.{arith}
use lib.Dec.{ltb}
use lib.IntN.{ℤ, pos, negsuc}
use lib.ListN.{length, get_or, drop, length-append, length-drop, get_or-append}
use lib.Seq.{get_or-append-add, get_or-drop}
use borrow.Author.Tests.{lt-ltb, le-ltb, ltb-false}
use Rattle.lists.specs.Lists.{joined}
use Rattle.lists.proofs.Sums.{up_to-length, up_to-at}
use Rattle.records.specs.Table.{CH}
use Rattle.records.specs.Answers.{Accepted, Answer, or_else, refuse_if, is_accepted, Refused}
use Rattle.records.specs.Made.{minus, made}
use Rattle.records.proofs.Answers.{or_else-parts, not-refuse_if}
use Rattle.station.specs.Current.{readable}
use Rattle.station.specs.Week.{intervals, week_price, week_energy, week_prices, week_energies}
use Rattle.rules.specs.Answer.{answer, IsAccepted}
use Rattle.rules.specs.Week.{week_answer, week_in, prices_after, energies_after}
use Rattle.rules.proofs.Computed.{computed}
use Rattle.rules.proofs.Draws.{beyond_reading, answer-parts}

-- ---- the week of a dossier

module _ (d : List ℕ) where
  pub prices-length : length (week_prices d) ≡ intervals
  unfolding week_prices
  prices-length = up_to-length (week_price d) intervals

  pub energies-length : length (week_energies d) ≡ intervals
  unfolding week_energies
  energies-length = up_to-length (week_energy d) intervals

  -- interval n at place n - 1
  module _ (n : ℕ) (a : 1 ≤ n) (b : n ≤ intervals) where
    pub price-at : (z : ℤ) → get_or (week_prices d) (n - 1) z ≡ week_price d n
    unfolding week_prices
    price-at z =
        let e : suc (n - 1) ≡ n = omega arith in
        up_to-at (week_price d) intervals (n - 1) z (omega arith) ∙ ap (week_price d) e

    pub energy-at : (z : ℕ) → get_or (week_energies d) (n - 1) z ≡ week_energy d n
    unfolding week_energies
    energy-at z =
        let e : suc (n - 1) ≡ n = omega arith in
        up_to-at (week_energy d) intervals (n - 1) z (omega arith) ∙ ap (week_energy d) e

-- ---- the answer

module _ {d : List ℕ} (h : IsAccepted d) where
  -- an accepted dossier draws nothing while it is read
  pub accepted-readable : readable d ≡ Accepted
  accepted-readable = (or_else-parts (readable d) (beyond_reading d) (sym (answer-parts d) ∙ h.clean)).0

  -- so many places that all 2,016 intervals fit
  pub week-taken : (n m : ℕ) → intervals ≤ n → intervals ≤ m → week_answer d n m ≡ Accepted
  unfolding week_answer or_else refuse_if
  week-taken n m a b = rw (h.clean, le-ltb n intervals a, le-ltb m intervals b) refl

  -- too few of either
  pub short-prices : (n m : ℕ) → n < intervals → week_answer d n m ≡ Refused 15 0
  unfolding week_answer or_else refuse_if
  short-prices n m a = rw (h.clean, lt-ltb n intervals a) refl

  pub short-energies : (n m : ℕ) → m < intervals → week_answer d n m ≡ Refused 15 0
  unfolding week_answer or_else refuse_if
  short-energies n m a = rw h.clean (go (ltb n intervals) (ltb m intervals) (lt-ltb m intervals a))
    where
      go : (b c : Bool) → c ≡ true → cond (b || c) (Refused 15 0) Accepted ≡ Refused 15 0
      go true c e = refl
      go false c e = rw e refl

-- another refusal comes before 15
pub refused-first : (d : List ℕ) (n m k p : ℕ) → answer d ≡ Refused k p → week_answer d n m ≡ Refused k p
unfolding week_answer or_else
refused-first d n m k p e = rw e refl

-- ---- the two lists after the call

module _ {A : Type 0} (a : Answer) (l before : List A) (h : length l ≡ intervals) where
  -- what is past the week stays, whatever is answered
  past : (i : ℕ) (z : A) → intervals ≤ i → get_or (week_in a l before) i z ≡ get_or before i z
  past i z b = go (is_accepted a)
    where
      e : i ≡ length l + (i - intervals)
      e = rw h (omega arith)

      go : (c : Bool) → get_or (cond c (l ++ drop intervals before) before) i z ≡ get_or before i z
      go true =
          ap (λ (j : ℕ). get_or (l ++ drop intervals before) j z) e ∙ get_or-append-add l (drop intervals before) (i - intervals) z
          ∙ get_or-drop intervals before (i - intervals) z
          ∙ ap (λ (j : ℕ). get_or before j z) (omega arith)
      go false = refl

  within : a ≡ Accepted → (i : ℕ) (z : A) → i < intervals → get_or (week_in a l before) i z ≡ get_or l i z
  unfolding is_accepted
  within e i z b = rw e (get_or-append l (drop intervals before) z i (rw h b))

kept : {A : Type 0} (a : Answer) (l before : List A) (k p : ℕ) → a ≡ Refused k p → week_in a l before ≡ before
unfolding is_accepted
kept a l before k p e = rw e refl

long : {A : Type 0} (l before : List A) → length l ≡ intervals → ltb (length before) intervals ≡ false
    → length (l ++ drop intervals before) ≡ length before
long l before h g =
    rw (length-append l (drop intervals before), length-drop intervals before, h) (omega (arith, ltb-false (length before) intervals g))

module _ (d : List ℕ) (p : List ℤ) (e : List ℕ) where
  -- a refused call keeps every place
  pub refused-keeps : (k i : ℕ) → week_answer d (length p) (length e) ≡ Refused k i → (prices_after d p e ≡ p) × (energies_after d p e ≡ e)
  unfolding prices_after energies_after
  refused-keeps k i h = (kept _ (week_prices d) p k i h, kept _ (week_energies d) e k i h)

  -- those past the week stay
  pub prices-past : (i : ℕ) (z : ℤ) → intervals ≤ i → get_or (prices_after d p e) i z ≡ get_or p i z
  unfolding prices_after
  prices-past = past (week_answer d (length p) (length e)) (week_prices d) p (prices-length d)

  pub energies-past : (i z : ℕ) → intervals ≤ i → get_or (energies_after d p e) i z ≡ get_or e i z
  unfolding energies_after
  energies-past = past (week_answer d (length p) (length e)) (week_energies d) e (energies-length d)

  -- the lists stay as long as they were
  module _ (h : week_answer d (length p) (length e) ≡ Accepted) where
    enough : (ltb (length p) intervals ≡ false) × (ltb (length e) intervals ≡ false)
    unfolding week_answer
    enough = go (ltb (length p) intervals) (ltb (length e) intervals) (not-refuse_if _ 15 0 (or_else-parts (answer d) _ h).1)
      where
        go : (b c : Bool) → b || c ≡ false → (b ≡ false) × (c ≡ false)
        go true c z = absurd (true≢false z)
        go false c z = (refl, z)

    pub lengths-stay : (length (prices_after d p e) ≡ length p) × (length (energies_after d p e) ≡ length e)
    unfolding prices_after energies_after is_accepted
    lengths-stay = rw h (long (week_prices d) p (prices-length d) enough.0, long (week_energies d) e (energies-length d) enough.1)

  -- after an accepted one the price and energy of interval n at place n - 1
  module _ (h : IsAccepted d) (a : intervals ≤ length p) (b : intervals ≤ length e) (n : ℕ) (low : 1 ≤ n) (high : n ≤ intervals) where
    pub price-stands : (z : ℤ) → get_or (prices_after d p e) (n - 1) z ≡ week_price d n
    unfolding prices_after
    price-stands z =
        within (week_answer d (length p) (length e)) (week_prices d) p (prices-length d) (week-taken h (length p) (length e) a b) (n - 1) z (omega arith)
        ∙ price-at d n low high z

    pub energy-stands : (z : ℕ) → get_or (energies_after d p e) (n - 1) z ≡ week_energy d n
    unfolding energies_after
    energy-stands z =
        within (week_answer d (length p) (length e)) (week_energies d) e (energies-length d) (week-taken h (length p) (length e) a b) (n - 1) z (omega arith)
        ∙ energy-at d n low high z

-- ---- worked values: a dossier of two records, CH of interval 2,016 as issue 7 and behind it as issue 6

-- 3,000 kWh at -5.00, and 1,000 at 20.00
abbrev pub charged : List ℕ
charged = joined (made CH 7 (2016 ∷ minus 500 ∷ 3000 ∷ []) ∷ made CH 6 (2016 ∷ 2000 ∷ 1000 ∷ []) ∷ [])

-- a price below 0, and both 0 where there is none
pub worked-prices : (week_price charged 2016 ≡ negsuc 499) × (week_price charged 2015 ≡ pos 0)
unfolding computed
worked-prices = (refl, refl)

pub worked-energies : (week_energy charged 2016 ≡ 3000) × (week_energy charged 2015 ≡ 0)
unfolding computed
worked-energies = (refl, refl)

-- it has no RS, so it draws 5, before 15
pub worked-answers : (week_answer charged 2016 2016 ≡ Refused 5 32) × (week_answer charged 0 0 ≡ Refused 5 32)
unfolding computed
worked-answers = (refl, refl)
