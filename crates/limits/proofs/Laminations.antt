-- The test over levels as code hands them over is the test over the levels, and goes by the arrays' places.
use mathlib.Core.Path.{◌≡◌, refl, ap, sym, ◌∙◌}
use mathlib.Core.Bool.{Bool, true, false, cond, ◌&&◌, false≢true}
use mathlib.Core.List.{List, [], ◌∷◌, ◌++◌, map}
use Prim.Native.Nat.{ℕ, zero, suc, ◌+◌, ◌-◌, ◌≤◌, ◌<◌, min}
use native.Mathlib.Decide.{ℕ_discrete}
use native.Mathlib.Numerals.{add-one}
use native.Mathlib.Omega.{arith}
use lib.Arith.{lt_of_le-ne}
use lib.Dec.{eqb, leb, ltb}
use lib.ListN.{get_or}
use borrow.Author.Tests.{le-leb, lt-ltb, leb-true, ltb-true}
use Rattle.std.specs.Prelude.{Option, Some, None}
use Rattle.station.specs.Parameters.{Parameters}
use Rattle.rules.specs.Fit.{energy, holds}
use Rattle.arrays.specs.declared.HourLevels.{HourLevels}
use Rattle.formulas.specs.Levels.{Line, amount, Shown, shown_as, shown}
use Rattle.arrays.specs.Packed.{Arrays, arrays_of, laminations_from, single_of, unpacked}
use Rattle.limits.specs.declared.Threshold.{Threshold}
use Rattle.limits.specs.declared.Pair.{Pair}
use Rattle.verdicts.specs.declared.Verdict.{Verdict}
use Rattle.verdicts.specs.declared.Verdict.TheVariants.{Passes, Fails}
use Rattle.verdicts.specs.Test.{limit, fails, fails_under, failing, quantity, price_at, before, overlap, offer_from}
use Rattle.limits.specs.Thresholds.{threshold_of, fails_at, failing_shown, offer_shown, fails_in, first_failing, least_of, LastHighest}
use Rattle.verdicts.proofs.Stays.{pass-stays}
use Rattle.limits.proofs.Turns.{one_less, all_left}

-- ---- without the formulas

module _ (v : ℕ) (meets : ℕ → ℕ → Bool) (test : ℕ → Bool) (k : ℕ) where
  failing-shown : (l : List Line) (rest : Verdict) → failing_shown v meets test k (map shown l) rest ≡ failing v meets test k l rest
  unfolding failing failing_shown
  failing-shown [] rest = refl
  failing-shown (x ∷ l) rest =
      ap (cond (eqb x.level v && meets x.from x.to && test (amount x)) (Fails k x.lamination)) (failing-shown l rest)

  failing-append : (a b : List Shown) (rest : Verdict) → failing_shown v meets test k (a ++ b) rest ≡ failing_shown v meets test k a
      (failing_shown v meets test k b rest)
  unfolding failing_shown
  failing-append [] b rest = refl
  failing-append (x ∷ a) b rest =
      ap (cond (eqb x.level v && meets x.from x.to && test x.cents) (Fails k x.lamination)) (failing-append a b rest)

  -- a level without laminations
  failing-single : (t u x : ℕ) (rest : Verdict) → failing_shown v meets test k (single_of t u x) rest ≡ cond (holds t u && (eqb u v && meets 0 0 && test x))
      (Fails k 0) rest
  unfolding failing_shown single_of
  failing-single t u x rest = go (holds t u)
    where
      go : (b : Bool) → failing_shown v meets test k (cond b (shown_as u 0 0 0 x ∷ []) []) rest ≡ cond (b && (eqb u v && meets 0 0 && test x)) (Fails k 0) rest
      go true = refl
      go false = refl

  -- of another kind
  single-other : (t u x : ℕ) (rest : Verdict) → eqb u v ≡ false → failing_shown v meets test k (single_of t u x) rest ≡ rest
  single-other t u x rest e = failing-single t u x rest ∙ rw e (go (holds t u))
    where
      go : (b : Bool) → cond (b && false) (Fails k 0) rest ≡ rest
      go true = refl
      go false = refl

  failing-unpacked :
      (r : HourLevels) (rest : Verdict)
      → failing_shown v meets test k (unpacked r) rest
      ≡ failing_shown v meets test k (laminations_from (arrays_of r) 0 r.count)
      (failing_shown v meets test k (single_of r.technology 2 r.start)
      (failing_shown v meets test k (single_of r.technology 3 r.noload)
      (failing_shown v meets test k (single_of r.technology 4 r.reserve) rest)))
  unfolding unpacked
  failing-unpacked r rest =
      let l = laminations_from (arrays_of r) 0 r.count in
      failing-append (l ++ single_of r.technology 2 r.start ++ single_of r.technology 3 r.noload) (single_of r.technology 4 r.reserve) rest
      ∙ failing-append (l ++ single_of r.technology 2 r.start) (single_of r.technology 3 r.noload) _
      ∙ failing-append l (single_of r.technology 2 r.start) _

module _ (s : Parameters) (c : ℕ) (l : List Line) where
  pub offer-shown : (o : List ℕ) (k n : ℕ) → offer_shown (threshold_of s c energy) (map shown l) o k n ≡ offer_from s c l o k n
  unfolding offer_shown offer_from fails_under fails_at
  offer-shown o k zero = refl
  offer-shown o k (suc n) =
      ap (failing_shown energy (overlap (before o k) (quantity o k)) (fails_under s c energy (price_at o k)) (k + 1) (map shown l)) (offer-shown o (k + 1) n)
      ∙ failing-shown energy (overlap (before o k) (quantity o k)) (fails_under s c energy (price_at o k)) (k + 1) l (offer_from s c l o (k + 1) n)

-- ---- by the arrays' places

-- pair k's lamination as a verdict, or else what follows
abbrev named : ℕ → Option ℕ → Verdict → Verdict
named k None rest = rest
named k (Some i) rest = Fails k i

module _ (t : Threshold) (p : Pair) (r : Arrays) (k : ℕ) (rest : Verdict) where
  laminations-first :
      (i n : ℕ)
      → failing_shown energy (overlap p.low p.high) (fails_at t p.price) k (laminations_from r i n) rest
      ≡ named k (first_failing t p r.from r.to r.cents i n) rest
  unfolding failing_shown laminations_from first_failing fails_in
  laminations-first i zero = refl
  laminations-first i (suc n) =
      go (overlap p.low p.high (get_or r.from i 0) (get_or r.to i 0) && fails_at t p.price (get_or r.cents i 0))
      (first_failing t p r.from r.to r.cents (suc i) n) (laminations-first (suc i) n)
    where
      go : (b : Bool) {x : Verdict} (j : Option ℕ) → x ≡ named k j rest → cond b (Fails k (suc i)) x ≡ named k (cond b (Some (suc i)) j) rest
      go true j e = refl
      go false j e = e

-- pair k of an offer
abbrev pair_at : List ℕ → ℕ → Pair
pair_at o k = record { low = before o k; high = quantity o k; price = price_at o k }

-- of an offer the laminations alone are tested
pub laminations-alone :
    (t : Threshold) (r : HourLevels) (o : List ℕ) (k n : ℕ)
    → offer_shown t (laminations_from (arrays_of r) 0 r.count) o k n ≡ offer_shown t (unpacked r) o k n
unfolding offer_shown
laminations-alone t r o k zero = refl
laminations-alone t r o k (suc n) =
    let meets = overlap (before o k) (quantity o k) in
    let test = fails_at t (price_at o k) in
    let l = laminations_from (arrays_of r) 0 r.count in
    let rest = offer_shown t (unpacked r) o (k + 1) n in
    ap (failing_shown energy meets test (k + 1) l)
    (laminations-alone t r o (k + 1) n
    ∙ sym (single-other 1 meets test (k + 1) r.technology 2 r.start _ refl
    ∙ single-other 1 meets test (k + 1) r.technology 3 r.noload _ refl
    ∙ single-other 1 meets test (k + 1) r.technology 4 r.reserve rest refl))
    ∙ sym (failing-unpacked 1 meets test (k + 1) r rest)

-- one lamination
module _ (t : Threshold) (p : Pair) (from to x : ℕ) where
  pub overlapped : overlap p.low p.high from to ≡ true → fails_at t p.price x ≡ fails_in t p from to x
  unfolding fails_in
  overlapped e = rw e refl

  pub untouched : overlap p.low p.high from to ≡ false → false ≡ fails_in t p from to x
  unfolding fails_in
  untouched e = rw e refl

-- the least level, one further
pub least-next : (cents : List ℕ) (i : ℕ) → min (least_of cents i) (get_or cents i 0) ≡ least_of cents (i + 1)
unfolding least_of
least-next cents i = rw (add-one i) refl

least-le : (cents : List ℕ) (n i : ℕ) → i < n → least_of cents n ≤ get_or cents i 0
unfolding least_of
least-le cents zero i h = absurd (omega arith)
least-le cents (suc n) i h = go (ℕ_discrete i n) (least-le cents n i)
  where
    go : Dec (i ≡ n) → (i < n → least_of cents n ≤ get_or cents i 0) → min (least_of cents n) (get_or cents n 0) ≤ get_or cents i 0
    go (yes e) f = rw e (omega arith)
    go (no e) f = omega (arith, f (lt_of_le-ne (omega arith) e))

-- a price that passes at the least level passes in all laminations
module _ (t : Threshold) (p : Pair) (from to cents : List ℕ) (x : ℕ) (e : fails_at t p.price x ≡ false) where
  none_from : (n i : ℕ) → ((j : ℕ) → i ≤ j → j < i + n → x ≤ get_or cents j 0) → None ≡ first_failing t p from to cents i n
  unfolding first_failing fails_in fails_at
  none_from zero i h = refl
  none_from (suc n) i h =
      rw (pass-stays t.percent t.margin t.floor p.price (h i (omega arith) (omega arith)) e)
      (go (overlap p.low p.high (get_or from i 0) (get_or to i 0)) (none_from n (suc i) (λ j a b. h j (omega arith) (omega arith))))
    where
      go : (b : Bool) {j : Option ℕ} → None ≡ j → None ≡ cond (b && false) (Some (suc i)) j
      go true f = f
      go false f = f

  pub least-passes : (n : ℕ) → x ≡ least_of cents n → None ≡ first_failing t p from to cents 0 n
  least-passes n z = none_from n 0 (λ j a b. rw z (least-le cents n j (omega arith)))

-- one turn over the laminations, at place i of n
module _ (t : Threshold) (p : Pair) (from to cents : List ℕ) (n i : ℕ) (h : i < n) where
  pub lamination-stop : fails_in t p (get_or from i 0) (get_or to i 0) (get_or cents i 0) ≡ true → Some (i + 1) ≡ first_failing t p from to cents i (n - i)
  unfolding first_failing
  lamination-stop e = rw (one_less n i h, e) (ap Some (add-one i))

  pub lamination-next : fails_in t p (get_or from i 0) (get_or to i 0) (get_or cents i 0) ≡ false
      → first_failing t p from to cents (i + 1) (n - (i + 1)) ≡ first_failing t p from to cents i (n - i)
  unfolding first_failing
  lamination-next e = rw (one_less n i h, e, add-one i) refl

pub lamination-end : (t : Threshold) (p : Pair) (from to cents : List ℕ) (n i : ℕ) → n ≤ i → None ≡ first_failing t p from to cents i (n - i)
unfolding first_failing
lamination-end t p from to cents n i h = let z : n - i ≡ 0 = omega arith in rw z refl

-- one turn over the pairs, at pair k of n: what was read of it, and the lamination i that it fails in
module _ (t : Threshold) (r : Arrays) (o : List ℕ) (n k : ℕ) (p : Pair) {i : Option ℕ} (h : k < n) (l : p.low ≡ before o k) (q : p.high ≡ quantity o k)
    (e : p.price ≡ price_at o k) (f : i ≡ first_failing t p r.from r.to r.cents 0 r.count) where
  turn : named (k + 1) i (offer_shown t (laminations_from r 0 r.count) o (k + 1) (n - (k + 1))) ≡ offer_shown t (laminations_from r 0 r.count) o k (n - k)
  unfolding offer_shown
  turn =
      rw (one_less n k h, ← l, ← q, ← e)
      (ap (λ (j : Option ℕ). named (k + 1) j (offer_shown t (laminations_from r 0 r.count) o (k + 1) (n - (k + 1)))) f
      ∙ sym (laminations-first t p r (k + 1) (offer_shown t (laminations_from r 0 r.count) o (k + 1) (n - (k + 1))) 0 r.count))

  pub pair-stop : {j : ℕ} → i ≡ Some j → Fails (k + 1) j ≡ offer_shown t (laminations_from r 0 r.count) o k (n - k)
  pair-stop z = rw z at turn

  pub pair-next : i ≡ None → offer_shown t (laminations_from r 0 r.count) o (k + 1) (n - (k + 1)) ≡ offer_shown t (laminations_from r 0 r.count) o k (n - k)
  pair-next z = rw z at turn

pub pair_end : (t : Threshold) (m : List Shown) (o : List ℕ) (n k : ℕ) → n ≤ k → Passes ≡ offer_shown t m o k (n - k)
unfolding offer_shown
pair_end t m o n k h = let z : n - k ≡ 0 = omega arith in rw z refl

-- a lower price passes where a price does
module _ (t : Threshold) {p q : ℕ} (x : ℕ) (h : q ≤ p) where
  pub lower-passes : fails_at t p x ≡ false → fails_at t q x ≡ false
  unfolding fails_at fails
  lower-passes e = go (leb floor q) (ltb most q) refl refl
    where
      floor : ℕ
      floor = t.floor + 2147483648

      most : ℕ
      most = limit x t.percent t.margin + 2147483648

      go : (a b : Bool) → leb floor q ≡ a → ltb most q ≡ b → a && b ≡ false
      go true true f g =
          absurd (false≢true (sym e ∙ rw (le-leb floor p (omega (arith, leb-true floor q f)), lt-ltb most p (omega (arith, ltb-true most q g))) refl))
      go true false f g = refl
      go false b f g = refl

-- where the highest price passes at the least level, all pairs pass
module _ (t : Threshold) (r : Arrays) (o : List ℕ) (n : ℕ) (h : LastHighest o n)
    (e : fails_at t (price_at o (n - 1)) (least_of r.cents r.count) ≡ false) where
  pass-from : (m k : ℕ) → k + m ≡ n → Passes ≡ offer_shown t (laminations_from r 0 r.count) o k (n - k)
  pass-from zero k f = pair_end t (laminations_from r 0 r.count) o n k (omega arith)
  pass-from (suc m) k f =
      let p = pair_at o k in
      let z = lower-passes t (least_of r.cents r.count) (h.at k (omega arith)) e in
      pass-from m (k + 1) (omega arith) ∙ pair-next t r o n k p (omega arith) refl refl refl
      (least-passes t p r.from r.to r.cents (least_of r.cents r.count) z r.count refl) refl

  pub all_pass : Passes ≡ offer_shown t (laminations_from r 0 r.count) o 0 n
  all_pass = pass-from n 0 (omega arith) ∙ all_left (offer_shown t (laminations_from r 0 r.count) o 0) n
