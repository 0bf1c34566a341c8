-- 7: the curve from point to point, as the code goes along it.
use mathlib.Core.Path.{◌≡◌, refl, ap, sym, subst, ◌∙◌}
use mathlib.Core.Bool.{Bool, true, false, ◌&&◌, false≢true}
use mathlib.Core.List.{List}
use Prim.Native.Nat.{ℕ, ◌+◌, ◌*◌, ◌-◌, ◌≤◌, ◌<◌}
use native.Mathlib.Decide.{ℕ_discrete}
use native.Mathlib.Omega.{arith}
use lib.Arith.{lt_of_le-ne}
use lib.Dec.{leb, ltb, eqb}
use lib.ListN.{length}
use borrow.Author.Tests.{le-leb, lt-leb, eq-eqb, ne_eqb}
use Rattle.lists.specs.Tests.{all_to}
use Rattle.lists.proofs.Tests.{and-true, and_left, and_right, and_both, to-next, to_at, at-to}
use Rattle.records.specs.Table.{HP}
use Rattle.station.specs.Current.{current}
use Rattle.station.specs.Parameters.{Parameters, parameters, technology, capacity, output, heat}
use Rattle.parameters.proofs.Points.{there-is}
use Rattle.rules.specs.Curve.{points, rise, curve_holds, curve_fits}
use Rattle.requirements.specs.Segments.{last_rise, segment_holds}

same_tests : (a b : Bool) → (a ≡ true → b ≡ true) → (b ≡ true → a ≡ true) → a ≡ b
same_tests true b p q = sym (p refl)
same_tests false true p q = q refl
same_tests false false p q = refl

and_assoc : (a b c : Bool) → a && b && c ≡ a && (b && c)
and_assoc true b c = refl
and_assoc false b c = refl

-- segment by segment
module _ (s : Parameters) where
  last-rise : (f : ℕ → ℕ) (i : ℕ) → 1 ≤ i → last_rise f (i + 1) ≡ rise f i
  unfolding last_rise
  last-rise f i h =
      let e : i + 1 - 1 ≡ i = omega arith in
      rw (ne_eqb (i + 1) 1 (λ z. omega (arith, z)), e) refl

  abbrev rising : ℕ → Bool
  rising i = ltb (output s i) (output s (i + 1)) && leb (heat s i) (heat s (i + 1))

  abbrev sloping : ℕ → Bool
  sloping i = leb (rise (heat s) i * rise (output s) (i + 1)) (rise (heat s) (i + 1) * rise (output s) i)

  abbrev slopes : ℕ → Bool
  slopes i = leb (last_rise (heat s) i * rise (output s) i) (rise (heat s) i * last_rise (output s) i)

  -- a segment's three parts
  segment-parts : (i : ℕ) → segment_holds s i ≡ true → (s.has HP (i + 1) ≡ true) × (rising i ≡ true) × (slopes i ≡ true)
  unfolding segment_holds
  segment-parts i e =
      go (s.has HP (i + 1)) (ltb (output s i) (output s (i + 1))) (leb (heat s i) (heat s (i + 1))) (slopes i) e
    where
      go : (a b c d : Bool) → a && b && c && d ≡ true → (a ≡ true) × (b && c ≡ true) × (d ≡ true)
      go true true true d e = (refl, refl, e)
      go true true false d e = absurd (false≢true e)
      go true false c d e = absurd (false≢true e)
      go false b c d e = absurd (false≢true e)

  parts-segment : (i : ℕ) → s.has HP (i + 1) ≡ true → rising i ≡ true → slopes i ≡ true → segment_holds s i ≡ true
  unfolding segment_holds
  parts-segment i p q r = go (ltb (output s i) (output s (i + 1))) (leb (heat s i) (heat s (i + 1))) q
    where
      go : (b c : Bool) → b && c ≡ true → s.has HP (i + 1) && b && c && slopes i ≡ true
      go true true e = rw (p, r) refl
      go true false e = absurd (false≢true e)
      go false c e = absurd (false≢true e)

  slopes-next : (i : ℕ) → 1 ≤ i → slopes (i + 1) ≡ sloping i
  slopes-next i h = rw (last-rise (heat s) i h, last-rise (output s) i h) refl

  first-slope : slopes 1 ≡ true
  unfolding last_rise
  first-slope = le-leb (0 * rise (output s) 1) (rise (heat s) 1 * 0) (omega arith)

  -- what holds at 1 and after each number below i holds at i
  from_first : (f : ℕ → Bool) (i : ℕ) → 1 ≤ i → f 1 ≡ true → ((j : ℕ) → 1 ≤ j → j < i → f (j + 1) ≡ true) → f i ≡ true
  from_first f i h a g = go (ℕ_discrete i 1)
    where
      go : Dec (i ≡ 1) → f i ≡ true
      go (yes e) = rw e a
      go (no e) =
          let k : i - 1 + 1 ≡ i = omega arith in
          subst (λ (j : ℕ). f j ≡ true) k (g (i - 1) (omega (arith, lt_of_le-ne h (λ z. e (sym z)))) (omega arith))

  pub segments-curve : (n : ℕ) → 2 ≤ n → {a b c : Bool} → a ≡ s.has HP 1 → b ≡ all_to (n - 1) (segment_holds s) → c ≡ eqb (output s n) (capacity s) → a && b
      && c ≡ curve_holds s n
  unfolding curve_holds
  segments-curve n h p q r = rw (p, q, r, le-leb 2 n h) (ap (λ (x : Bool). x && eqb (output s n) (capacity s)) (same_tests _ _ forth back))
    where
      forth : s.has HP 1 && all_to (n - 1) (segment_holds s) ≡ true → all_to n (s.has HP) && all_to (n - 1) rising && all_to (n - 2) sloping ≡ true
      forth e =
          let one = and_left (s.has HP 1) (all_to (n - 1) (segment_holds s)) e in
          let segments = to_at (n - 1) (segment_holds s) (and_right (s.has HP 1) (all_to (n - 1) (segment_holds s)) e) in
          and_both (all_to n (s.has HP) && all_to (n - 1) rising) (all_to (n - 2) sloping)
          (and_both (all_to n (s.has HP)) (all_to (n - 1) rising)
          (at-to n (s.has HP) (λ i a b. from_first (s.has HP) i a one (λ j x y. (segment-parts j (segments j x (omega arith))).0)))
          (at-to (n - 1) rising (λ i a b. (segment-parts i (segments i a b)).1)))
          (at-to (n - 2) sloping (λ i a b. sym (slopes-next i a) ∙ (segment-parts (i + 1) (segments (i + 1) (omega arith) (omega arith))).2))

      back : all_to n (s.has HP) && all_to (n - 1) rising && all_to (n - 2) sloping ≡ true → s.has HP 1 && all_to (n - 1) (segment_holds s) ≡ true
      back e =
          let ab = and_left (all_to n (s.has HP) && all_to (n - 1) rising) (all_to (n - 2) sloping) e in
          let there = to_at n (s.has HP) (and_left (all_to n (s.has HP)) (all_to (n - 1) rising) ab) in
          let up = to_at (n - 1) rising (and_right (all_to n (s.has HP)) (all_to (n - 1) rising) ab) in
          let slope = to_at (n - 2) sloping (and_right (all_to n (s.has HP) && all_to (n - 1) rising) (all_to (n - 2) sloping) e) in
          and_both (s.has HP 1) (all_to (n - 1) (segment_holds s)) (there 1 (omega arith) (omega arith))
          (at-to (n - 1) (segment_holds s) (λ i a b.
          parts-segment i (there (i + 1) (omega arith) (omega arith)) (up i a b)
          (from_first slopes i a first-slope (λ j x y. slopes-next j x ∙ slope j x (omega arith)))))

-- at point i: its output and heat, the last rises, and whether all segments up to it hold
pub record Along (s : Parameters) (i : ℕ) (ok : Bool) (w h dw dh : ℕ) : Type 0 where
  pub output-is : w ≡ output s i
  pub heat-is : h ≡ heat s i
  pub output-rise : dw ≡ last_rise (output s) i
  pub heat-rise : dh ≡ last_rise (heat s) i
  pub segments : ok ≡ s.has HP 1 && all_to (i - 1) (segment_holds s)

module _ (l : List (List ℕ)) where
  pub along-first : {part : List ℕ} {w h : ℕ} → part ≡ current HP 1 l → w ≡ output (parameters l) 1 → h ≡ heat (parameters l) 1
      → Along (parameters l) 1 (ltb 0 (length part)) w h 0 0
  unfolding last_rise all_to
  along-first p q r =
      record {
        output-is = q;
        heat-is = r;
        output-rise = refl;
        heat-rise = refl;
        segments = there-is l HP 1 p ∙ sym (and-true ((parameters l).has HP 1));
      }

  pub along-next : (i : ℕ) {ok : Bool} {w h dw dh w1 h1 a b x y : ℕ} {part : List ℕ} → 1 ≤ i → Along (parameters l) i ok w h dw dh
      → part ≡ current HP (i + 1) l → w1 ≡ output (parameters l) (i + 1) → h1 ≡ heat (parameters l) (i + 1)
      → a ≡ w1 - w → b ≡ h1 - h → x ≡ dh * a → y ≡ b * dw
      → Along (parameters l) (i + 1) (ok && (ltb 0 (length part) && ltb w w1 && leb h h1 && leb x y)) w1 h1 a b
  along-next i {ok} {w} {h} {dw} {dh} {w1} {h1} {a} {b} {x} {y} {part} g z p ew eh ea eb ex ey =
      record {
        output-is = ew;
        heat-is = eh;
        output-rise = fa ∙ sym (last-rise (parameters l) (output (parameters l)) i g);
        heat-rise = fb ∙ sym (last-rise (parameters l) (heat (parameters l)) i g);
        segments =
            ap (λ (c : Bool). c && (ltb 0 (length part) && ltb w w1 && leb h h1 && leb x y)) z.segments
            ∙ and_assoc ((parameters l).has HP 1) (all_to (i - 1) (segment_holds (parameters l))) _
            ∙ ap (λ (c : Bool). (parameters l).has HP 1 && c)
            (to-next (i - 1) (segment_holds (parameters l)) refl (segment ∙ ap (segment_holds (parameters l)) (sym low)) ∙ ap (λ (j : ℕ). all_to j
            (segment_holds (parameters l))) (low ∙ sym high));
      }
    where
      low : i - 1 + 1 ≡ i
      low = omega arith

      high : i + 1 - 1 ≡ i
      high = omega arith

      fa : a ≡ rise (output (parameters l)) i
      fa = unfold rise in (ea ∙ rw (ew, z.output-is) refl)

      fb : b ≡ rise (heat (parameters l)) i
      fb = unfold rise in (eb ∙ rw (eh, z.heat-is) refl)

      segment : ltb 0 (length part) && ltb w w1 && leb h h1 && leb x y ≡ segment_holds (parameters l) i
      segment = unfold segment_holds in (rw (ex, ey, there-is l HP (i + 1) p, z.output-is, z.heat-is, ew, eh, fa, fb, z.output-rise, z.heat-rise) refl)

  pub along-last : (n i : ℕ) {ok : Bool} {w h dw dh c : ℕ} → 2 ≤ n → n ≤ i → i ≤ n → Along (parameters l) i ok w h dw dh → c ≡ capacity (parameters l) → ok
      && eqb w c ≡ curve_holds (parameters l) n
  along-last n i a b d z e =
      let m : i ≡ n = omega arith in
      rw (z.segments, z.output-is, e, m) (segments-curve (parameters l) n a refl refl refl)

-- what 7 asks
module _ (s : Parameters) (t : ℕ) (et : t ≡ technology s) where
  pub curve-none : (t ≡ 1 → ⊥) → true ≡ curve_fits s
  unfolding curve_fits
  curve-none z = rw (← et, ne_eqb t 1 z) refl

  pub curve-short : t ≡ 1 → (n : ℕ) → n ≡ points s → n < 2 → false ≡ curve_fits s
  unfolding curve_fits curve_holds
  curve-short e n p h = rw (← et, eq-eqb t 1 e, ← p, lt-leb 2 n h) refl

  pub curve-whole : t ≡ 1 → (n : ℕ) → n ≡ points s → {b : Bool} → b ≡ curve_holds s n → b ≡ curve_fits s
  unfolding curve_fits
  curve-whole e n p q = rw (← et, eq-eqb t 1 e, ← p) q
