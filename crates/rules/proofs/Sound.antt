-- What an accepted dossier is, declared; it is the same in another order, and stays so in a raise.
use mathlib.Core.Path.{◌≡◌, refl, ap, sym, ◌∙◌}
use mathlib.Core.Bool.{Bool, true, false, ◌&&◌, not, false≢true, true≢false}
use mathlib.Core.List.{List, []}
use Prim.Native.Nat.{ℕ, ◌≤◌, ◌<◌}
use lib.Dec.{ltb, lit≤}
use lib.ListN.{length}
use borrow.Author.Tests.{ltb-true, ltb-false, le-ltb, not-false}
use Rattle.lists.specs.Lists.{Each, done, also, Pairwise, none, more, Permutation}
use Rattle.lists.specs.Tests.{all_below, among}
use Rattle.lists.proofs.Lists.{each_map, each-permuted, member-each}
use Rattle.lists.proofs.Tests.{and_left, and_right, below_at}
use Rattle.records.specs.Table.{table, row_of, field_of, RS}
use Rattle.records.specs.Record.{datable, mark, kind, since, value, told, in_range, agrees, ranges_hold, fault}
use Rattle.records.specs.Answers.{Accepted, or_else, refuse_if}
use Rattle.records.specs.Dossier.{records, scan}
use Rattle.records.specs.Raise.{Raised}
use Rattle.records.proofs.Record.{faultless, field-range, range-low}
use Rattle.records.proofs.Answers.{or_else-parts, parts-or_else, not-refuse_if, refuse_if-not}
use Rattle.records.proofs.Dossier.{scan-each, each-scan, first-each, each_first}
use Rattle.records.proofs.Raise.{raised-mark, raised-since, fault-stays}
use Rattle.records.proofs.Dated.{kind-fields, kind-field, told-value, other-mark}
use Rattle.station.specs.Current.{current, present, twins, readable}
use Rattle.station.specs.Parameters.{Parameters, parameters, technology, efficiency}
use Rattle.station.specs.Declared.{IsCurrent, CurrentOf, absent, standing}
use Rattle.station.specs.InForce.{counts}
use Rattle.station.proofs.Current.{current-found}
use Rattle.station.proofs.InForce.{counts-permuted, counts-raised, current-counts}
use Rattle.station.proofs.Twins.{twins-distinct, distinct-twins, distinct-permuted, twins-same}
use Rattle.station.proofs.Parameters.{parameters-permuted, same-parameters}
use Rattle.rules.specs.Fit.{field_fits, rule_fits, fits, unfit}
use Rattle.rules.specs.Curve.{curve_fits, fuel_holds, window_fits, forecast_fits}
use Rattle.rules.specs.Answer.{unsupported, IsAccepted}
use Rattle.rules.specs.Sound.{FitsIn, Sound}
use Rattle.rules.proofs.Fit.{fits-stays}
use Rattle.rules.proofs.Draws.{beyond_reading, answer-parts}

unfit-each : (l : List (List ℕ)) → unfit (technology (parameters l)) l ≡ Accepted → Each (FitsIn l) l
unfolding unfit
unfit-each l h =
    first-each
    (λ p r e. go (counts l r) (fits (technology (parameters l)) (mark r) r)
    (not-refuse_if (counts l r && not (fits (technology (parameters l)) (mark r) r)) 6 p e))
    0 l h
  where
    go : (b c : Bool) → b && not c ≡ false → b ≡ true → c ≡ true
    go true true e f = refl
    go true false e f = absurd (true≢false e)
    go false c e f = absurd (false≢true f)

pub each-unfit : {l : List (List ℕ)} → Each (FitsIn l) l → unfit (technology (parameters l)) l ≡ Accepted
unfolding unfit
each-unfit {l} e =
    each_first
    (λ p r f. refuse_if-not (counts l r && not (fits (technology (parameters l)) (mark r) r)) 6 p
    (go (counts l r) (fits (technology (parameters l)) (mark r) r) f))
    0 e
  where
    go : (b c : Bool) → (b ≡ true → c ≡ true) → b && not c ≡ false
    go true true g = refl
    go true false g = sym (g refl)
    go false c g = refl

-- ---- 7, 8, 9 and 17

held : (b : Bool) (n p : ℕ) → refuse_if (not b) n p ≡ Accepted → b ≡ true
held b n p h = not-false b (not-refuse_if (not b) n p h)

holding : (b : Bool) (n p : ℕ) → b ≡ true → refuse_if (not b) n p ≡ Accepted
holding b n p h = refuse_if-not (not b) n p (ap not h)

supported : (s : Parameters) (n : ℕ) → unsupported s n ≡ Accepted → (curve_fits s ≡ true) × (fuel_holds s ≡ true) × (window_fits s ≡ true)
    × (forecast_fits s ≡ true)
unfolding unsupported
supported s n h =
    let a = or_else-parts (refuse_if (not (curve_fits s)) 7 n) _ h in
    let b = or_else-parts (refuse_if (not (fuel_holds s)) 8 n) _ a.1 in
    let c = or_else-parts (refuse_if (not (window_fits s)) 9 n) (refuse_if (not (forecast_fits s)) 17 n) b.1 in
    (held (curve_fits s) 7 n a.0, held (fuel_holds s) 8 n b.0, held (window_fits s) 9 n c.0, held (forecast_fits s) 17 n c.1)

supporting : (s : Parameters) (n : ℕ) → curve_fits s ≡ true → fuel_holds s ≡ true → window_fits s ≡ true → forecast_fits s ≡ true → unsupported s n ≡ Accepted
unfolding unsupported
supporting s n p q r t =
    parts-or_else (refuse_if (not (curve_fits s)) 7 n) (or_else (refuse_if (not (fuel_holds s)) 8 n)
    (or_else (refuse_if (not (window_fits s)) 9 n) (refuse_if (not (forecast_fits s)) 17 n)))
    (holding (curve_fits s) 7 n p)
    (parts-or_else (refuse_if (not (fuel_holds s)) 8 n) (or_else (refuse_if (not (window_fits s)) 9 n) (refuse_if (not (forecast_fits s)) 17 n))
    (holding (fuel_holds s) 8 n q)
    (parts-or_else (refuse_if (not (window_fits s)) 9 n) (refuse_if (not (forecast_fits s)) 17 n) (holding (window_fits s) 9 n r)
    (holding (forecast_fits s) 17 n t)))

-- ---- accepted is: not too long, and of sound records

pub accepted-sound : (d : List ℕ) → IsAccepted d → (length d ≤ 60000) × Sound (records d)
unfolding readable
accepted-sound d h =
    let l : List (List ℕ) = records d in
    let s : Parameters = parameters l in
    let a = or_else-parts (readable d) (beyond_reading d) (sym (answer-parts d) ∙ h.clean) in
    let b = or_else-parts (refuse_if (ltb 60000 (length d)) 13 0) _ a.0 in
    let c = or_else-parts (scan 0 l) (twins 0 [] l) b.1 in
    let e = or_else-parts (refuse_if (not (s.has RS 0)) 5 (length d)) _ a.1 in
    let f = or_else-parts (unfit (technology s) l) (unsupported s (length d)) e.1 in
    let g = supported s (length d) f.1 in (
      ltb-false 60000 (length d) (not-refuse_if (ltb 60000 (length d)) 13 0 b.0),
      record {
        clean = scan-each 0 l c.0;
        distinct = twins-distinct 0 l c.1;
        station = held (s.has RS 0) 5 (length d) e.0;
        fit = unfit-each l f.0;
        curve = g.0;
        fuel = g.1;
        window = g.2;
        forecast = g.3;
      },
    )

pub sound-accepted : (d : List ℕ) → length d ≤ 60000 → Sound (records d) → IsAccepted d
unfolding readable
sound-accepted d n h =
    let l : List (List ℕ) = records d in
    let s : Parameters = parameters l in
    record {
      clean =
          answer-parts d
          ∙ parts-or_else (readable d) (beyond_reading d)
          (parts-or_else (refuse_if (ltb 60000 (length d)) 13 0) (or_else (scan 0 l) (twins 0 [] l))
          (refuse_if-not (ltb 60000 (length d)) 13 0 (le-ltb 60000 (length d) n))
          (parts-or_else (scan 0 l) (twins 0 [] l) (each-scan 0 h.clean) (distinct-twins 0 l h.distinct)))
          (parts-or_else (refuse_if (not (s.has RS 0)) 5 (length d)) (or_else (unfit (technology s) l) (unsupported s (length d)))
          (holding (s.has RS 0) 5 (length d) h.station)
          (parts-or_else (unfit (technology s) l) (unsupported s (length d))
          (each-unfit h.fit)
          (supporting s (length d) h.curve h.fuel h.window h.forecast)));
    }

-- ---- in another order

pub sound-permuted : {l m : List (List ℕ)} → Permutation l m → Sound l → Sound m
unfolding counts
sound-permuted {l} {m} p h =
    let f : parameters l ≡ parameters m = parameters-permuted p h.distinct in
    record {
      clean = each-permuted p h.clean;
      distinct = distinct-permuted p h.distinct;
      station = rw (← f) h.station;
      fit = each_map (λ r w. rw (← f, ← counts-permuted p h.distinct (since r) r) w) (each-permuted p h.fit);
      curve = rw (← f) h.curve;
      fuel = rw (← f) h.fuel;
      window = rw (← f) h.window;
      forecast = rw (← f) h.forecast;
    }

-- ---- in a raise

module _ {t : ℕ} where
  clean-stays : {l m : List (List ℕ)} → Pairwise (Raised t) l m → Each (λ r. fault r ≡ 0) l → Each (λ r. fault r ≡ 0) m
  clean-stays none e = done
  clean-stays (more q a) (also h e) = also (fault-stays q h) (clean-stays a e)

  fit_stays : {x y : List (List ℕ)} → Pairwise (Raised t) x y → technology (parameters x) ≡ t → {l m : List (List ℕ)} → Pairwise (Raised t) l m
      → Each (FitsIn x) l → Each (FitsIn y) m
  unfolding counts
  fit_stays b w none e = done
  fit_stays {x} {y} b w (more {a = r} {b = s} q a) (also h e) =
      also {a = s}
      (λ c. rw (← same-parameters b, w, ← raised-mark q) (fits-stays q (rw w at (h (counts-raised q b (since r) ∙ rw (raised-since q) c)))))
      (fit_stays b w a e)

pub sound-raised : {l m : List (List ℕ)} → Pairwise (Raised (technology (parameters l))) l m → Sound l → Sound m
sound-raised {l} {m} a h =
    record {
      clean = clean-stays a h.clean;
      distinct = twins-distinct 0 m (sym (twins-same a none 0) ∙ distinct-twins 0 l h.distinct);
      station = rw (← same-parameters a) h.station;
      fit = fit_stays a refl a h.fit;
      curve = rw (← same-parameters a) h.curve;
      fuel = rw (← same-parameters a) h.fuel;
      window = rw (← same-parameters a) h.window;
      forecast = rw (← same-parameters a) h.forecast;
    }

-- ---- a current record that is there: its fields are in their ranges and fit the technology

module _ {l : List (List ℕ)} (e : Each (λ r. fault r ≡ 0) l) (k n : ℕ) (there : (parameters l).has k n ≡ true) where
  current-there : IsCurrent k n l (current k n l)
  unfolding parameters present
  current-there = go (current k n l) (current-found k n l) there
    where
      go : (r : List ℕ) → CurrentOf k n l r → ltb 0 (length r) ≡ true → IsCurrent k n l r
      go r (standing q) e = q
      go r (absent p w) e = absurd (false≢true (rw p at e))

  pub clean-range : (i : ℕ) → i < length (row_of k).fields → in_range (field_of k i) (told k i (current k n l)) ≡ true
  unfolding kind
  clean-range = go (current k n l) current-there
    where
      go : (r : List ℕ) → IsCurrent k n l r → (i : ℕ) → i < length (row_of k).fields → in_range (field_of k i) (told k i r) ≡ true
      go r q i p =
          rw (told-value k i r q.marked, ← kind-field (mark r) k i q.marked)
          (field-range r (faultless r (member-each q.member e)) i (rw (kind-fields (mark r), q.marked) p))

  pub clean-agrees : datable k ≡ false → agrees k (current k n l) ≡ true
  unfolding ranges_hold
  clean-agrees other = go (current k n l) current-there
    where
      go : (r : List ℕ) → IsCurrent k n l r → agrees k r ≡ true
      go r q =
          rw (← other-mark r other q.marked)
          (and_right (all_below (length (row_of (mark r)).fields) (λ i. in_range (field_of (mark r) i) (value (mark r) i r))) (agrees (mark r) r)
          (faultless r (member-each q.member e)).ranges)

module _ {l : List (List ℕ)} (h : Sound l) (k n : ℕ) (there : (parameters l).has k n ≡ true) where
  pub its-range : (i : ℕ) → i < length (row_of k).fields → in_range (field_of k i) (told k i (current k n l)) ≡ true
  its-range = clean-range h.clean k n there

  -- the current record, of any hour, counts at some hour
  its-fit : fits (technology (parameters l)) (mark (current k n l)) (current k n l) ≡ true
  its-fit =
      let q = current-there h.clean k n there in
      member-each q.member h.fit (current-counts q)

  pub fits_field : (i : ℕ) → i < length (row_of k).fields → field_fits (technology (parameters l)) (field_of k i) (told k i (current k n l)) ≡ true
  unfolding fits kind
  fits_field i p =
      let t : ℕ = technology (parameters l) in
      let r : List ℕ = current k n l in
      let q = current-there h.clean k n there in
      let f : ℕ → Bool = λ j. field_fits t (field_of (mark r) j) (value (mark r) j r) in
      let m : ℕ = length (row_of (mark r)).fields in
      rw (told-value k i r q.marked, ← kind-field (mark r) k i q.marked)
      (below_at m f (and_left (all_below m f) (rule_fits t (mark r) r)
      (and_right (among t (row_of (mark r)).technologies) (all_below m f && rule_fits t (mark r) r) its-fit)) i (rw (kind-fields (mark r), q.marked) p))

-- what the exact level of a storage asks for
pub efficient : {l : List (List ℕ)} → Sound l → technology (parameters l) ≡ 3 → 500 ≤ efficiency (parameters l)
unfolding parameters field_fits table row_of field_of among
efficient {l} h t =
    let x : ℕ = told RS 7 (current RS 0 l) in
    let f : ltb 0 x ≡ true = rw t at (fits_field h RS 0 h.station 7 (lit≤ tt)) in
    range-low (field_of RS 7) x (its-range h RS 0 h.station 7 (lit≤ tt)) (ltb-true 0 x f)
