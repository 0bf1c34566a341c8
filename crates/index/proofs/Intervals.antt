-- The records of intervals: when one lies at the front of a rest, what it says, and the sums over the slots of all.
use mathlib.Core.Path.{◌≡◌, refl, ap, sym, ◌∙◌}
use mathlib.Core.Bool.{Bool, true, false, cond, ◌&&◌, false≢true}
use mathlib.Core.List.{List}
use Prim.Native.Nat.{ℕ, ◌+◌, ◌≤◌, ◌<◌}
use native.Mathlib.Omega.{arith}
use lib.Dec.{leb, eqb}
use lib.ListN.{length, drop}
use borrow.Author.Tests.{le-ltb, le-leb, lt-leb, leb-true, eq-eqb, ne_eqb, eqb-true}
use Rattle.lists.specs.Tests.{all_below, between}
use Rattle.lists.proofs.Tests.{and_left, and_right, and-true, split}
use Rattle.fields.specs.Numbers.{number, biased}
use Rattle.fields.proofs.Numbers.{number-drop}
use Rattle.records.specs.Table.{table, row_of, field_of, CH}
use Rattle.records.specs.Record.{mark_in, mark, widths, size, offset_in, offset, read, value, in_range, agrees, ranges_hold, fields_at}
use Rattle.records.specs.MarkShapes.{begins}
use Rattle.records.specs.Walk.{Record, found}
use Rattle.records.proofs.EveryMark.{not-mark}
use Rattle.records.proofs.Read.{found-known, begun}
use Rattle.std.specs.Prelude.{Err}
use Rattle.index.specs.declared.Fault.TheVariants.{OutsideRange}
use Rattle.index.specs.Entries.{reading_as}
use Rattle.index.specs.Intervals.{interval_as, no_interval, is_interval, interval_at, held_price, held_energy}

-- ---- one record

pub ch-size : size CH ≡ 16
unfolding size widths row_of table fields_at
ch-size = refl

-- its letters
pub ch-letters : (s : List ℕ) → begins s 67 72 ≡ eqb (mark s) CH
unfolding mark_in row_of table
ch-letters s =
    split (begins s 67 72)
    (λ e. e ∙ sym (eq-eqb (mark s) CH (begun 67 72 s e)))
    (λ e. e ∙ sym (ne_eqb (mark s) CH (not-mark CH s refl e)))

-- its ranges
ch-ranges : (s : List ℕ) → ranges_hold CH s ≡ (between 1 2016 (number 6 2 s) && between 2147283648 2147683648 (biased (number 8 4 s)))
    && between 0 1000000 (number 12 4 s)
unfolding ranges_hold all_below in_range agrees value read offset offset_in field_of row_of table fields_at
ch-ranges s = and-true _

-- a CH without fault: long enough, and each field in its range
pub record Fair (s : List ℕ) : Type 0 where
  pub long : 16 ≤ length s
  pub marked : mark s ≡ CH
  pub ranged : ranges_hold CH s ≡ true
  pub first : 1 ≤ number 6 2 s
  pub last : number 6 2 s ≤ 2016
  pub price-high : biased (number 8 4 s) ≤ 2147683648
  pub energy-high : number 12 4 s ≤ 1000000

pub fair : (s : List ℕ) → is_interval s ≡ true → Fair s
unfolding is_interval between
fair s e =
    let here = and_left (leb (size CH) (length s) && eqb (mark s) CH) (ranges_hold CH s) e in
    let ranged = and_right (leb (size CH) (length s) && eqb (mark s) CH) (ranges_hold CH s) e in
    let all = sym (ch-ranges s) ∙ ranged in
    let two = and_left (between 1 2016 (number 6 2 s) && between 2147283648 2147683648 (biased (number 8 4 s))) (between 0 1000000 (number 12 4 s)) all in
    let one = and_left (between 1 2016 (number 6 2 s)) (between 2147283648 2147683648 (biased (number 8 4 s))) two in
    let price = and_right (between 1 2016 (number 6 2 s)) (between 2147283648 2147683648 (biased (number 8 4 s))) two in
    let energy = and_right (between 1 2016 (number 6 2 s) && between 2147283648 2147683648 (biased (number 8 4 s))) (between 0 1000000 (number 12 4 s)) all in
    record {
      long = omega (arith, leb-true (size CH) (length s) (and_left (leb (size CH) (length s)) (eqb (mark s) CH) here), ch-size);
      marked = eqb-true (mark s) CH (and_right (leb (size CH) (length s)) (eqb (mark s) CH) here);
      ranged = ranged;
      first = leb-true 1 (number 6 2 s) (and_left (leb 1 (number 6 2 s)) (leb (number 6 2 s) 2016) one);
      last = leb-true (number 6 2 s) 2016 (and_right (leb 1 (number 6 2 s)) (leb (number 6 2 s) 2016) one);
      price-high =
          leb-true (biased (number 8 4 s)) 2147683648
          (and_right (leb 2147283648 (biased (number 8 4 s))) (leb (biased (number 8 4 s)) 2147683648) price);
      energy-high = leb-true (number 12 4 s) 1000000 (and_right (leb 0 (number 12 4 s)) (leb (number 12 4 s) 1000000) energy);
    }

-- the tests that the code makes, of a rest that is long enough
pub interval-tests : (s : List ℕ) {k a b p q e : Bool} → 16 ≤ length s → k ≡ begins s 67 72 → a ≡ leb 1 (number 6 2 s) → b ≡ leb (number 6 2 s) 2016
    → p ≡ leb 2147283648 (biased (number 8 4 s)) → q ≡ leb (biased (number 8 4 s)) 2147683648 → e ≡ leb (number 12 4 s) 1000000
    → k && a && b && (p && q && e) ≡ is_interval s
unfolding is_interval between
interval-tests s {k} {a} {b} {p} {q} {e} long ek ea eb ep eq ee =
    turned k a b
    ∙ sym (rw (
      le-leb (size CH) (length s) (omega (arith, long, ch-size)),
      ← ch-letters s,
      ch-ranges s,
      le-leb 0 (number 12 4 s) (omega arith),
      ← ek,
      ← ea,
      ← eb,
      ← ep,
      ← eq,
      ← ee,
    ) refl)
  where
    turned : (x y z : Bool) → x && y && z && (p && q && e) ≡ (true && x) && (((y && z) && (p && q)) && (true && e))
    turned true true true = refl
    turned true true false = refl
    turned true false z = refl
    turned false y z = refl

-- it is what is found
pub interval-found : (s : List ℕ) → is_interval s ≡ true → found s ≡ Record CH 16
interval-found s e =
    let f = fair s e in
    found-known CH s (omega (arith, f.long)) f.marked refl ∙ rw (ch-size, le-ltb (length s) 16 f.long, f.ranged) refl

-- a CH that is long enough and isn't fair is out of range
pub unfair : (s : List ℕ) → begins s 67 72 ≡ true → is_interval s ≡ false → 16 ≤ length s → reading_as CH s ≡ Err OutsideRange
unfolding is_interval reading_as
unfair s e f h =
    split (ranges_hold CH s)
    (λ t. absurd (false≢true (sym f ∙ rw (le-leb (size CH) (length s) (omega (arith, h, ch-size)), ← ch-letters s, e, t) refl)))
    (λ t. rw (le-ltb (length s) (size CH) (omega (arith, h, ch-size)), t) refl)

-- what is read at a place tells whether one lies there
pub interval-none : (d : List ℕ) (at : ℕ) → (interval_at d at).n ≡ 0 → is_interval (drop at d) ≡ false
unfolding interval_at interval_as
interval-none d at e =
    split (is_interval (drop at d))
    (λ t. absurd (omega (arith, (fair (drop at d) t).first, ap (λ (b : Bool). (cond b (interval_as (drop at d)) no_interval).n) (sym t) ∙ e)))
    (λ f. f)

pub interval-there : (d : List ℕ) (at : ℕ) → ((interval_at d at).n ≡ 0 → ⊥) → is_interval (drop at d) ≡ true
unfolding interval_at
interval-there d at z =
    split (is_interval (drop at d))
    (λ t. t)
    (λ f. absurd (z (ap (λ (b : Bool). (cond b (interval_as (drop at d)) no_interval).n) f)))

-- what is read there, each number once
pub interval-read : (d : List ℕ) (at : ℕ) {n issue price energy : ℕ} → is_interval (drop at d) ≡ true → n ≡ number 6 2 (drop at d)
    → issue ≡ number 2 4 (drop at d) → price ≡ biased (number 8 4 (drop at d)) → energy ≡ number 12 4 (drop at d)
    → record { n = n; issue = issue + 1; price = price; energy = energy } ≡ interval_at d at
unfolding interval_at interval_as
interval-read d at e a b c f = rw (e, a, b, c, f) refl

pub interval-unread : (d : List ℕ) (at : ℕ) → is_interval (drop at d) ≡ false → no_interval ≡ interval_at d at
unfolding interval_at
interval-unread d at e = rw e refl

pub interval-cut : (s : List ℕ) → length s < 16 → is_interval s ≡ false
unfolding is_interval
interval-cut s h = rw (lt-leb (size CH) (length s) (omega (arith, h, ch-size))) refl

-- ---- what a slot holds

-- the numbers of the record at a place are those that a slot with its value holds
module _ (d : List ℕ) (at : ℕ) where
  pub price-held : held_price d (at + 1) ≡ biased (number 8 4 (drop at d))
  unfolding held_price
  price-held =
      rw (ne_eqb (at + 1) 0 (λ z. omega arith)) (ap biased (ap (λ (o : ℕ). number o 4 d) (omega arith) ∙ sym (number-drop at 8 4 d)))

  pub energy-held : held_energy d (at + 1) ≡ number 12 4 (drop at d)
  unfolding held_energy
  energy-held = rw (ne_eqb (at + 1) 0 (λ z. omega arith)) (ap (λ (o : ℕ). number o 4 d) (omega arith) ∙ sym (number-drop at 12 4 d))

pub price-none : (d : List ℕ) → held_price d 0 ≡ 0
unfolding held_price
price-none d = refl

pub energy-none : (d : List ℕ) → held_energy d 0 ≡ 0
unfolding held_energy
energy-none d = refl
