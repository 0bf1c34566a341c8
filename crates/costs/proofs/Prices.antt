-- The prices of a window: in an array's last places, each in its range.
use mathlib.Core.Path.{◌≡◌, refl, ap, sym, subst, ◌∙◌}
use mathlib.Core.Bool.{true}
use mathlib.Core.List.{List, [], ◌∷◌}
use Prim.Native.Nat.{ℕ, zero, suc, ◌+◌, ◌-◌, ◌≤◌, ◌<◌}
use native.Mathlib.Nat.{le_refl}
use native.Mathlib.Numerals.{add-one}
use native.Mathlib.Omega.{arith}
use lib.Dec.{lit≤}
use lib.ListN.{length, take, drop, set, length-set, drop_of_length-le}
use lib.Seq.{drop-cons, get_or-set_same, drop-set-lt, take_all}
use Rattle.lists.specs.Lists.{Each, done, also}
use Rattle.lists.proofs.Lists.{member-each}
use Rattle.lists.proofs.Tests.{between-low}
use Rattle.fields.specs.Numbers.{biased}
use Rattle.fields.proofs.Numbers.{number-nil}
use Rattle.records.specs.Table.{Field, table, row_of, field_of, price, HR, FP}
use Rattle.records.specs.Record.{mark, kind, offset, read, value, told, in_range, fault}
use Rattle.records.proofs.Record.{faultless, field-range}
use Rattle.records.proofs.Dated.{kind-fields, kind-field, told-value, told-nil}
use Rattle.station.specs.Current.{current}
use Rattle.station.specs.Declared.{IsCurrent, CurrentOf, absent, standing}
use Rattle.station.specs.Parameters.{amounts, hour_price, place_price}
use Rattle.station.proofs.Current.{current-found}
use Rattle.station.proofs.Parameters.{amount-high}
use Rattle.formulas.specs.Sums.{list_to}
use Rattle.arithmetic.specs.Highest.{PriceIn}

pub length-list_to : (n : ℕ) (f : ℕ → ℕ) → length (list_to n f) ≡ n
unfolding list_to
length-list_to zero f = refl
length-list_to (suc n) f = ap suc (length-list_to n f)

pub each-list_to : {P : ℕ → Type 0} (n : ℕ) (f : ℕ → ℕ) → ((k : ℕ) → P (f k)) → Each P (list_to n f)
unfolding list_to
each-list_to zero f h = done
each-list_to (suc n) f h = also (h (suc n)) (each-list_to n f h)

set_front : (l : List ℕ) (i x : ℕ) → i < length l → drop i (set l i x) ≡ x ∷ drop (suc i) l
set_front l i x h =
    drop-cons (set l i x) i 0 (rw (length-set l i x) h)
    ∙ rw (get_or-set_same l i x 0 h, drop-set-lt (suc i) l i x (le_refl (suc i))) refl

-- ---- an array of c places

pub prices-none : (c : ℕ) (f : ℕ → ℕ) (l : List ℕ) → length l ≡ c → drop (c - 0) l ≡ list_to 0 f
unfolding list_to
prices-none c f l h = drop_of_length-le l {i = c - 0} (omega arith)

-- one more price, in the place before
pub prices-more : (c : ℕ) (f : ℕ → ℕ) (l : List ℕ) (n i x : ℕ) → length l ≡ c → n < c → i ≡ c - (n + 1) → drop (c - n) l ≡ list_to n f → x ≡ f (n + 1)
    → drop (c - (n + 1)) (set l i x) ≡ list_to (n + 1) f
unfolding list_to
prices-more c f l n i x w h p e g =
    let q : c - n ≡ suc i = omega (arith, p) in
    rw (← p, set_front l i x (omega arith), ← q, e, add-one n, rw (add-one n) at g) refl

-- the part of the array that holds them
pub prices-part : (c : ℕ) (f : ℕ → ℕ) (l : List ℕ) (w : ℕ) → w ≤ c → drop (c - w) l ≡ list_to w f → take (c - (c - w)) (drop (c - w) l) ≡ list_to w f
prices-part c f l w h e = rw e (take_all (c - (c - w)) (list_to w f) (omega (arith, length-list_to w f)))

-- it is as long as the window, and each price is in its range
pub prices-ready : (c : ℕ) (f : ℕ → ℕ) (l : List ℕ) (w : ℕ) → w ≤ c → drop (c - w) l ≡ list_to w f → ((k : ℕ) → PriceIn (f k))
    → (length (take (c - (c - w)) (drop (c - w) l)) ≡ w) × Each PriceIn (take (c - (c - w)) (drop (c - w) l))
prices-ready c f l w h e p = rw (prices-part c f l w h e) (length-list_to w f, each-list_to w f p)

-- ---- a mark whose field 1 is a price

module _ (k : ℕ) (is-price : field_of k 1 ≡ price) (two : 1 < length (row_of k).fields) where
  price-range : {l : List (List ℕ)} → Each (λ r. fault r ≡ 0) l → (n : ℕ) (r : List ℕ) → IsCurrent k n l r → in_range (field_of k 1) (told k 1 r) ≡ true
  unfolding kind
  price-range e n r q =
      rw (told-value k 1 r q.marked, ← kind-field (mark r) k 1 q.marked)
      (field-range r (faultless r (member-each q.member e)) 1 (rw (kind-fields (mark r), q.marked) two))

  price-low : {l : List (List ℕ)} → Each (λ r. fault r ≡ 0) l → (n : ℕ) → 2147283648 ≤ told k 1 (current k n l)
  unfolding value read in_range biased
  price-low {l} e n = go (current k n l) (current-found k n l)
    where
      go : (r : List ℕ) → CurrentOf k n l r → 2147283648 ≤ told k 1 r
      go r (absent p w) =
          rw (p, told-nil k 1)
          (subst (λ (f : Field). 2147283648 ≤ read f (offset k 1) []) (sym is-price) (rw (number-nil (offset k 1) 4) (lit≤ tt)))
      go r (standing q) =
          between-low 2147283648 2147683648 (told k 1 r) (subst (λ (f : Field). in_range f (told k 1 r) ≡ true) is-price (price-range e n r q))

  -- a price that is there or not is in its range
  pub price-in : {l : List (List ℕ)} → Each (λ r. fault r ≡ 0) l → (n : ℕ) → PriceIn ((amounts l).of k n 1)
  unfolding amounts
  price-in {l} e n =
      record { low = rw is-price (price-low e n); high = subst (λ (f : Field). (amounts l).of k n 1 ≤ f.highest) is-price (amount-high e k n 1) }

pub hour-in : {l : List (List ℕ)} → Each (λ r. fault r ≡ 0) l → (n : ℕ) → PriceIn (hour_price (amounts l) n)
unfolding field_of row_of table
hour-in = price-in HR refl (lit≤ tt)

pub place-in : {l : List (List ℕ)} → Each (λ r. fault r ≡ 0) l → (n : ℕ) → PriceIn (place_price (amounts l) n)
unfolding field_of row_of table
place-in = price-in FP refl (lit≤ tt)
