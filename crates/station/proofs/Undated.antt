-- Records without a first hour: "The old marks count from hour 0."
use mathlib.Core.Path.{◌≡◌, refl}
use mathlib.Core.Bool.{false}
use mathlib.Core.List.{List}
use Prim.Native.Nat.{ℕ}
use native.Mathlib.Nat.{le_refl}
use native.Mathlib.Omega.{arith}
use lib.Dec.{leb, eqb}
use borrow.Author.Tests.{le-leb}
use Rattle.lists.specs.Lists.{Each}
use Rattle.lists.proofs.Lists.{each_map, those-all}
use Rattle.records.specs.Record.{mark, is_dated, kind_of, kind, since, issue, key_of}
use Rattle.station.specs.Current.{current}
use Rattle.station.specs.InForce.{come, counts_at, counts}

pub undated-since : (r : List ℕ) → is_dated (mark r) ≡ false → since r ≡ 0
unfolding since
undated-since r e = rw e refl

pub undated-kind : (r : List ℕ) → is_dated (mark r) ≡ false → kind r ≡ mark r
unfolding kind kind_of
undated-kind r e = rw e refl

-- where no other record is, all have come at every hour
pub undated-come : (h : ℕ) {l : List (List ℕ)} → Each (λ r. is_dated (mark r) ≡ false) l → come h l ≡ l
unfolding come
undated-come h e = those-all (λ r. leb (since r) h) (each_map (λ r d. le-leb (since r) h (omega (arith, undated-since r d))) e)

-- and a record counts if it has the issue of the current one
pub undated-counts : {l : List (List ℕ)} → Each (λ r. is_dated (mark r) ≡ false) l → (r : List ℕ)
    → counts l r ≡ eqb (issue r) (issue (current (kind r) (key_of r) l))
unfolding counts counts_at
undated-counts u r = rw (le-leb (since r) (since r) (le_refl _), undated-come (since r) u) refl
