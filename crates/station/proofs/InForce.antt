-- Laws of what counts at an hour.
use mathlib.Core.Path.{◌≡◌, refl, ap, sym, subst, ◌∙◌}
use mathlib.Core.Bool.{Bool, true, false, cond, ◌&&◌, true≢false}
use mathlib.Core.List.{List, [], ◌∷◌}
use Prim.Native.Nat.{ℕ, ◌≤◌, ◌<◌}
use native.Mathlib.Nat.{le_refl}
use native.Mathlib.Omega.{arith}
use lib.Dec.{leb, eqb}
use borrow.Author.Tests.{leb-true, leb-false, le-leb, eqb-true, eq-eqb}
use Rattle.lists.specs.Lists.{Each, done, also, Pairwise, Permutation, Member, those}
use Rattle.lists.proofs.Lists.{each_map, each_of, member-each, those-each, each-those, those-test, those-permuted, those-pairwise, those-all}
use Rattle.lists.proofs.Tests.{split, and_left, and_right, and_both}
use Rattle.fields.specs.Numbers.{number}
use Rattle.fields.proofs.Numbers.{Byte, number_lt}
use Rattle.records.specs.Record.{mark, is_dated, kind, datable, since, issue, key_of}
use Rattle.records.specs.Raise.{Raised}
use Rattle.records.proofs.Dated.{since-zero}
use Rattle.records.proofs.Raise.{raised-since, raised-kind, raised-key, raised-issue}
use Rattle.station.specs.Current.{matches, better, current_from, current}
use Rattle.station.specs.InForce.{come, counts_at, counts}
use Rattle.station.specs.Declared.{IsCurrent, CurrentOf, absent, standing, Distinct, Counting}
use Rattle.station.proofs.Current.{matches-kind, matches-self, current-found, current-raised}
use Rattle.station.proofs.Twins.{distinct-those, current-permuted}

-- ---- what holds of all the records holds of those in force

pub come-each : {P : List ℕ → Type 0} (h : ℕ) {l : List (List ℕ)} → Each P l → Each P (come h l)
unfolding come
come-each h e = those-each (λ r. leb (since r) h) e

pub come-distinct : (h : ℕ) (l : List (List ℕ)) → Distinct l → Distinct (come h l)
unfolding come
come-distinct h l d = distinct-those (λ r. leb (since r) h) l d

pub come-permuted : (h : ℕ) {l m : List (List ℕ)} → Permutation l m → Permutation (come h l) (come h m)
unfolding come
come-permuted h p = those-permuted (λ r. leb (since r) h) p

pub come-raised : (h : ℕ) {t : ℕ} {l m : List (List ℕ)} → Pairwise (Raised t) l m → Pairwise (Raised t) (come h l) (come h m)
unfolding come
come-raised h a = those-pairwise (λ r. leb (since r) h) (λ r s q. ap (λ (x : ℕ). leb x h) (raised-since q)) a

-- at the last hour all have come
since-most : (r : List ℕ) → Each Byte r → since r ≤ 4294967295
unfolding since
since-most r e = go (is_dated (mark r))
  where
    go : (b : Bool) → cond b (number 6 4 r) 0 ≤ 4294967295
    go true = omega (arith, number_lt 6 4 e)
    go false = omega arith

pub come-last : {l : List (List ℕ)} → Each (Each Byte) l → come 4294967295 l ≡ l
unfolding come
come-last e = those-all (λ r. leb (since r) 4294967295) (each_map (λ r b. le-leb (since r) 4294967295 (since-most r b)) e)

-- ---- "Records of other marks count when current"

-- where a test holds of every record of a kind and key, the current one among those that it holds of is the current one of all
module _ (k n : ℕ) (f : List ℕ → Bool) where
  all_from : (b : List ℕ) {l : List (List ℕ)} → Each (λ r. matches k n r ≡ true → f r ≡ true) l → current_from k n b (those f l) ≡ current_from k n b l
  unfolding those current_from better
  all_from b done = refl
  all_from b (also {a = r} {l = l} t e) = go (f r) refl (all_from (better k n b r) e)
    where
      other : f r ≡ false → matches k n r ≡ false
      other w = split (matches k n r) (λ m. absurd (true≢false (sym (t m) ∙ w))) (λ m. m)

      go : (x : Bool) → f r ≡ x → current_from k n (better k n b r) (those f l) ≡ current_from k n (better k n b r) l
          → current_from k n b (cond x (r ∷ those f l) (those f l)) ≡ current_from k n (better k n b r) l
      go true w z = z
      go false w z = subst (λ (c : List ℕ). current_from k n c (those f l) ≡ current_from k n (better k n b r) l) (ap (λ (y : Bool). cond (y && leb (issue
          b) (issue r)) r b) (other w)) z

  pub all-those : {l : List (List ℕ)} → Each (λ r. matches k n r ≡ true → f r ≡ true) l → current k n (those f l) ≡ current k n l
  unfolding current
  all-those e = all_from [] e

  -- the same of every record of a kind
  pub current-those : ((r : List ℕ) → kind r ≡ k → f r ≡ true) → (l : List (List ℕ)) → current k n (those f l) ≡ current k n l
  current-those all l = all-those (each_of l (λ r m. all r (matches-kind k n r m)))

-- a record of another kind has come at every hour
pub come-always : (h k n : ℕ) → datable k ≡ false → (l : List (List ℕ)) → current k n (come h l) ≡ current k n l
unfolding come
come-always h k n other l = current-those k n (λ r. leb (since r) h) (λ r e. rw (since-zero r (rw e other)) (le-leb 0 h (omega arith))) l

-- a record of such a kind counts at some hour exactly if it has the issue of the current one
pub counts-other : (l : List (List ℕ)) (r : List ℕ) → datable (kind r) ≡ false → counts l r ≡ eqb (issue r) (issue (current (kind r) (key_of r) l))
unfolding counts counts_at
counts-other l r other = rw (le-leb (since r) (since r) (le_refl _), come-always (since r) (kind r) (key_of r) other l) refl

-- ---- what counts is the same in another order and in a raise

pub counts-permuted : {l m : List (List ℕ)} → Permutation l m → Distinct l → (h : ℕ) (r : List ℕ) → counts_at h l r ≡ counts_at h m r
unfolding counts_at
counts-permuted {l} p d h r = rw (current-permuted (kind r) (key_of r) (come-permuted h p) (come-distinct h l d)) refl

pub counts-raised : {t : ℕ} {r s : List ℕ} {l m : List (List ℕ)} → Raised t r s → Pairwise (Raised t) l m → (h : ℕ) → counts_at h l r ≡ counts_at h m s
unfolding counts_at
counts-raised {r = r} q a h =
    rw (← raised-since q, ← raised-kind q, ← raised-key q, ← raised-issue q, ← raised-issue (current-raised (kind r) (key_of r) (come-raised h a))) refl

-- ---- a record counts at some hour exactly if every higher issue of its kind and key has a later first hour

module _ (all : List (List ℕ)) (r : List ℕ) (member : Member r all) where
  -- counting at an hour: no higher issue has come
  highest-at : (h : ℕ) → counts_at h all r ≡ true → Each (λ s. matches (kind r) (key_of r) s ≡ true → issue r < issue s → h < since s) all
  unfolding counts_at come
  highest-at h e = go (current-found (kind r) (key_of r) (come h all))
    where
      came : leb (since r) h ≡ true
      came = and_left (leb (since r) h) (eqb (issue r) (issue (current (kind r) (key_of r) (come h all)))) e

      same : issue r ≡ issue (current (kind r) (key_of r) (come h all))
      same = eqb-true (issue r) (issue (current (kind r) (key_of r) (come h all))) (and_right (leb (since r) h) (eqb (issue r) (issue (current (kind r)
          (key_of r) (come h all)))) e)

      later : (s : List ℕ) → (leb (since s) h ≡ true → matches (kind r) (key_of r) s ≡ true → issue s ≤ issue r) → matches (kind r) (key_of r) s ≡ true
          → issue r < issue s → h < since s
      later s f m i = split (leb (since s) h) (λ w. absurd (omega (arith, f w m))) (λ w. leb-false (since s) h w)

      go : CurrentOf (kind r) (key_of r) (come h all) (current (kind r) (key_of r) (come h all)) → Each (λ s. matches (kind r) (key_of r) s ≡ true
          → issue r < issue s → h < since s) all
      go (absent p q) = absurd (true≢false (sym (matches-self r) ∙ member-each member (each-those (λ s. leb (since s) h) all q) came))
      go (standing q) = each_map (λ s f. later s (λ w m. rw same (f w m))) (each-those (λ s. leb (since s) h) all q.highest)

  -- at its first hour, if no higher issue has come by then
  pub declared-counts : Counting all r → counts all r ≡ true
  unfolding counts counts_at come
  declared-counts e =
      and_both (leb (since r) (since r)) _ (le-leb (since r) (since r) (le_refl _))
      (go (current (kind r) (key_of r) (come (since r) all)) (current-found (kind r) (key_of r) (come (since r) all)))
    where
      f : List ℕ → Bool
      f s = leb (since s) (since r)

      own : f r ≡ true
      own = le-leb (since r) (since r) (le_refl _)

      go : (c : List ℕ) → CurrentOf (kind r) (key_of r) (come (since r) all) c → eqb (issue r) (issue c) ≡ true
      go c (absent p q) = absurd (true≢false (sym (matches-self r) ∙ member-each member (each-those f all q) own))
      go c (standing q) =
          let low : issue r ≤ issue c = member-each member (each-those f all q.highest) own (matches-self r) in
          let m : matches (kind r) (key_of r) c ≡ true = unfold matches in and_both _ _ (eq-eqb (kind c) (kind r) q.marked) (eq-eqb (key_of c) (key_of r) q.keyed) in
          let came : since c ≤ since r = leb-true (since c) (since r) (member-each q.member (those-test f all)) in
          let high : issue r < issue c → since r < since c = member-each q.member (those-each f e) m in
          eq-eqb (issue r) (issue c) (equal (issue r) (issue c) low (λ w. omega (arith, high w, came)))
        where
          equal : (a b : ℕ) → a ≤ b → (a < b → ⊥) → a ≡ b
          equal a b p q = omega (arith, q)

  -- if it counts at any hour, then at its first
  pub counts_some : (h : ℕ) → counts_at h all r ≡ true → counts all r ≡ true
  counts_some h e =
      let came : since r ≤ h = leb-true (since r) h (unfold counts_at in and_left (leb (since r) h) _ e) in
      declared-counts (each_map (λ s f m i. omega (arith, f m i)) (highest-at h e))

  pub counts-declared : counts all r ≡ true → Counting all r
  unfolding counts
  counts-declared e = highest-at (since r) e

-- the current record of all counts at some hour
pub current-counts : {k n : ℕ} {l : List (List ℕ)} {r : List ℕ} → IsCurrent k n l r → counts l r ≡ true
current-counts {k} {n} {l} {r} q =
    declared-counts l r q.member (rw (q.marked, q.keyed) (each_map (λ s f m i. absurd (omega (arith, f m))) q.highest))
