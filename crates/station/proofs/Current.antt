-- The current record, declared: one of the records, of the kind and key, and none of them has a higher issue.
use mathlib.Core.Path.{◌≡◌, refl, sym, ◌∙◌}
use mathlib.Core.Bool.{Bool, true, false, cond, ◌&&◌, true≢false}
use mathlib.Core.List.{List, [], ◌∷◌}
use Prim.Native.Nat.{ℕ, ◌≤◌, ◌<◌}
use native.Mathlib.Nat.{le_refl, le_trans}
use native.Mathlib.Omega.{arith}
use lib.Dec.{leb, eqb}
use lib.ListN.{length}
use borrow.Author.Tests.{leb-true, leb-false, eqb-true, eq-eqb, lt-ltb}
use Rattle.lists.specs.Lists.{Each, done, also, Pairwise, none, more, here, there}
use Rattle.lists.proofs.Lists.{each_map, member-each}
use Rattle.lists.proofs.Tests.{and_left, and_right, cond-relates}
use Rattle.fields.specs.Numbers.{number}
use Rattle.records.specs.Record.{mark, kind, key_width, issue, key_of}
use Rattle.records.specs.Answers.{or_else, refuse_if, Refused}
use Rattle.records.specs.Raise.{Raised}
use Rattle.records.proofs.Dated.{kind-fields}
use Rattle.records.proofs.Raise.{raised-kind, raised-issue, raised-key, raised-nil}
use Rattle.station.specs.Current.{matches, better, current_from, current, readable, lookup_bytes}
use Rattle.station.specs.Declared.{IsCurrent, CurrentOf, absent, standing}

pub matches-kind : (k n : ℕ) (r : List ℕ) → matches k n r ≡ true → kind r ≡ k
unfolding matches
matches-kind k n r e = eqb-true (kind r) k (and_left (eqb (kind r) k) (eqb (key_of r) n) e)

pub matches-key : (k n : ℕ) (r : List ℕ) → matches k n r ≡ true → key_of r ≡ n
unfolding matches
matches-key k n r e = eqb-true (key_of r) n (and_right (eqb (kind r) k) (eqb (key_of r) n) e)

pub matches-self : (r : List ℕ) → matches (kind r) (key_of r) r ≡ true
unfolding matches
matches-self r = rw (eq-eqb (kind r) (kind r) refl, eq-eqb (key_of r) (key_of r) refl) refl

-- the best of some records after one before them: that one, and none that matches has its issue or a higher; or a record that is current
data Best (k n : ℕ) (b : List ℕ) (l : List (List ℕ)) (r : List ℕ) : Type 0 where
  kept : r ≡ b → Each (λ s. matches k n s ≡ true → issue s < issue b) l → Best k n b l r
  taken : issue b ≤ issue r → IsCurrent k n l r → Best k n b l r

best-from : (k n : ℕ) (b : List ℕ) (l : List (List ℕ)) → Best k n b l (current_from k n b l)
unfolding current_from better
best-from k n b [] = kept refl done
best-from k n b (r ∷ l) = go (matches k n r) refl (leb (issue b) (issue r)) refl (best-from k n r l) (best-from k n b l)
  where
    go : (x : Bool) → matches k n r ≡ x → (y : Bool) → leb (issue b) (issue r) ≡ y → Best k n r l (current_from k n r l) → Best k n b l (current_from k n b l)
        → Best k n b (r ∷ l) (current_from k n (cond (x && y) r b) l)
    go true e true g (kept p q) z =
        taken (rw p (leb-true (issue b) (issue r) g))
        (rw p (record {
          member = here;
          marked = matches-kind k n r e;
          keyed = matches-key k n r e;
          highest = also (λ h. le_refl _) (each_map (λ s w h. omega
              (arith, w h)) q);
        }))
    go true e true g (taken p q) z =
        taken (le_trans (leb-true (issue b) (issue r) g) p)
        (record { member = there q.member; marked = q.marked; keyed = q.keyed; highest = also (λ h. p) q.highest })
    go true e false g w (kept p q) = kept p (also (λ h. leb-false (issue b) (issue r) g) q)
    go true e false g w (taken p q) =
        taken p (record {
          member =
              there q.member;
          marked =
              q.marked;
          keyed = q.keyed;
          highest = also {a = r} (λ h. omega (arith, leb-false (issue b) (issue r) g, p)) q.highest;
        })
    go false e y g w (kept p q) = kept p (also (λ h. absurd (true≢false (sym h ∙ e))) q)
    go false e y g w (taken p q) =
        taken p (record {
          member =
              there q.member;
          marked = q.marked;
          keyed = q.keyed;
          highest = also (λ h. absurd (true≢false (sym h ∙ e))) q.highest;
        })

not-true : (b : Bool) → (b ≡ true → ⊥) → b ≡ false
not-true true h = absurd (h refl)
not-true false h = refl

-- the highest issue counts, wherever its record lies
pub current-found : (k n : ℕ) (l : List (List ℕ)) → CurrentOf k n l (current k n l)
unfolding current issue number
current-found k n l = go (best-from k n [] l)
  where
    go : Best k n [] l (current_from k n [] l) → CurrentOf k n l (current_from k n [] l)
    go (kept p q) = absent p (each_map (λ s w. not-true (matches k n s) (λ h. absurd (omega (arith, w h)))) q)
    go (taken p q) = standing q

-- what holds of none and of each record holds of the current one
pub each-current : {P : List ℕ → Type 0} (k n : ℕ) {l : List (List ℕ)} → P [] → Each P l → P (current k n l)
each-current {P} k n {l} z e = go (current-found k n l)
  where
    go : CurrentOf k n l (current k n l) → P (current k n l)
    go (absent p q) = rw p z
    go (standing q) = member-each q.member e

-- ---- records related one by one, kind, key and issue alike: so are the current ones

-- what a relation keeps of two records, that they are current together
pub record Alike (r s : List ℕ) : Type 0 where
  pub kind : kind r ≡ kind s
  pub key : key_of r ≡ key_of s
  pub issue : issue r ≡ issue s

module _ {R : List ℕ → List ℕ → Type 0} (alike : (r s : List ℕ) → R r s → Alike r s) where
  from-related : (k n : ℕ) {l m : List (List ℕ)} → Pairwise R l m → {b c : List ℕ} → R b c → R (current_from k n b l) (current_from k n c m)
  unfolding current_from better matches
  from-related k n none q = q
  from-related k n (more {a = r} {b = s} p a) {b} {c} q =
      rw (← (alike r s p).kind, ← (alike r s p).key, ← (alike r s p).issue, ← (alike b c q).issue)
      (from-related k n a (cond-relates R (matches k n r && leb (issue b) (issue r)) r b s c p q))

  pub current-related : R [] [] → (k n : ℕ) {l m : List (List ℕ)} → Pairwise R l m → R (current k n l) (current k n m)
  unfolding current
  current-related z k n a = from-related k n a z

-- in a raise the current records are raised
pub raised-alike : {t : ℕ} (r s : List ℕ) → Raised t r s → Alike r s
raised-alike r s q = record { kind = raised-kind q; key = raised-key q; issue = raised-issue q }

pub current-raised : {t : ℕ} (k n : ℕ) {l m : List (List ℕ)} → Pairwise (Raised t) l m → Raised t (current k n l) (current k n m)
current-raised {t} k n a = current-related raised-alike (raised-nil t) k n a

-- ---- 13

pub too_long : (d : List ℕ) → 60000 < length d → Refused 13 0 ≡ readable d
unfolding readable refuse_if or_else
too_long d h = rw (lt-ltb 60000 (length d) h) refl

-- ---- the lookup, "under either mark"

pub either-mark : (d m n key : List ℕ) → length m ≡ length n → kind m ≡ kind n → lookup_bytes d m key ≡ lookup_bytes d n key
unfolding lookup_bytes key_width kind
either-mark d m n key a e = rw (a, kind-fields (mark m), kind-fields (mark n), e) refl
