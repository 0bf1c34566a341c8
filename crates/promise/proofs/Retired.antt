-- The report's last line counts the kinds and keys of the third-party payments in force.
use mathlib.Core.Path.{◌≡◌, refl, ap, sym, ◌∙◌}
use mathlib.Core.Bool.{Bool, true, false, cond, ◌||◌, true≢false}
use mathlib.Core.List.{List, [], ◌∷◌, ◌++◌, map}
use Prim.Native.Nat.{ℕ, zero, suc, ◌+◌, ◌≤◌, ◌<◌}
use native.Mathlib.Omega.{arith}
use lib.Dec.{leb, eqb, lit≤, lit<}
use lib.ListN.{length}
use borrow.Author.Tests.{leb-true, le-leb, eqb-true, eq-eqb, lt-ltb}
use Rattle.lists.specs.Lists.{Each, done, also, Member, here, there, those}
use Rattle.lists.specs.Sums.{sum_to}
use Rattle.lists.proofs.Lists.{each_map, each_both, member-each, those-each, those-test, each-those, members, member-those}
use Rattle.lists.proofs.Tests.{split, cond-holds, and_left, and_right, and_both}
use Rattle.records.specs.Table.{table, row_of, field_of, AD, RQ, AO}
use Rattle.records.specs.Record.{mark, kind, since, issue, key_of, fault}
use Rattle.records.specs.Dossier.{records}
use Rattle.records.proofs.Record.{size-ge, faultless}
use Rattle.station.specs.Current.{matches, current, present}
use Rattle.station.specs.InForce.{come, counts_at, speaks_to, Query, in_force}
use Rattle.station.specs.Parameters.{parameters, adder_key, own_key}
use Rattle.station.specs.Declared.{IsCurrent, CurrentOf, absent, standing}
use Rattle.station.proofs.Current.{matches-self, current-found}
use Rattle.station.proofs.InForce.{come-each}
use Rattle.station.proofs.Owners.{speaks-own, come-current, key-owner, own-owner}
use Rattle.station.proofs.Parameters.{says-high}
use Rattle.rules.proofs.Sound.{accepted-sound}
use Rattle.formulas.specs.Levels.{parameters_in, parameters_at, covers, profile_of, profile, third_party, retired, levels, shown}
use Rattle.formulas.proofs.Profile.{profile-always}
use Rattle.layout.specs.Report.{profile_line, level_lines, retired_line, report_text, report}
use Rattle.promise.specs.Withdrawn.{adder_field, withdrawn, Different, Retired, kind_and_key, RetiredAt, RetiredDeclared}
use Rattle.promise.proofs.AdderKeys.{joins, owner_of, owner-most, owner-least, common-kind, key-told, level-most, level-least, key-parts}

-- ---- the kinds and keys that the report counts

-- one for each level
abbrev four : (ℕ → ℕ × ℕ) → List (ℕ × ℕ)
four f = f 1 ∷ f 2 ∷ f 3 ∷ f 4 ∷ []

-- of a profile's third-party payments: common
abbrev common : ℕ → ℕ → ℕ × ℕ
common p v = (AD, adder_key p third_party v)

-- and an owner's
abbrev own : ℕ → ℕ → ℕ → ℕ × ℕ
own o p v = (AO, own_key o p third_party v)

-- all of them
abbrev keys_of : ℕ → List (ℕ × ℕ)
keys_of p = four (common p) ++ (four (own 1 p) ++ four (own 2 p))

module _ {P : ℕ × ℕ → Type 0} where
  four-each : (f : ℕ → ℕ × ℕ) → ((v : ℕ) → v ≤ 4 → P (f v)) → Each P (four f)
  four-each f e = also (e 1 (lit≤ tt)) (also (e 2 (lit≤ tt)) (also (e 3 (lit≤ tt)) (also (e 4 (lit≤ tt)) done)))

  each-behind : {l m : List (ℕ × ℕ)} → Each P l → Each P m → Each P (l ++ m)
  each-behind done w = w
  each-behind (also p e) w = also p (each-behind e w)

  keys-each : (p : ℕ) → ((v : ℕ) → v ≤ 4 → P (common p v)) → ((o v : ℕ) → v ≤ 4 → P (own o p v)) → Each P (keys_of p)
  keys-each p f g = each-behind (four-each (common p) f) (each-behind (four-each (own 1 p) (g 1)) (four-each (own 2 p) (g 2)))

four-member : (f : ℕ → ℕ × ℕ) (v : ℕ) → 1 ≤ v → v ≤ 4 → Member (f v) (four f)
four-member f zero a b = absurd (omega arith)
four-member f (suc zero) a b = here
four-member f (suc (suc zero)) a b = there here
four-member f (suc (suc (suc zero))) a b = there (there here)
four-member f (suc (suc (suc (suc zero)))) a b = there (there (there here))
four-member f (suc (suc (suc (suc (suc v))))) a b = absurd (omega arith)

member-left : {n : ℕ × ℕ} {l : List (ℕ × ℕ)} (m : List (ℕ × ℕ)) → Member n l → Member n (l ++ m)
member-left m here = here
member-left m (there e) = there (member-left m e)

member_right : {n : ℕ × ℕ} (l : List (ℕ × ℕ)) {m : List (ℕ × ℕ)} → Member n m → Member n (l ++ m)
member_right [] e = e
member_right (a ∷ l) e = there (member_right l e)

common-member : (p v : ℕ) → 1 ≤ v → v ≤ 4 → Member (common p v) (keys_of p)
common-member p v a b = member-left (four (own 1 p) ++ four (own 2 p)) (four-member (common p) v a b)

own-member : (o p v : ℕ) → 1 ≤ o → o ≤ 2 → 1 ≤ v → v ≤ 4 → Member (own o p v) (keys_of p)
own-member zero p v c e a b = absurd (omega arith)
own-member (suc zero) p v c e a b = member_right (four (common p)) (member-left (four (own 2 p)) (four-member (own 1 p) v a b))
own-member (suc (suc zero)) p v c e a b = member_right (four (common p)) (member_right (four (own 1 p)) (four-member (own 2 p) v a b))
own-member (suc (suc (suc o))) p v c e a b = absurd (omega arith)

-- two kinds and keys that are not the same, by a number that tells them apart
apart : (code : ℕ × ℕ → ℕ) (a b : ℕ × ℕ) → code a < code b → a ≡ b → ⊥
apart code a b h e = let z : code a ≡ code b = ap code e in omega (arith, z, h)

-- different lists of which no element of one is in the other, one behind the other
both-different : (l : List (ℕ × ℕ)) {m : List (ℕ × ℕ)} → Different l → Different m → Each (λ x. Each (λ y. x ≡ y → ⊥) m) l → Different (l ++ m)
both-different [] d e w = e
both-different (n ∷ l) d e (also a w) = (each-behind d.0 a, both-different l d.1 e w)

-- keys that rise with the level
four-different : (f : ℕ → ℕ × ℕ) → ((u w : ℕ) → u < w → (f u).1 < (f w).1) → Different (four f)
four-different f h = (
  also (less 1 2 (lit≤ tt)) (also (less 1 3 (lit≤ tt)) (also (less 1 4 (lit≤ tt)) done)),
  (also (less 2 3 (lit≤ tt)) (also (less 2 4 (lit≤ tt)) done), (also (less 3 4 (lit≤ tt)) done, (done, tt))),
)
  where
    less : (u w : ℕ) → u < w → f u ≡ f w → ⊥
    less u w b = apart (λ x. x.1) (f u) (f w) (h u w b)

module _ (p : ℕ) where
  own-different : Different (four (own 1 p) ++ four (own 2 p))
  own-different =
      both-different (four (own 1 p)) (four-different (own 1 p) (λ u w h. omega (arith, h))) (four-different (own 2 p) (λ u w h. omega (arith, h)))
      (four-each (own 1 p) (λ u h. four-each (own 2 p) (λ w g. apart (λ x. x.1) (own 1 p u) (own 2 p w) (omega (arith, h, g)))))

  keys-different : Different (keys_of p)
  keys-different =
      both-different (four (common p)) (four-different (common p) (λ u w h. omega (arith, h))) own-different
      (four-each (common p) (λ u h. each-behind (four-each (own 1 p) (other u 1)) (four-each (own 2 p) (other u 2))))
    where
      other : (u o w : ℕ) → w ≤ 4 → common p u ≡ own o p w → ⊥
      other u o w h = apart (λ x. x.0) (common p u) (own o p w) (lit< tt)

-- ---- those in use

-- a whole record is not empty
whole-present : (r : List ℕ) → fault r ≡ 0 → present r ≡ true
unfolding present
whole-present r e = lt-ltb 0 (length r) (omega (arith, (faultless r e).whole, size-ge (mark r)))

-- of some, one for each
unfoldable ones : (ℕ × ℕ → Bool) → List (ℕ × ℕ) → ℕ
ones f [] = 0
ones f (n ∷ l) = cond (f n) 1 0 + ones f l

module _ (f : ℕ × ℕ → Bool) where
  those-different : (l : List (ℕ × ℕ)) → Different l → Different (those f l)
  unfolding those
  those-different [] d = tt
  those-different (n ∷ l) d = go (f n) (those-each f d.0) (those-different l d.1)
    where
      go : (b : Bool) → Each (λ m. n ≡ m → ⊥) (those f l) → Different (those f l) → Different (cond b (n ∷ those f l) (those f l))
      go true e w = (e, w)
      go false e w = w

  those-many : (l : List (ℕ × ℕ)) → length (those f l) ≡ ones f l
  unfolding those ones
  those-many [] = refl
  those-many (n ∷ l) = go (f n) (those-many l)
    where
      go : (b : Bool) → length (those f l) ≡ ones f l → length (cond b (n ∷ those f l) (those f l)) ≡ cond b 1 0 + ones f l
      go true e = omega (arith, e)
      go false e = omega (arith, e)

module _ (q : Query) (p : ℕ) (range : p ≤ 4) (l : List (List ℕ)) (clean : Each (λ r. fault r ≡ 0) l) where
  -- whether a payment with the kind and key is in force
  in_use : ℕ × ℕ → Bool
  in_use n = (parameters (in_force q l)).has n.0 n.1

  counted : List (ℕ × ℕ)
  counted = those in_use (keys_of p)

  counted-different : Different counted
  unfolding counted
  counted-different = those-different in_use (keys_of p) (keys-different p)

  counted-many : length counted ≡ retired (parameters (in_force q l)) p
  unfolding counted in_use retired sum_to ones
  counted-many = those-many in_use (keys_of p) ∙ omega arith

  -- a record in force is one of all, its first hour has come, and it speaks to the owner
  in-force : (r : List ℕ) → Member r (in_force q l) → Member r l × (leb (since r) q.hour ≡ true) × (speaks_to q.owner r ≡ true)
  unfolding in_force come
  in-force r m =
      let came : Member r (come q.hour l) = member-those (speaks_to q.owner) (come q.hour l) m in (
        member-those (λ s. leb (since s) q.hour) l came,
        member-each came (those-test (λ s. leb (since s) q.hour) l),
        member-each m (those-test (speaks_to q.owner) (come q.hour l)),
      )

  -- of its kind and key it is the current one of all that have come, since the owner is in the key
  current-come : (k n : ℕ) (r : List ℕ) → IsCurrent k n (in_force q l) r → current k n (in_force q l) ≡ current k n (come q.hour l)
  unfolding in_force
  current-come k n r c = split (eqb k AO) (λ e. ours (eqb-true k AO e)) (λ e. come-current q k n e l)
    where
      ours : k ≡ AO → current k n (in_force q l) ≡ current k n (come q.hour l)
      ours e =
          let m : kind r ≡ AO = c.marked ∙ e in
          let w : fault r ≡ 0 = member-each (in-force r c.member).0 clean in
          rw e
          (own-owner q.owner n (come-each q.hour clean)
          (rw (← c.keyed, ← key-owner r w m) (sym (speaks-own q.owner r m) ∙ (in-force r c.member).2)))

  -- a kind and key in use is that of a payment in force
  found : (k n o v : ℕ) → eqb k AD || eqb k AO ≡ true → v ≤ 4 → n ≡ own_key o p third_party v → in_use (k, n) ≡ true → RetiredAt q p l (k, n)
  unfolding in_use parameters present withdrawn counts_at
  found k n o v j b f = go (current k n (in_force q l)) refl (current-found k n (in_force q l))
    where
      go : (r : List ℕ) → current k n (in_force q l) ≡ r → CurrentOf k n (in_force q l) r → present r ≡ true → RetiredAt q p l (k, n)
      go r c (absent z w) e = absurd (true≢false (sym e ∙ ap present z))
      go r c (standing z) e =
          let m : Member r l × (leb (since r) q.hour ≡ true) × (speaks_to q.owner r ≡ true) = in-force r z.member in
          let joined : joins r ≡ true = rw z.marked j in
          let named : (adder_field 0 r ≡ p) × (adder_field 1 r ≡ third_party) =
          key-parts r (member-each m.0 clean) joined o p third_party v (omega arith) (lit< tt) (omega arith) (z.keyed ∙ f) in
          record {
            payment = r;
            member = m.0;
            keyed = rw (z.marked, z.keyed) refl;
            retired =
                record {
                  payment = and_both (joins r) (eqb (adder_field 1 r) third_party) joined (eq-eqb (adder_field 1 r) third_party named.1);
                  profile = named.0;
                  come = leb-true (since r) q.hour m.1;
                  own = m.2;
                };
            counting =
                and_both (leb (since r) q.hour) _ m.1
                (rw (z.marked, z.keyed, ← current-come k n r z, c) (eq-eqb (issue r) (issue r) refl));
          }

  counted-only : Each (RetiredAt q p l) counted
  unfolding counted
  counted-only =
      each_map (λ n w. w.0 w.1)
      (each_both
      (those-each in_use {P = λ n. in_use n ≡ true → RetiredAt q p l n}
      (keys-each p
      (λ v h. found AD (adder_key p third_party v) 0 v refl h (omega arith))
      (λ o v h. found AO (own_key o p third_party v) o v refl h refl)))
      (those-test in_use (keys_of p)))

  -- and that of a payment in force is in use
  use-key : (r : List ℕ) → Member r l → Retired q p r → in_use (kind_and_key r) ≡ true
  unfolding in_use parameters in_force come
  use-key r m z = go (current (kind r) (key_of r) (in_force q l)) (current-found (kind r) (key_of r) (in_force q l))
    where
      go : (c : List ℕ) → CurrentOf (kind r) (key_of r) (in_force q l) c → present c ≡ true
      go c (absent e w) =
          let other : matches (kind r) (key_of r) r ≡ false =
          member-each m (each-those (λ s. leb (since s) q.hour) l (each-those (speaks_to q.owner) (come q.hour l) w))
          (le-leb (since r) q.hour z.come) z.own in
          absurd (true≢false (sym (matches-self r) ∙ other))
      go c (standing e) = whole-present c (member-each (in-force c e.member).0 clean)

  -- it is one of the keys
  key-member : (r : List ℕ) → fault r ≡ 0 → Retired q p r → Member (kind_and_key r) (keys_of p)
  unfolding withdrawn
  key-member r w z = split (eqb (kind r) AO) ours shared
    where
      j : joins r ≡ true
      j = and_left (joins r) (eqb (adder_field 1 r) third_party) z.payment

      cost : adder_field 1 r ≡ third_party
      cost = eqb-true (adder_field 1 r) third_party (and_right (joins r) (eqb (adder_field 1 r) third_party) z.payment)

      key : key_of r ≡ own_key (owner_of r) p third_party (adder_field 2 r)
      key = key-told r w j ∙ rw (z.profile, cost) refl

      ours : eqb (kind r) AO ≡ true → Member (kind_and_key r) (keys_of p)
      ours e =
          rw (eqb-true (kind r) AO e, key)
          (own-member (owner_of r) p (adder_field 2 r) (owner-least r w e) (owner-most r w) (level-least r w j) (level-most r w j))

      shared : eqb (kind r) AO ≡ false → Member (kind_and_key r) (keys_of p)
      shared e =
          let nobody : owner_of r ≡ 0 = rw e refl in
          let short : key_of r ≡ adder_key p third_party (adder_field 2 r) = omega (arith, key, nobody) in
          rw (common-kind r w j e, short) (common-member p (adder_field 2 r) (level-least r w j) (level-most r w j))

  counted-every : Each (λ r. Retired q p r → Member (kind_and_key r) counted) l
  unfolding counted
  counted-every =
      each_map
      (λ r w z. member-each (key-member r w.1 z) (each-those in_use (keys_of p) (members (those in_use (keys_of p)))) (use-key r w.0 z))
      (each_both (members l) clean)

-- ---- the profile at an hour is one that a request can name

requested-most : {l : List (List ℕ)} → Each (λ r. fault r ≡ 0) l → (h n : ℕ) → profile_of (parameters l) h n ≤ 4
unfolding profile_of field_of row_of table
requested-most e h zero = omega arith
requested-most {l} e h (suc n) =
    cond-holds (λ (x : ℕ). x ≤ 4) (covers (parameters l) h (suc n)) _ _ (says-high e RQ (suc n) 3) (requested-most e h n)

profile-range : {l : List (List ℕ)} → Each (λ r. fault r ≡ 0) l → (h : ℕ) → profile (parameters l) h ≤ 4
unfolding profile
profile-range e h = requested-most e h 16

pub retired-declared : RetiredDeclared
unfolding report report_text
retired-declared d a q =
    let p : ℕ = profile (parameters_in d) q.hour in
    let whole : Each (λ r. fault r ≡ 0) (records d) = (accepted-sound d a).1.clean in
    let range : p ≤ 4 = profile-range whole q.hour in
    record {
      keys = counted q p range (records d) whole;
      different = counted-different q p range (records d) whole;
      only = counted-only q p range (records d) whole;
      every = counted-every q p range (records d) whole;
      many = counted-many q p range (records d) whole;
      front = profile_line (profile (parameters_at d q) q.hour) ++ level_lines (map shown (levels d q));
      ends =
          ap (λ (n : ℕ). profile_line (profile (parameters_at d q) q.hour) ++ level_lines (map shown (levels d q)) ++ retired_line n)
          (ap (retired (parameters_at d q)) (profile-always (records d) q) ∙ sym (counted-many q p range (records d) whole));
    }
