-- Laws of what a query sees: the records in force for it.
use mathlib.Core.Path.{◌≡◌, refl, ap, sym, ◌∙◌}
use mathlib.Core.Bool.{Bool, true, false, cond, ◌&&◌, false≢true}
use mathlib.Core.List.{List, [], ◌∷◌}
use Prim.Native.Nat.{ℕ, ◌/◌, ◌≤◌}
use native.Mathlib.Omega.{arith}
use lib.Dec.{leb, eqb, lit<}
use borrow.Author.Tests.{eqb-true, eq-eqb, le-leb}
use Rattle.lists.specs.Lists.{Each, Pairwise, Permutation, those}
use Rattle.lists.specs.Tests.{among}
use Rattle.lists.proofs.Lists.{each_map, member-each, those-each, those-test, those-permuted, those-pairwise, those-all}
use Rattle.lists.proofs.Tests.{split, or-false-left, or-false-right, and_both}
use Rattle.fields.specs.Numbers.{number}
use Rattle.records.specs.Table.{table, row_of, field_of, AO}
use Rattle.records.specs.Record.{mark, kind, datable, since, fields_at, key_in, key_width, key_of, offset, offset_in, read, value, told, in_range, ranges_hold, fault}
use Rattle.records.specs.Raise.{Raised}
use Rattle.records.proofs.Dated.{told-value, other-mark, since-zero}
use Rattle.records.proofs.Record.{faultless, field_in, range-high}
use Rattle.records.proofs.Raise.{raised-kind, told_same}
use Rattle.station.specs.Current.{matches, current}
use Rattle.station.specs.Declared.{CurrentOf, absent, standing, Distinct}
use Rattle.station.specs.InForce.{come, speaks_to, Query, in_force, varies}
use Rattle.station.proofs.Current.{matches-kind, matches-key, current-found}
use Rattle.station.proofs.InForce.{come-each, come-distinct, come-permuted, come-raised, come-always, all-those, current-those}
use Rattle.station.proofs.Twins.{distinct-those}

-- ---- whom a record speaks to

-- a common record speaks to every owner
pub speaks-common : (o : ℕ) (r : List ℕ) → eqb (kind r) AO ≡ false → speaks_to o r ≡ true
unfolding speaks_to
speaks-common o r e = rw e refl

-- one of AO to the owner that it names
pub speaks-own : (o : ℕ) (r : List ℕ) → kind r ≡ AO → speaks_to o r ≡ eqb (told AO 0 r) o
unfolding speaks_to
speaks-own o r e = rw (eq-eqb (kind r) AO e) refl

-- a raise leaves owners alone
pub speaks-raised : (o : ℕ) {t : ℕ} {r s : List ℕ} → Raised t r s → speaks_to o r ≡ speaks_to o s
unfolding field_of row_of table
speaks-raised o {r = r} {s} q =
    split (eqb (kind r) AO)
    (λ e. let w = eqb-true (kind r) AO e in
    speaks-own o r w ∙ ap (λ (x : ℕ). eqb x o) (told_same q AO 0 w refl) ∙ sym (speaks-own o s (sym (raised-kind q) ∙ w)))
    (λ e. speaks-common o r e ∙ sym (speaks-common o s (ap (λ (x : ℕ). eqb x AO) (sym (raised-kind q)) ∙ e)))

-- ---- the records in force are those that one test holds of

-- those of those: both tests hold
both-tests : (f g : List ℕ → Bool) (l : List (List ℕ)) → those f (those g l) ≡ those (λ r. g r && f r) l
unfolding those
both-tests f g [] = refl
both-tests f g (r ∷ l) = go (g r) (both-tests f g l)
  where
    go : (b : Bool) → those f (those g l) ≡ those (λ s. g s && f s) l
        → those f (cond b (r ∷ those g l) (those g l)) ≡ cond (b && f r) (r ∷ those (λ s. g s && f s) l) (those (λ s. g s && f s) l)
    go true e = rw e refl
    go false e = e

pub force-those : (q : Query) (l : List (List ℕ)) → in_force q l ≡ those (λ r. leb (since r) q.hour && speaks_to q.owner r) l
unfolding in_force come
force-those q l = both-tests (speaks_to q.owner) (λ r. leb (since r) q.hour) l

-- and it holds of every record of a kind of which every query sees the same
pub varies-not : (q : Query) (r : List ℕ) → varies (kind r) ≡ false → leb (since r) q.hour && speaks_to q.owner r ≡ true
varies-not q r e =
    rw (
      since-zero r (or-false-left (datable (kind r)) (eqb (kind r) AO) e),
      le-leb 0 q.hour (omega arith),
      speaks-common q.owner r (or-false-right (datable (kind r)) (eqb (kind r) AO) e),
    ) refl

-- ---- what holds of all the records holds of those in force

module _ (q : Query) where
  pub force-each : {P : List ℕ → Type 0} {l : List (List ℕ)} → Each P l → Each P (in_force q l)
  unfolding in_force
  force-each e = those-each (speaks_to q.owner) (come-each q.hour e)

  pub force-distinct : (l : List (List ℕ)) → Distinct l → Distinct (in_force q l)
  unfolding in_force
  force-distinct l d = distinct-those (speaks_to q.owner) (come q.hour l) (come-distinct q.hour l d)

  pub force-permuted : {l m : List (List ℕ)} → Permutation l m → Permutation (in_force q l) (in_force q m)
  unfolding in_force
  force-permuted p = those-permuted (speaks_to q.owner) (come-permuted q.hour p)

  pub force-raised : {t : ℕ} {l m : List (List ℕ)} → Pairwise (Raised t) l m → Pairwise (Raised t) (in_force q l) (in_force q m)
  unfolding in_force
  force-raised a = those-pairwise (speaks_to q.owner) (λ r s z. speaks-raised q.owner z) (come-raised q.hour a)

  -- "Records of other marks count when current": every query sees them all
  pub always-current : (k n : ℕ) → varies k ≡ false → (l : List (List ℕ)) → current k n (in_force q l) ≡ current k n l
  unfolding in_force
  always-current k n e l =
      current-those k n (speaks_to q.owner) (λ r w. speaks-common q.owner r (rw w (or-false-right (datable k) (eqb k AO) e))) (come q.hour l)
      ∙ come-always q.hour k n (or-false-left (datable k) (eqb k AO) e) l

  -- and of every kind but AO all that have come
  pub come-current : (k n : ℕ) → eqb k AO ≡ false → (l : List (List ℕ)) → current k n (in_force q l) ≡ current k n (come q.hour l)
  unfolding in_force
  come-current k n e l = current-those k n (speaks_to q.owner) (λ r w. speaks-common q.owner r (rw w e)) (come q.hour l)

-- where no record names an owner, those in force are all that have come
pub unowned-force : (q : Query) {l : List (List ℕ)} → Each (λ r. eqb (kind r) AO ≡ false) l → in_force q l ≡ come q.hour l
unfolding in_force
unowned-force q {l} u = those-all (speaks_to q.owner) (come-each q.hour (each_map (λ r e. speaks-common q.owner r e) u))

-- ---- an owner's records by their keys

ranged-owner : (r : List ℕ) → ranges_hold AO r ≡ true → value AO 0 r ≡ number (fields_at AO) (key_width AO) r / 16777216
unfolding in_range fields_at key_width key_in value read offset offset_in field_of row_of table number
ranged-owner r h =
    let b : value AO 1 r ≤ (field_of AO 1).highest = range-high (field_of AO 1) (value AO 1 r) (field_in AO 1 r h (lit< tt)) in
    let c : value AO 2 r ≤ (field_of AO 2).highest = range-high (field_of AO 2) (value AO 2 r) (field_in AO 2 r h (lit< tt)) in
    let d : value AO 3 r ≤ (field_of AO 3).highest = range-high (field_of AO 3) (value AO 3 r) (field_in AO 3 r h (lit< tt)) in
    omega (arith, b, c, d)

-- the owner that an AO names is the first byte of its key
pub key-owner : (r : List ℕ) → fault r ≡ 0 → kind r ≡ AO → told AO 0 r ≡ key_of r / 16777216
unfolding key_of datable among table
key-owner r f e =
    let m : mark r ≡ AO = other-mark r refl e in
    let h : ranges_hold AO r ≡ true = ap (λ (k : ℕ). ranges_hold k r) (sym m) ∙ (faultless r f).ranges in
    told-value AO 0 r e ∙ ap (λ (k : ℕ). value k 0 r) m ∙ ranged-owner r h
    ∙ ap (λ (k : ℕ). number (fields_at k) (key_width k) r / 16777216) (sym m)

module _ (o n : ℕ) {l : List (List ℕ)} (clean : Each (λ r. fault r ≡ 0) l) where
  -- the owner of a matching record is that of the key
  matching : (r : List ℕ) → fault r ≡ 0 → matches AO n r ≡ true → speaks_to o r ≡ eqb (n / 16777216) o
  matching r f m =
      let w : kind r ≡ AO = matches-kind AO n r m in
      speaks-own o r w ∙ ap (λ (x : ℕ). eqb x o) (key-owner r f w ∙ ap (λ (x : ℕ). x / 16777216) (matches-key AO n r m))

  -- of a key of another owner there is no record
  pub other-owner : eqb (n / 16777216) o ≡ false → current AO n (those (speaks_to o) l) ≡ []
  other-owner e = go (current AO n (those (speaks_to o) l)) (current-found AO n (those (speaks_to o) l))
    where
      go : (c : List ℕ) → CurrentOf AO n (those (speaks_to o) l) c → c ≡ []
      go c (absent p w) = p
      go c (standing q) =
          let m : matches AO n c ≡ true = unfold matches in and_both _ _ (eq-eqb (kind c) AO q.marked) (eq-eqb (key_of c) n q.keyed) in
          absurd (false≢true (sym e ∙ sym (matching c (member-each q.member (those-each (speaks_to o) clean)) m)
          ∙ member-each q.member (those-test (speaks_to o) l)))

  -- and of a key of its own the current one of all
  pub own-owner : eqb (n / 16777216) o ≡ true → current AO n (those (speaks_to o) l) ≡ current AO n l
  own-owner e = all-those AO n (speaks_to o) (each_map (λ r f m. matching r f m ∙ e) clean)
