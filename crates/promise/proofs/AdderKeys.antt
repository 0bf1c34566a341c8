-- The key of an AD, AV or AO: profile, cost and level, and of AO the owner before them.
use mathlib.Core.Path.{◌≡◌, sym, ◌∙◌}
use mathlib.Core.Bool.{Bool, true, false, cond, ◌||◌}
use mathlib.Core.List.{List}
use Prim.Native.Nat.{ℕ, suc, ◌+◌, ◌≤◌, ◌<◌}
use native.Mathlib.Omega.{arith}
use lib.Dec.{eqb, lit<}
use lib.ListN.{length}
use borrow.Author.Tests.{eqb-true}
use Rattle.lists.proofs.Tests.{split, or-false, between-low}
use Rattle.fields.specs.Numbers.{number}
use Rattle.fields.proofs.Numbers.{number-join}
use Rattle.records.specs.Table.{table, row_of, field_of, AD, AO}
use Rattle.records.specs.Record.{mark, kind, key_of, key_in, key_width, fields_at, offset_in, offset, read, told, in_range, fault}
use Rattle.records.proofs.Record.{faultless, field-range, range-high}
use Rattle.records.proofs.Dated.{kind-fields, kind-field, told-value}
use Rattle.station.specs.Parameters.{adder_key, own_key}
use Rattle.formulas.proofs.Withdrawn.{cost_in}
use Rattle.promise.specs.Withdrawn.{adder_field}

-- whether a record is one of these
abbrev pub joins : List ℕ → Bool
joins r = eqb (kind r) AD || eqb (kind r) AO

-- 0 where no owner is named
abbrev pub owner_of : List ℕ → ℕ
owner_of r = cond (eqb (kind r) AO) (told AO 0 r) 0

three-bytes : (o : ℕ) (r : List ℕ) → number o 3 r ≡ adder_key (number o 1 r) (number (o + 1) 1 r) (number (o + 1 + 1) 1 r)
three-bytes o r = omega (arith, number-join o 1 2 r, number-join (o + 1) 1 1 r)

four_bytes : (o : ℕ) (r : List ℕ) → number o 4 r ≡ own_key (number o 1 r) (number (o + 1) 1 r) (number (o + 1 + 1) 1 r) (number (o + 1 + 1 + 1) 1 r)
four_bytes o r = omega (arith, number-join o 1 3 r, three-bytes (o + 1) r)

module _ (r : List ℕ) (clean : fault r ≡ 0) where
  -- a field is in its range
  field_told : (k i : ℕ) → kind r ≡ k → i < length (row_of k).fields → in_range (field_of k i) (told k i r) ≡ true
  unfolding kind
  field_told k i e h =
      rw (told-value k i r e, ← kind-field (mark r) k i e) (field-range r (faultless r clean) i (rw (kind-fields (mark r), e) h))

  pub owner-most : owner_of r ≤ 2
  unfolding field_of row_of table
  owner-most =
      split (eqb (kind r) AO)
      (λ e. rw e (range-high (field_of AO 0) (told AO 0 r) (field_told AO 0 (eqb-true (kind r) AO e) (lit< tt))))
      (λ e. rw e (omega arith))

  pub owner-least : eqb (kind r) AO ≡ true → 1 ≤ owner_of r
  unfolding field_of row_of table in_range
  owner-least e = rw e (between-low 1 2 (told AO 0 r) (field_told AO 0 (eqb-true (kind r) AO e) (lit< tt)))

  module _ (j : joins r ≡ true) where
    -- one of the two kinds, if it is not the other
    pub common-kind : eqb (kind r) AO ≡ false → kind r ≡ AD
    common-kind e = eqb-true (kind r) AD (sym (or-false (eqb (kind r) AD)) ∙ rw e at j)

    pub key-told : key_of r ≡ own_key (owner_of r) (adder_field 0 r) (adder_field 1 r) (adder_field 2 r)
    unfolding kind key_of key_width key_in told read offset offset_in field_of row_of table
    key-told =
        split (eqb (kind r) AO)
        (λ e. rw (e, kind-fields (mark r), eqb-true (kind r) AO e) (four_bytes (fields_at (mark r)) r))
        (λ e. rw (e, kind-fields (mark r), common-kind e) (omega (arith, three-bytes (fields_at (mark r)) r)))

    -- AO's fields behind the owner are AD's
    field_in : (i : ℕ) → i < 3 → in_range (field_of AD i) (adder_field i r) ≡ true
    unfolding field_of row_of table
    field_in i h =
        split (eqb (kind r) AO)
        (λ e. rw e (field_told AO (suc i) (eqb-true (kind r) AO e) (omega arith)))
        (λ e. rw e (field_told AD i (common-kind e) (omega arith)))

    cost-most : adder_field 1 r ≤ 5
    unfolding field_of row_of table
    cost-most = range-high (field_of AD 1) (adder_field 1 r) (field_in 1 (lit< tt))

    profile-most : adder_field 0 r ≤ 4
    unfolding field_of row_of table
    profile-most = range-high (field_of AD 0) (adder_field 0 r) (field_in 0 (lit< tt))

    pub level-most : adder_field 2 r ≤ 4
    unfolding field_of row_of table
    level-most = range-high (field_of AD 2) (adder_field 2 r) (field_in 2 (lit< tt))

    pub level-least : 1 ≤ adder_field 2 r
    unfolding field_of row_of table in_range
    level-least = between-low 1 4 (adder_field 2 r) (field_in 2 (lit< tt))

    -- a key tells its parts
    pub key-parts : (o p c v : ℕ) → p < 256 → c < 256 → v < 256 → key_of r ≡ own_key o p c v → (adder_field 0 r ≡ p) × (adder_field 1 r ≡ c)
    key-parts o p c v a b f e =
        let key : own_key (owner_of r) (adder_field 0 r) (adder_field 1 r) (adder_field 2 r) ≡ own_key o p c v = sym key-told ∙ e in
        (omega (arith, key, profile-most, cost-most, level-most), omega (arith, key, profile-most, cost-most, level-most))

    pub cost-told : cost_in (key_of r) ≡ adder_field 1 r
    cost-told = omega (arith, key-told, profile-most, cost-most, level-most)
