-- The records that the index at hand is of: all that the layers above know of them.
use mathlib.Core.Path.{◌≡◌, refl, ap, ap₂, sym, subst, ◌∙◌}
use mathlib.Core.Bool.{Bool, true, false, cond, ◌&&◌, not, false≢true, true≢false}
use mathlib.Core.List.{List, []}
use Prim.Native.Nat.{ℕ, ◌≤◌, ◌<◌, ◌+◌}
use native.Mathlib.Omega.{arith}
use lib.Dec.{leb, ltb, eqb, lit<}
use lib.ListN.{length, get_or}
use borrow.Author.Tests.{eqb-true}
use Rattle.lists.specs.Lists.{Each, those}
use Rattle.lists.specs.Tests.{among}
use Rattle.lists.proofs.Lists.{each_map, each_of, those-each, those-all, member-those}
use Rattle.lists.proofs.Tests.{split, or-false-left}
use Rattle.records.specs.Table.{table, field_of, kinds, FU, AD, MM, AO}
use Rattle.records.specs.Record.{mark, kind, datable, since, size, is_money, told, fault}
use Rattle.records.specs.MarkShapes.{key_test, body}
use Rattle.records.specs.Dossier.{records}
use Rattle.records.proofs.Dossier.{scan-each}
use Rattle.records.proofs.Record.{size-ge}
use Rattle.station.specs.Current.{matches, current_from, current, present}
use Rattle.station.specs.InForce.{speaks_to, Query, in_force, varies}
use Rattle.station.specs.Parameters.{parameters, amounts}
use Rattle.station.specs.Declared.{CurrentOf, absent, standing}
use Rattle.station.proofs.Current.{current-found, matches-kind, matches-key, matches-self}
use Rattle.station.proofs.InForce.{current-those}
use Rattle.station.proofs.Owners.{force-those, varies-not}
use Rattle.index.specs.Slots.{slot, slots_empty}
use Rattle.index.specs.Holding.{held_record, IndexOf}
use Rattle.index.proofs.KeyBounds.{InKey, key-test, test-key}
use Rattle.index.proofs.Slots.{early}
use Rattle.index.proofs.Holds.{Good, good-records}
use Rattle.lookup.specs.Parts.{part_at, body_at, RecordIn, BodyIn, Whole, AtQuery, Indexed, stands, held, parameters_held, amounts_held}
use Rattle.lookup.proofs.Parts.{fits, none-current, unmatched, index-part, index-inside, index-body, index-body-inside, index-tells, index-in-empty}
use Rattle.lookup.proofs.Parts.{whole-index}
use Rattle.lookup.proofs.Those.{Tells, found, nothing}

-- a kind of which queries may see other records has slots in every index
varies-early : (k : ℕ) → varies k ≡ true → (k < kinds) × (early k ≡ true)
unfolding datable among table
varies-early k e =
    split (eqb k 0)
    (λ a. rw (eqb-true k 0 a) (lit< tt, refl))
    (λ a. split (eqb k FU)
    (λ b. rw (eqb-true k FU b) (lit< tt, refl))
    (λ b. split (eqb k AD)
    (λ c. rw (eqb-true k AD c) (lit< tt, refl))
    (λ c. split (eqb k MM)
    (λ m. rw (eqb-true k MM m) (lit< tt, refl))
    (λ m. split (eqb k AO)
    (λ o. rw (eqb-true k AO o) (lit< tt, refl))
    (λ o. absurd (false≢true (sym (rw (a, b, c, m, o) refl) ∙ e)))))))

module _ {d ix : List ℕ} (h : Indexed d ix) where
  abbrev some : List (List ℕ)
  some = those h.keep (records d)

  good : Each Good (records d)
  good = good-records d h.index.clean

  pub some_good : Each Good some
  some_good = those-each h.keep good

  filled : Each (λ r. 0 < length r) (records d)
  filled = each_map (λ r g. omega (arith, g.1, size-ge (mark r))) good

  -- they are faultless
  pub held-clean : Each (λ r. fault r ≡ 0) (held d ix)
  unfolding held
  held-clean = those-each (stands d ix) (scan-each 0 (records d) h.index.clean)

  module _ (k n : ℕ) where
    -- of a kind of which every query sees the same, no test takes any away
    always : varies k ≡ false → (f : List ℕ → Bool) → ((r : List ℕ) → varies (kind r) ≡ false → f r ≡ true)
        → current k n (those f (records d)) ≡ current k n (records d)
    always e f o = current-those k n f (λ r w. o r (ap varies w ∙ e)) (records d)

    stands-other : (r : List ℕ) → varies (kind r) ≡ false → stands d ix r ≡ true
    unfolding stands
    stands-other r e = rw e refl

    -- of any other, the record in its slot stays
    module _ (e : varies k ≡ true) (i : InKey k n) (fit : slot k n < length ix) where
      tells : (c : List ℕ) → held_record d (get_or ix (slot k n) 0) ≡ c → (r : List ℕ) → 0 < length r → Tells k n (stands d ix) c r
      unfolding stands
      tells c p r l = (l, λ m. rw (matches-kind k n r m, matches-key k n r m, e, p) refl)

      slotted : current k n (held d ix) ≡ current k n some
      unfolding held current
      slotted = go (current_from k n [] some) (h.index.holds k n i.low (key-test k n i) fit) (current-found k n some)
        where
          go : (c : List ℕ) → held_record d (get_or ix (slot k n) 0) ≡ c → CurrentOf k n some c → current_from k n [] (those (stands d ix) (records d)) ≡ c
          go c p (absent z w) = nothing k n (stands d ix) c z (each_map (tells c p) filled)
          go c p (standing q) =
              found k n (stands d ix) c (member-those h.keep (records d) q.member)
              (ap₂ (λ (x y : ℕ). matches x y c) (sym q.marked) (sym q.keyed) ∙ matches-self c) (each_map (tells c p) filled)

    -- a number that is no key has no record
    keyless : key_test k n ≡ false → (f : List ℕ → Bool) → current k n (those f (records d)) ≡ []
    unfolding current
    keyless e f = none-current k n [] (those-each f (unmatched k n e good))

    -- so what is current among the records held is current among those of the index
    pub current-some : current k n (held d ix) ≡ current k n some
    unfolding held
    current-some =
        split (varies k)
        (λ e. split (key_test k n)
        (λ t. let z = varies-early k e in let i = test-key k n z.0 t in slotted e i (fits ix h.index.roomy k n i z.1))
        (λ f. keyless f (stands d ix) ∙ sym (keyless f h.keep)))
        (λ e. always e (stands d ix) stands-other ∙ sym (always e h.keep h.others))

    -- of kinds of which every query sees the same they are the dossier's
    pub held-always : varies k ≡ false → current k n (held d ix) ≡ current k n (records d)
    held-always e = current-some ∙ always e h.keep h.others

    module _ (e : varies k ≡ false) where
      pub has-always : (parameters_held d ix).has k n ≡ (parameters (records d)).has k n
      unfolding parameters
      has-always = ap present (held-always e)

      pub says-always : (i : ℕ) → (parameters_held d ix).says k n i ≡ (parameters (records d)).says k n i
      unfolding parameters
      says-always i = ap (λ (r : List ℕ). cond (is_money (field_of k i).role) 0 (told k i r)) (held-always e)

      pub of-always : (i : ℕ) → (amounts_held d ix).of k n i ≡ (amounts (records d)).of k n i
      unfolding amounts
      of-always i = ap (λ (r : List ℕ). cond (is_money (field_of k i).role) (told k i r) 0) (held-always e)

    -- a slot has the current record held of a kind without first hours
    pub part_held : InKey k n → slot k n < length ix → datable k ≡ false → {j len : ℕ} → j ≡ slot k n → len ≡ size k
        → part_at d ix j len ≡ current k n (held d ix)
    part_held i fit u p q = index-part h.index some_good k n i fit u p q ∙ sym current-some

    -- which is the dossier's where every query sees the same
    pub part-is : InKey k n → slot k n < length ix → varies k ≡ false → {j len : ℕ} → j ≡ slot k n → len ≡ size k → part_at d ix j len ≡ current k n (records d)
    part-is i fit u p q = part_held i fit (or-false-left (datable k) (eqb k AO) u) p q ∙ held-always u

    -- and it lies in the dossier
    pub record-in : InKey k n → slot k n < length ix → datable k ≡ false → {j len : ℕ} → j ≡ slot k n → len ≡ size k → RecordIn d (get_or ix j 0) len
    record-in i fit u p q = index-inside h.index some_good k n i fit u p q

    -- which is what `held_at` asks of a record
    pub asks-record : InKey k n → slot k n < length ix → datable k ≡ false → {j len : ℕ} → j ≡ slot k n → len ≡ size k
        → (j < length ix) × (◌≡◌ {A = Bool} false false → RecordIn d (get_or ix j 0) len) × (◌≡◌ {A = Bool} false true → BodyIn d (get_or ix j 0) len)
    asks-record i fit u p q = (rw p fit, (λ _. record-in i fit u p q), λ e. absurd (false≢true e))

    module _ (b : early k ≡ true) (i : InKey k n) where
      pub slot-fits : {j : ℕ} → j ≡ slot k n → j < length ix
      slot-fits a = rw a (fits ix h.index.roomy k n i b)

      pub part-found : varies k ≡ false → {j len : ℕ} → j ≡ slot k n → len ≡ size k → part_at d ix j len ≡ current k n (records d)
      part-found = part-is i (slot-fits refl)

      pub asks-found : datable k ≡ false → {j len : ℕ} → j ≡ slot k n → len ≡ size k
          → (j < length ix) × (◌≡◌ {A = Bool} false false → RecordIn d (get_or ix j 0) len) × (◌≡◌ {A = Bool} false true → BodyIn d (get_or ix j 0) len)
      asks-found = asks-record i (slot-fits refl)

      -- and of the fields of one that may have a first hour
      pub asks-body : {j len : ℕ} → j ≡ slot k n → len ≡ size k
          → (j < length ix) × (◌≡◌ {A = Bool} true false → RecordIn d (get_or ix j 0) len) × (◌≡◌ {A = Bool} true true → BodyIn d (get_or ix j 0) len)
      asks-body p q = (slot-fits p, (λ e. absurd (true≢false e)), λ _. index-body-inside h.index some_good k n i (slot-fits refl) p q)

      pub body-found : {j len : ℕ} → j ≡ slot k n → len ≡ size k → body_at d ix j len ≡ body (current k n (held d ix))
      body-found p q = index-body h.index some_good k n i (slot-fits refl) p q ∙ ap body (sym current-some)

      -- a slot that is not empty tells that there is one
      pub slot-says : varies k ≡ false → ltb 0 (length (current k n (records d))) ≡ not (eqb (get_or ix (slot k n) 0) 0)
      slot-says u = ap (λ (c : List ℕ). ltb 0 (length c)) (sym (always u h.keep h.others)) ∙ index-tells h.index some_good k n i (slot-fits refl)

      pub held-in-empty : (j m : ℕ) → slots_empty ix j m ≡ true → j ≤ slot k n → slot k n < j + m → current k n (held d ix) ≡ []
      held-in-empty j m e x y = current-some ∙ index-in-empty h.index some_good k n i (slot-fits refl) j m e x y

-- ---- where the index was filled for all records, or for a query; here two layers meet

unfoldable pub whole-indexed : {d ix : List ℕ} → Whole d ix → Indexed d ix
whole-indexed {d} {ix} h =
    record {
      keep = λ r. true;
      others = λ r e. refl;
      index = subst (λ (l : List (List ℕ)). IndexOf l d ix) (sym (those-all (λ r. true) (each_of (records d) (λ r. refl)))) (whole-index d ix h);
    }

unfoldable pub query-indexed : (q : Query) {d ix : List ℕ} → AtQuery q d ix → Indexed d ix
query-indexed q {d} {ix} i =
    record {
      keep = λ r. leb (since r) q.hour && speaks_to q.owner r;
      others = varies-not q;
      index = subst (λ (l : List (List ℕ)). IndexOf l d ix) (force-those q (records d)) i;
    }

module _ (q : Query) {d ix : List ℕ} (i : AtQuery q d ix) where
  pub current-held : (k n : ℕ) → current k n (held d ix) ≡ current k n (in_force q (records d))
  unfolding query-indexed
  current-held k n = current-some (query-indexed q i) k n ∙ ap (current k n) (sym (force-those q (records d)))

  pub parameters-held : parameters_held d ix ≡ parameters (in_force q (records d))
  unfolding parameters
  parameters-held =
      λ j. record { has = λ k n. present (current-held k n j); says = λ k n m. cond (is_money (field_of k m).role) 0 (told k m (current-held k n j)) }

  pub amounts-held : amounts_held d ix ≡ amounts (in_force q (records d))
  unfolding amounts
  amounts-held = λ j. record { of = λ k n m. cond (is_money (field_of k m).role) (told k m (current-held k n j)) 0 }

module _ {d ix : List ℕ} (h : Whole d ix) where
  pub current-whole : (k n : ℕ) → current k n (held d ix) ≡ current k n (records d)
  unfolding whole-indexed
  current-whole k n = current-some (whole-indexed h) k n ∙ ap (current k n) (those-all (λ r. true) (each_of (records d) (λ r. refl)))

  pub parameters-whole : parameters_held d ix ≡ parameters (records d)
  unfolding parameters
  parameters-whole =
      λ j. record { has = λ k n. present (current-whole k n j); says = λ k n m. cond (is_money (field_of k m).role) 0 (told k m (current-whole k n j)) }
