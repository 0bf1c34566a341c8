-- 6 by the slots of the index, and by what FU and MM say: where no slot has a record that does not fit, none does.
use mathlib.Core.Path.{◌≡◌, refl, ap₂, sym, subst, ◌∙◌}
use mathlib.Core.Bool.{Bool, true, false, ◌&&◌, ◌||◌, not, false≢true}
use mathlib.Core.List.{List, [], ◌∷◌}
use Prim.Native.Nat.{ℕ, ◌+◌, ◌-◌, ◌*◌, ◌/◌, ◌%◌, ◌≤◌, ◌<◌}
use native.Mathlib.Numerals.{add-one}
use native.Mathlib.Omega.{arith}
use lib.Bits.{bit_or}
use lib.Dec.{ltb, eqb}
use lib.ListN.{length, get_or, get_or-eq_default}
use borrow.Author.Tests.{ltb-false, lt-ltb, le-ltb, eqb-true, eq-eqb, not-true}
use Rattle.lists.specs.Lists.{Each, done, also, Member, here, there}
use Rattle.lists.specs.Tests.{all_below, all_to, among, every_of}
use Rattle.lists.proofs.Lists.{each_map, each_both, each_of, member-each, members}
use Rattle.lists.proofs.Tests.{and-true, and_left, and_right, split, below_at, to_at, at-to, or-none}
use Rattle.fields.specs.Numbers.{number}
use Rattle.records.specs.Table.{table, row_of, thermal, nuclear, storage, hydro, marks, RS, HP, FU, AD, MM, RQ, HR, CH, TH, FP, LC, AO, AV}
use Rattle.records.specs.MarkShapes.{shape, shape_of, body}
use Rattle.records.specs.Record.{mark, is_dated, kind_of, kind, datable, issue, fields_at, key_in, key_width, key_of, ranges_hold, fault}
use Rattle.records.specs.Answers.{Accepted, refuse_if}
use Rattle.records.specs.Dossier.{records, scan}
use Rattle.records.proofs.Record.{size-ge, faultless}
use Rattle.records.proofs.EveryMark.{mark-lt}
use Rattle.records.proofs.Answers.{or_else-parts, refuse_if-not}
use Rattle.records.proofs.Dated.{undated-at, other-mark, plain-mark}
use Rattle.records.proofs.Dossier.{scan-each, each_first}
use Rattle.station.specs.Current.{current, twin, twins, readable}
use Rattle.station.specs.InForce.{counts}
use Rattle.station.specs.Declared.{CurrentOf, absent, standing, Distinct}
use Rattle.station.proofs.Current.{current-found, matches-self}
use Rattle.station.proofs.InForce.{counts-other}
use Rattle.station.proofs.Twins.{twins-distinct}
use Rattle.index.specs.Slots.{short, narrow, slot, slots_empty}
use Rattle.index.proofs.KeyBounds.{Spans, InKey, in-key, at-kind}
use Rattle.index.proofs.Slots.{low, high, limits, in-empty}
use Rattle.lookup.specs.Parts.{Whole, Complete, UpTo}
use Rattle.station.specs.InForce.{Undated}
use Rattle.lookup.proofs.Keys.{item-key}
use Rattle.lookup.proofs.Parts.{current-in-empty, slot-tells, fits as roomy-fits}
use Rattle.rules.specs.Fit.{Known, holds, fits, unfit}
use Rattle.trials.specs.Trials.{valued, value_fits, KeysFit}
use Rattle.fit.specs.BySlots.{fourths_empty, points_fit, items_fit, profiles_fit, level_fits, prorated_fit, own_level_fits, own_prorated_fit, owners_fit}
use Rattle.fit.specs.BySlots.{priced_fit, slots_fit, values_fit}
use Rattle.rules.proofs.ByMark.{fits-rs, fits-hp, fits-fu, fits-mm, fits-rq, fits-hr, fits-ch, fits-fp, fits-lc, fits-body, held-ad, held-av, held-th, held-ao}
use Rattle.station.proofs.Undated.{undated-counts}

-- ---- where no two records are twins, one that has the current one's issue is the current one

twin-of : (r s : List ℕ) → kind r ≡ kind s → key_of r ≡ key_of s → issue r ≡ issue s → twin r s ≡ true
unfolding twin
twin-of r s a b c = rw (a, b, c, eq-eqb (kind s) (kind s) refl, eq-eqb (key_of s) (key_of s) refl, eq-eqb (issue s) (issue s) refl) refl

same-member : {r s : List ℕ} {l : List (List ℕ)} → Distinct l → Member r l → Member s l → twin r s ≡ true → twin s r ≡ true → r ≡ s
same-member d here here e f = refl
same-member d here (there m) e f = absurd (false≢true (sym (member-each m d.0) ∙ e))
same-member d (there m) here e f = absurd (false≢true (sym (member-each m d.0) ∙ f))
same-member d (there m) (there n) e f = same-member d.1 m n e f

is-the-current : {l : List (List ℕ)} {r : List ℕ} → Distinct l → Member r l → eqb (issue r) (issue (current (kind r) (key_of r) l)) ≡ true
    → current (kind r) (key_of r) l ≡ r
is-the-current {l} {r} d m e = go (current-found (kind r) (key_of r) l)
  where
    go : CurrentOf (kind r) (key_of r) l (current (kind r) (key_of r) l) → current (kind r) (key_of r) l ≡ r
    go (absent p w) = absurd (false≢true (sym (member-each m w) ∙ matches-self r))
    go (standing q) =
        let i : issue r ≡ issue (current (kind r) (key_of r) l) = eqb-true (issue r) (issue (current (kind r) (key_of r) l)) e in
        same-member d q.member m (twin-of _ r q.marked q.keyed (sym i)) (twin-of r _ (sym q.marked) (sym q.keyed) i)

pub readable-distinct : (d : List ℕ) → readable d ≡ Accepted → Distinct (records d)
unfolding readable
readable-distinct d e =
    twins-distinct 0 (records d)
    (or_else-parts (scan 0 (records d)) (twins 0 [] (records d)) (or_else-parts (refuse_if (ltb 60000 (length d)) 13 0) _ e).1).1

-- of two tests the one that fails leaves the other
or_right : (a b : Bool) → a ≡ false → a || b ≡ true → b ≡ true
or_right a b z e = rw z at e

-- ---- marks and kinds

-- a record of a kind without first hours has none
plain_test : ℕ → Bool
plain_test k = not (is_dated k) || datable (kind_of k)

other-plain : (r : List ℕ) → datable (kind r) ≡ false → is_dated (mark r) ≡ false
unfolding kind plain_test
other-plain r o =
    go (is_dated (mark r)) (below_at marks plain_test (unfold plain_test all_below is_dated datable among kind_of row_of table in refl) (mark r) (mark-lt r))
  where
    go : (b : Bool) → not b || datable (kind_of (mark r)) ≡ true → b ≡ false
    go true e = absurd (false≢true (sym o ∙ e))
    go false e = refl

key-plain : (r : List ℕ) → is_dated (mark r) ≡ false → {k : ℕ} → mark r ≡ k → number 6 (key_width k) r ≡ key_of r
unfolding key_of
key-plain r plain m = rw (undated-at (mark r) plain, m) refl

-- AD's marks
adder_test : ℕ → Bool
adder_test k = not (eqb (kind_of k) AD) || (eqb k AD || eqb k AV)

adder-mark : {P : Type 0} (r : List ℕ) → kind r ≡ AD → (mark r ≡ AD → P) → (mark r ≡ AV → P) → P
unfolding kind adder_test
adder-mark r q f g =
    let e : eqb (mark r) AD || eqb (mark r) AV ≡ true =
    rw (eq-eqb (kind_of (mark r)) AD q) at
    (below_at marks adder_test (unfold adder_test all_below is_dated kind_of row_of table in refl) (mark r) (mark-lt r)) in
    split (eqb (mark r) AD) (λ w. f (eqb-true (mark r) AD w)) (λ w. g (eqb-true (mark r) AV (or_right (eqb (mark r) AD) _ w e)))

-- and their keys
key-ad : (r : List ℕ) → mark r ≡ AD → key_of r ≡ number 6 3 r
unfolding key_of fields_at key_width key_in row_of table
key-ad r m = rw m refl

key-av : (r : List ℕ) → mark r ≡ AV → key_of r ≡ number 10 3 r
unfolding key_of fields_at key_width key_in row_of table
key-av r m = rw m refl

-- the kinds that are asked what they say
valued-kinds : {P : Type 0} (r : List ℕ) → valued (mark r) ≡ true → (kind r ≡ FU → P) → (kind r ≡ MM → P) → P
unfolding valued kind
valued-kinds r v f g =
    split (eqb (kind_of (mark r)) FU) (λ e. f (eqb-true (kind_of (mark r)) FU e))
    (λ e. g (eqb-true (kind_of (mark r)) MM (or_right (eqb (kind_of (mark r)) FU) _ e v)))

kinds-valued : (r : List ℕ) {k : ℕ} → kind r ≡ k → valued (mark r) ≡ eqb k FU || eqb k MM
unfolding valued kind
kinds-valued r q = rw q refl

-- ---- every slot fits

three : (a b c : Bool) → a && b && c ≡ true → (a ≡ true) × (b ≡ true) × (c ≡ true)
three true true c h = (refl, refl, h)
three true false c h = absurd (false≢true h)
three false b c h = absurd (false≢true h)

four : (a b c d : Bool) → a && b && c && d ≡ true → (a ≡ true) × (b ≡ true) × (c ≡ true) × (d ≡ true)
four a b c d h =
    let t = three (a && b) c d h in
    (and_left a b t.0, and_right a b t.0, t.1, t.2)

module _ (ix : List ℕ) where
  in-fourths : (a n i j : ℕ) → fourths_empty ix a n ≡ true → i < n → a + 4 * i ≡ j → eqb (get_or ix j 0) 0 ≡ true
  unfolding fourths_empty
  in-fourths a n i j e p q = rw q at (below_at n (λ i. eqb (get_or ix (a + 4 * i) 0) 0) e i p)

module _ (t : ℕ) (ix rs : List ℕ) (top : ℕ) where
  -- a record of the mark and key fits, if they have a slot that is not empty and not above the highest
  abbrev Fit : ℕ → ℕ → Type 0
  Fit k n =
      (s : List ℕ) → ranges_hold k s ≡ true → number 6 (key_width k) s ≡ n → slot k n ≤ top → eqb (get_or ix (slot k n) 0) 0 ≡ false → fits t k s ≡ true

  -- there is none
  empty-fit : (k n : ℕ) → eqb (get_or ix (slot k n) 0) 0 ≡ true → Fit k n
  empty-fit k n e s _ _ _ z = absurd (false≢true (sym z ∙ e))

  module _ (known : Known t) (e : slots_fit t ix rs top ≡ true) where
    placed : eqb t hydro || not (ltb narrow (length ix)) ≡ true
    unfolding slots_fit
    placed = and_left _ _ e

    parts : (fits t RS rs && points_fit t ix && all_to 4 (level_fits t ix) && prorated_fit t ix ≡ true) × (owners_fit t ix top ≡ true) × (priced_fit t ix top ≡ true)
    unfolding slots_fit
    parts = three _ _ _ (and_right (eqb t hydro || not (ltb narrow (length ix))) _ e)

    first-parts : (fits t RS rs ≡ true) × (points_fit t ix ≡ true) × (all_to 4 (level_fits t ix) ≡ true) × (prorated_fit t ix ≡ true)
    first-parts = four _ _ _ _ parts.0

    fit-hp : (n : ℕ) → InKey HP n → Fit HP n
    unfolding low high
    fit-hp n q =
        split (eqb t thermal)
        (λ w s _ _ _ _. sym (fits-hp t s known) ∙ w)
        (λ w. empty-fit HP n (in-empty ix 1 21 (slot HP n) (or_right (eqb t thermal) _ w first-parts.1)
        (omega (arith, limits HP n q)) (omega (arith, limits HP n q))))

    -- a level that is not held has no slot of AD and none of TH
    unheld : (v : ℕ) → holds t v ≡ false → 1 ≤ v → v ≤ 4 → (fourths_empty ix (25 + v) 20 ≡ true) × (fourths_empty ix (153 + v) 3 ≡ true)
    unfolding level_fits
    unheld v w a b =
        let z = or_right (holds t v) _ w (to_at 4 (level_fits t ix) first-parts.2 v a b) in
        (and_left _ _ z, and_right (fourths_empty ix (25 + v) 20) _ z)

    fit-th : (n : ℕ) → InKey TH n → Fit TH n
    unfolding slot key_width key_in Spans shape_of shape row_of table
    fit-th n q =
        split (holds t (n % 256))
        (λ w s g i _ _. held-th t s known g (rw (← i) at w))
        (λ w. empty-fit TH n (in-fourths ix (153 + n % 256) 3 (n / 256 - 1) (slot TH n)
        (unheld (n % 256) w (omega (arith, q.spans)) (omega (arith, q.spans))).1 (omega (arith, q.spans)) (omega (arith, q.spans))))

    -- an AD of cost 5 would stand in one of four slots of its profile
    prorated : eqb t nuclear ≡ false → (n : ℕ) → InKey AD n → n / 256 % 256 ≡ 5 → eqb (get_or ix (slot AD n) 0) 0 ≡ true
    unfolding slot Spans shape_of shape row_of table
    prorated w n q five =
        let p = n / 65536 - 1 in
        in-empty ix (42 + 20 * p) 4 (slot AD n) (below_at 4 (λ p. slots_empty ix (42 + 20 * p) 4) (or_right (eqb t nuclear) _ w first-parts.3) p
        (omega (arith, q.spans))) (omega (arith, q.spans, five)) (omega (arith, q.spans, five))

    -- a slot that is not empty tells that its level is held and that cost 5 is nuclear, where it would else be empty
    cost-there : (j c v : ℕ) → (holds t v ≡ false → eqb (get_or ix j 0) 0 ≡ true) → (eqb t nuclear ≡ false → c ≡ 5 → eqb (get_or ix j 0) 0 ≡ true)
        → eqb (get_or ix j 0) 0 ≡ false → (holds t v ≡ true) × (c ≡ 5 → t ≡ 2)
    cost-there j c v level five z = (
      split (holds t v) (λ w. w) (λ w. absurd (false≢true (sym z ∙ level w))),
      λ f. split (eqb t nuclear) (eqb-true t nuclear) (λ w. absurd (false≢true (sym z ∙ five w f))),
    )

    -- of AD
    adder-key : (n : ℕ) → InKey AD n → eqb (get_or ix (slot AD n) 0) 0 ≡ false → (holds t (n % 256) ≡ true) × (n / 256 % 256 ≡ 5 → t ≡ 2)
    unfolding slot Spans shape_of shape row_of table
    adder-key n q =
        cost-there (slot AD n) (n / 256 % 256) (n % 256)
        (λ w. in-fourths ix (25 + n % 256) 20 (5 * (n / 65536 - 1) + (n / 256 % 256 - 1)) (slot AD n)
        (unheld (n % 256) w (omega (arith, q.spans)) (omega (arith, q.spans))).0 (omega (arith, q.spans)) (omega (arith, q.spans)))
        (λ w five. prorated w n q five)

    -- where a slot of AO is not empty, its levels and costs fit
    owners : (j : ℕ) → 334 ≤ j → j < short → j ≤ top → eqb (get_or ix j 0) 0 ≡ false
        → (all_to 4 (own_level_fits t ix) ≡ true) × (own_prorated_fit t ix ≡ true)
    unfolding owners_fit
    owners j a b c z =
        let some : slots_empty ix 334 160 ≡ false = split (slots_empty ix 334 160) (λ e. absurd (false≢true (sym z ∙ in-empty ix 334 160 j e a b))) (λ e. e) in
        let w = or_right (ltb top 334 || slots_empty ix 334 160) _ (rw (le-ltb top 334 (omega (arith, a, c)), some) refl) parts.1 in
        (and_left _ _ w, and_right (all_to 4 (own_level_fits t ix)) _ w)

    -- so does a record of AO, whoever the owner
    fit-ao : (n : ℕ) → InKey AO n → Fit AO n
    unfolding slot key_width key_in Spans shape_of shape row_of table own_level_fits
    fit-ao n q s g i b z =
        let o = owners (slot AO n) (omega (arith, q.spans)) (omega (arith, q.spans)) b z in
        let p = (n / 16777216 - 1) * 4 + (n / 65536 % 256 - 1) in
        let h = cost-there (slot AO n) (n / 256 % 256) (n % 256)
        (λ w. in-fourths ix (333 + n % 256) 40 (5 * p + (n / 256 % 256 - 1)) (slot AO n)
        (or_right (holds t (n % 256)) _ w (to_at 4 (own_level_fits t ix) o.0 (n % 256) (omega (arith, q.spans)) (omega (arith, q.spans))))
        (omega (arith, q.spans)) (omega (arith, q.spans)))
        (λ w five. in-empty ix (350 + 20 * p) 4 (slot AO n) (below_at 8 (λ p. slots_empty ix (350 + 20 * p) 4) (or_right (eqb t nuclear) _ w o.1) p
        (omega (arith, q.spans))) (omega (arith, q.spans, five)) (omega (arith, q.spans, five))) z in
        held-ao t s known g (rw (← i) at h.0) (rw (← i) at h.1)

    -- HR, CH and LC: storage, or there is none
    fit-priced : (k n : ℕ) → ((s : List ℕ) → eqb t storage ≡ fits t k s)
        → (eqb t storage ≡ false → slot k n ≤ top → eqb (get_or ix (slot k n) 0) 0 ≡ true) → Fit k n
    fit-priced k n f g s _ _ b z = split (eqb t storage) (λ w. sym (f s) ∙ w) (λ w. absurd (false≢true (sym z ∙ g w b)))

    module _ (other : eqb t storage ≡ false) (j : ℕ) (below : j ≤ top) where
      -- at another station their slots are empty
      priced : 166 ≤ j → slots_empty ix 166 168 && (ltb top short || (not (ltb (length ix) narrow) && slots_empty ix short 2017)) ≡ true
      priced a = or_right (ltb top 166 || eqb t storage) _ (rw (le-ltb top 166 (omega (arith, a, below)), other) refl) parts.2

      -- of HR
      no-hour : 166 ≤ j → j < 334 → eqb (get_or ix j 0) 0 ≡ true
      no-hour a b = in-empty ix 166 168 j (and_left _ _ (priced a)) a b

      -- of CH and LC
      no-charge : short ≤ j → j < narrow → eqb (get_or ix j 0) 0 ≡ true
      no-charge a b =
          let w = or_right (ltb top short) _ (le-ltb top short (omega (arith, a, below))) (and_right (slots_empty ix 166 168) _ (priced (omega (arith, a)))) in
          in-empty ix short 2017 j (and_right (not (ltb (length ix) narrow)) _ w) a b

    -- a slot beyond the index is empty
    fit-fp : (n : ℕ) → InKey FP n → Fit FP n
    unfolding low
    fit-fp n q =
        split (eqb t hydro)
        (λ w s _ _ _ _. sym (fits-fp t s known) ∙ w)
        (λ w.
        split (ltb narrow (length ix))
        (λ x. absurd (false≢true (rw (w, x) at placed)))
        (λ x. empty-fit FP n (rw (get_or-eq_default ix 0 {n = slot FP n} (omega (arith, ltb-false narrow (length ix) x, limits FP n q))) refl)))

    -- ---- a record by its kind

    module _ (r : List ℕ) (f : fault r ≡ 0) (below : slot (kind r) (key_of r) ≤ top) (there : eqb (get_or ix (slot (kind r) (key_of r)) 0) 0 ≡ false) where
      abbrev n : ℕ
      n = key_of r

      -- of a kind without first hours, which is its mark
      plainly : (k : ℕ) → datable k ≡ false → kind r ≡ k → (InKey k n → Fit k n) → fits t (mark r) r ≡ true
      plainly k o q fit =
          let m : mark r ≡ k = other-mark r o q in
          let plain : is_dated (mark r) ≡ false = other-plain r (rw q o) in
          rw m
          (fit (rw q at (in-key r f)) r (rw m at (faultless r f).ranges) (key-plain r plain m) (rw q at below)
          (rw q at there))

      -- AD and AV
      adder : kind r ≡ AD → fits t (mark r) r ≡ true
      adder q =
          let h = adder-key n (rw q at (in-key r f)) (rw q at there) in
          adder-mark r q
          (λ m. rw m (held-ad t r known (rw m at (faultless r f).ranges) (subst (λ (x : ℕ). holds t (x % 256) ≡ true) (key-ad r m) h.0)
          (subst (λ (x : ℕ). x / 256 % 256 ≡ 5 → t ≡ 2) (key-ad r m) h.1)))
          (λ m. rw m (held-av t r known (rw m at (faultless r f).ranges) (subst (λ (x : ℕ). holds t (x % 256) ≡ true) (key-av r m) h.0)
          (subst (λ (x : ℕ). x / 256 % 256 ≡ 5 → t ≡ 2) (key-av r m) h.1)))

      keyed-fits : (kind r ≡ RS → fits t (mark r) r ≡ true) → valued (mark r) ≡ false → fits t (mark r) r ≡ true
      unfolding low high datable among table
      keyed-fits station other =
          at-kind (λ k. kind r ≡ k → fits t (mark r) r ≡ true) (kind r) n (in-key r f)
          station
          (λ q. plainly HP refl q (fit-hp n))
          (λ q. absurd (false≢true (sym other ∙ kinds-valued r q)))
          adder
          (λ q. absurd (false≢true (sym other ∙ kinds-valued r q)))
          (λ q. plainly RQ refl q (λ _ s _ _ _ _. sym (fits-rq t s known)))
          (λ q. plainly HR refl q (λ i. fit-priced HR n (λ s. fits-hr t s known) (λ w b. no-hour w (slot HR n) b (omega (arith, limits HR n i))
          (omega (arith, limits HR n i)))))
          (λ q. plainly CH refl q (λ i. fit-priced CH n (λ s. fits-ch t s known) (λ w b. no-charge w (slot CH n) b (omega (arith, limits CH n i))
          (omega (arith, limits CH n i)))))
          (λ q. plainly TH refl q (fit-th n))
          (λ q. plainly FP refl q (fit-fp n))
          (λ q. plainly LC refl q (λ i. fit-priced LC n (λ s. fits-lc t s known) (λ w b. no-charge w (slot LC n) b (omega (arith, limits LC n i))
          (omega (arith, limits LC n i)))))
          (λ q. plainly AO refl q (fit-ao n))
          refl

    -- ---- of a dossier

    module _ (d : List ℕ) (same : rs ≡ current RS 0 (records d)) (h : Whole d ix) (complete : Complete d ix) (highest : UpTo d top)
        (distinct : Distinct (records d)) where
      -- a record's slot is not empty
      slot-there : (r : List ℕ) → Member r (records d) → fault r ≡ 0 → eqb (get_or ix (slot (kind r) (key_of r)) 0) 0 ≡ false
      slot-there r m f =
          not-true _ (sym (slot-tells d ix h (kind r) (key_of r) (in-key r f) (member-each m complete))
          ∙ go (current-found (kind r) (key_of r) (records d)))
        where
          go : {c : List ℕ} → CurrentOf (kind r) (key_of r) (records d) c → ltb 0 (length c) ≡ true
          go (absent p w) = absurd (false≢true (sym (member-each m w) ∙ matches-self r))
          go {c} (standing q) =
              lt-ltb 0 (length c) (omega (arith, (faultless c (member-each q.member (scan-each 0 (records d) h.clean))).whole, size-ge (mark c)))

      -- of RS only the current one counts
      station : (r : List ℕ) → Member r (records d) → fault r ≡ 0 → counts (records d) r ≡ true → kind r ≡ RS → fits t (mark r) r ≡ true
      unfolding datable among Spans shape_of shape row_of table
      station r m f c q =
          let k : InKey RS (key_of r) = rw q at (in-key r f) in
          let z : key_of r ≡ 0 = omega (arith, k.spans) in
          let i : current (kind r) (key_of r) (records d) ≡ r = is-the-current distinct m (sym (counts-other (records d) r (rw q refl)) ∙ c) in
          let same-rs : rs ≡ r = same ∙ sym (ap₂ (λ (x y : ℕ). current x y (records d)) q z) ∙ i in
          rw (other-mark r {k = RS} refl q) (subst (λ (x : List ℕ). fits t RS x ≡ true) same-rs first-parts.0)

      pub slots-keys : KeysFit t (records d)
      slots-keys =
          each_map (λ r m c other.
          let f = member-each m (scan-each 0 (records d) h.clean) in
          keyed-fits r f (member-each m highest) (slot-there r m f) (station r m f c) other)
          (members (records d))

-- ---- with FU and MM

every-each : {A : Type 0} (f : A → Bool) (l : List A) → every_of f l ≡ true → Each (λ a. f a ≡ true) l
unfolding every_of
every-each f [] e = done
every-each f (a ∷ l) e = also (and_left (f a) (every_of f l) e) (every-each f l (and_right (f a) (every_of f l) e))

-- each fits that counts
none-unfit : (t : ℕ) (l : List (List ℕ)) → Each (λ r. counts l r ≡ true → fits t (mark r) r ≡ true) l → Accepted ≡ unfit t l
unfolding unfit
none-unfit t l e =
    sym (each_first {P = λ r. counts l r ≡ true → fits t (mark r) r ≡ true} (λ q r f. refuse_if-not (counts l r && not (fits t (mark r) r)) 6 q
    (go (counts l r) (fits t (mark r) r) f)) 0 e)
  where
    go : (b c : Bool) → (b ≡ true → c ≡ true) → b && not c ≡ false
    go true true f = refl
    go true false f = absurd (false≢true (f refl))
    go false c f = refl

-- at a thermal station they fit whatever they say
thermal-fits : (r : List ℕ) → valued (mark r) ≡ true → fits thermal (mark r) r ≡ true
thermal-fits r v =
    fits-body thermal r
    ∙ valued-kinds r v
    (λ q. rw q (sym (fits-fu thermal (body r) (omega arith, omega arith))))
    (λ q. rw q (sym (fits-mm thermal (body r) (omega arith, omega arith))))

-- those that are asked fit, where all are asked or the station is thermal
pub values-accepted : (t : ℕ) (l : List (List ℕ)) → KeysFit t l → values_fit t l ≡ true → Accepted ≡ unfit t l
unfolding values_fit value_fits
values-accepted t l k v =
    none-unfit t l (each_map (λ r q c. split (valued (mark r)) (λ w. q.1 w) (λ w. q.0 c w)) (each_both k says))
  where
    says : Each (λ r. valued (mark r) ≡ true → fits t (mark r) r ≡ true) l
    says =
        split (eqb t thermal)
        (λ e. each_of l (λ r w. rw (eqb-true t thermal e) (thermal-fits r w)))
        (λ e. each_map (λ r q w. rw w at q) (every-each (λ r. not (valued (mark r)) || fits t (mark r) r) l (or_right (eqb t thermal) _ e v)))

-- where no record has a first hour, the current ones are asked
module _ (t : ℕ) (d : List ℕ) (known : Known t) (clean : scan 0 (records d) ≡ Accepted) (u : Undated d) (distinct : Distinct (records d))
    (e : profiles_fit t d ≡ true) where
  -- FU and MM of a profile, of a station that is not thermal
  profile-parts : eqb t thermal ≡ false → (p : ℕ) → 1 ≤ p → p ≤ 4 → (fits t FU (current FU p (records d)) ≡ true) × (items_fit t d p ≡ true)
  unfolding profiles_fit
  profile-parts w p a b =
      let z = to_at 4 (λ p. fits t FU (current FU p (records d)) && items_fit t d p) (or_right (eqb t thermal) _ w e) p a b in
      (and_left _ _ z, and_right (fits t FU (current FU p (records d))) _ z)

  fuel : eqb t thermal ≡ false → (n : ℕ) → InKey FU n → fits t FU (current FU n (records d)) ≡ true
  unfolding Spans shape_of shape row_of table
  fuel w n q = (profile-parts w n (omega (arith, q.spans)) (omega (arith, q.spans))).0

  item : eqb t thermal ≡ false → (n : ℕ) → InKey MM n → fits t MM (current MM n (records d)) ≡ true
  unfolding items_fit Spans shape_of shape row_of table
  item w n q =
      let z = (profile-parts w (n / 256) (omega (arith, q.spans)) (omega (arith, q.spans))).1 in
      let k : n / 256 * 256 + n % 256 ≡ n = omega arith in
      subst (λ (i : ℕ). fits t MM (current MM i (records d)) ≡ true) k
      (to_at 8 (λ j. fits t MM (current MM (n / 256 * 256 + j) (records d))) z (n % 256) (omega (arith, q.spans)) (omega (arith, q.spans)))

  says : (r : List ℕ) → Member r (records d) → counts (records d) r ≡ true → valued (mark r) ≡ true → fits t (mark r) r ≡ true
  says r m c v =
      let k : mark r ≡ kind r = plain-mark r (member-each m u) in
      let i : InKey (kind r) (key_of r) = in-key r (member-each m (scan-each 0 (records d) clean)) in
      let same : current (kind r) (key_of r) (records d) ≡ r = is-the-current distinct m (sym (undated-counts u r) ∙ c) in
      split (eqb t thermal)
      (λ w. rw (eqb-true t thermal w) (thermal-fits r v))
      (λ w. valued-kinds r v
      (λ q. rw (k, q) (subst (λ (x : List ℕ). fits t FU x ≡ true) (rw q at same) (fuel w (key_of r) (rw q at i))))
      (λ q. rw (k, q) (subst (λ (x : List ℕ). fits t MM x ≡ true) (rw q at same) (item w (key_of r) (rw q at i)))))

  pub profiles-accepted : KeysFit t (records d) → Accepted ≡ unfit t (records d)
  profiles-accepted keys =
      none-unfit t (records d) (each_map (λ r q c. split (valued (mark r)) (λ w. says r q.1 c w) (λ w. q.0 c w)) (each_both keys (members (records d))))

-- ---- the tests of slots

-- RS of a thermal station
pub rs-thermal : (s : List ℕ) → ltb 0 (number 9 2 s) && eqb (number 19 4 s) 0 && eqb (number 23 4 s) 0 && eqb (number 27 2 s) 0
    && eqb (number 29 2 s) 0 ≡ fits thermal RS s
rs-thermal s =
    subst (λ (b : Bool). b && eqb (number 19 4 s) 0 && eqb (number 23 4 s) 0 && eqb (number 27 2 s) 0 && eqb (number 29 2 s) 0 ≡ fits thermal RS s)
    (and-true (ltb 0 (number 9 2 s) && true) ∙ and-true (ltb 0 (number 9 2 s)))
    (fits-rs thermal s (omega arith, omega arith))

pub fourths-next : (ix : List ℕ) (j i a : ℕ) → eqb a 0 ≡ fourths_empty ix j i → eqb (bit_or a (get_or ix (j + 4 * i) 0)) 0 ≡ fourths_empty ix j (i + 1)
unfolding fourths_empty all_below
fourths-next ix j i a e = or-none a (get_or ix (j + 4 * i) 0) ∙ rw (e, add-one i) refl

module _ (t : ℕ) (ix rs : List ℕ) (top : ℕ) where
  abbrev slot_tests : Bool
  slot_tests = fits t RS rs && points_fit t ix && all_to 4 (level_fits t ix) && prorated_fit t ix && owners_fit t ix top && priced_fit t ix top

  -- an index with slots for FP, of another station than a hydroelectric one
  pub other-wide : not (eqb t hydro) && ltb narrow (length ix) ≡ true → false ≡ slots_fit t ix rs top
  unfolding slots_fit
  other-wide = go (eqb t hydro) (ltb narrow (length ix))
    where
      go : (a b : Bool) → not a && b ≡ true → false ≡ (a || not b) && slot_tests
      go true b e = absurd (false≢true e)
      go false true e = refl
      go false false e = absurd (false≢true e)

  -- and any other
  pub by_slots : not (eqb t hydro) && ltb narrow (length ix) ≡ false → {x : Bool} → x ≡ slot_tests → x ≡ slots_fit t ix rs top
  unfolding slots_fit
  by_slots h {x = x} f = go (eqb t hydro) (ltb narrow (length ix)) h
    where
      go : (a b : Bool) → not a && b ≡ false → x ≡ (a || not b) && slot_tests
      go true b e = f
      go false true e = absurd (false≢true (sym e))
      go false false e = f

-- an item that is not there fits
item-none : (t : ℕ) → Known t → fits t MM [] ≡ true
unfolding number
item-none t known = sym (fits-mm t [] known) ∙ go (eqb t thermal)
  where
    go : (b : Bool) → b || true ≡ true
    go true = refl
    go false = refl

-- a profile whose slots of MM are empty has no item
pub no_items : (t : ℕ) (d ix : List ℕ) (p : ℕ) → Known t → Whole d ix → 1 ≤ p → p ≤ 4 → {j : ℕ} → j ≡ slot MM (p * 256 + 1) → slots_empty ix j 8 ≡ true
    → true ≡ items_fit t d p
unfolding items_fit slot
no_items t d ix p known h a b {j} q e = sym (at-to 8 (λ i. fits t MM (current MM (p * 256 + i) (records d))) one)
  where
    one : (i : ℕ) → 1 ≤ i → i ≤ 8 → fits t MM (current MM (p * 256 + i) (records d)) ≡ true
    one i c z =
        let k = item-key p i a b c z in
        rw (current-in-empty d ix h MM (p * 256 + i) k (roomy-fits ix h.roomy MM (p * 256 + i) k refl) j 8 e (omega (arith, q)) (omega (arith, q)))
        (item-none t known)
