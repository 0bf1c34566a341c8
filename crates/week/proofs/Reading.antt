-- The week as the records lie: each interval is put at the place that its slot names, and at no other.
use Rattle.lists.specs.Tests.{among}
use mathlib.Core.Path.{◌≡◌, refl, ap, sym, subst, ◌∙◌}
use mathlib.Core.Bool.{Bool, true, false, cond, ◌&&◌, not, true≢false, false≢true}
use mathlib.Core.List.{List, [], ◌∷◌}
use mathlib.Core.Logic.{◌⊎◌, inl, inr, ⊎_elim}
use Prim.Native.Nat.{ℕ, zero, suc, ◌+◌, ◌-◌, ◌≤◌, ◌<◌}
use native.Mathlib.Omega.{arith}
use lib.Dec.{leb, ltb, eqb}
use lib.IntN.{ℤ, pos}
use lib.ListN.{length, get_or, set, take, drop, length-drop, drop_of_length-le}
use lib.Seq.{drop-drop}
use borrow.Author.Tests.{le-ltb, ltb-false, le-leb, lt-leb, leb-true, leb-false, eqb-true, eqb-false, eq-eqb, ne_eqb}
use Rattle.lists.specs.Lists.{Each, done, also}
use Rattle.lists.proofs.Tests.{split}
use Rattle.fields.specs.Numbers.{number, biased, unbiased}
use Rattle.fields.proofs.Numbers.{number-nil}
use Rattle.records.specs.Answers.{Accepted}
use Rattle.records.specs.Table.{table, row_of, CH}
use Rattle.records.specs.Record.{mark, size, fault, issue, key_in, key_width, key_of, ranges_hold, datable, fields_at}
use Rattle.records.specs.Dossier.{first_of, rest_of, records_in, records}
use Rattle.records.proofs.Record.{mark-take, size-ge}
use Rattle.records.proofs.Read.{number-take, fault-first}
use Rattle.records.proofs.Dossier.{Whole, first-mark, records-step, records-whole, scan-each}
use Rattle.station.specs.Current.{matches, better, current, readable, start_from, start_of}
use Rattle.station.specs.Declared.{CurrentOf, absent, standing}
use Rattle.station.specs.Week.{intervals, week_price, week_energy}
use Rattle.station.proofs.Current.{current-found}
use Rattle.station.proofs.Fields.{charge_price-at, charge_energy-at}
use Rattle.station.proofs.Week.{price-told, energy-of-week}
use Rattle.index.specs.Slots.{slot, narrow}
use Rattle.index.specs.Intervals.{is_interval}
use Rattle.index.proofs.HeldSums.{interval-key}
use Rattle.index.proofs.Intervals.{fair, ch-size}
use Rattle.index.proofs.Slots.{slot-narrow}
use Rattle.lookup.specs.declared.Part.{Part}
use Rattle.lookup.specs.Parts.{part, record_part, current_part, Whole as WholeIndex}
use Rattle.records.proofs.Dated.{other-mark}
use Rattle.lookup.proofs.Parts.{place-current, slot-tells}
use Rattle.lookup.proofs.Week.{slot-empty, slot-there}
use Rattle.week.specs.Filled.{Stands, At, read_to, Filled}
use Rattle.week.proofs.Stands.{stands_same, stands_set}

-- ---- where a record starts

-- the best record before some, or the place of one of them
start-at : (k n q p : ℕ) (b : List ℕ) {l : List (List ℕ)} → Each Whole l → (start_from k n b q p l ≡ q) ⊎ At (start_from k n b q p l) p l
unfolding start_from At
start-at k n q p b done = inl refl
start-at k n q p b (also {a = r} {l = l} w e) =
    go (matches k n r && leb (issue b) (issue r))
    (λ o. subst (λ (x : ℕ). (start_from k n (better k n b r) o (p + length r) l ≡ o) ⊎ At (start_from k n (better k n b r) o (p + length r) l) (p + x) l) w
    (start-at k n o (p + length r) (better k n b r) e))
  where
    go : (t : Bool) → ((o : ℕ) → (start_from k n (better k n b r) o (p + length r) l ≡ o) ⊎ At (start_from k n (better k n b r) o (p + length r) l)
        (p + size (mark r)) l)
        → (start_from k n (better k n b r) (cond t p q) (p + length r) l ≡ q) ⊎
        ((start_from k n (better k n b r) (cond t p q) (p + length r) l ≡ p) ⊎ At (start_from k n (better k n b r) (cond t p q) (p + length r) l)
        (p + size (mark r)) l)
    go true f = ⊎_elim (λ z. inr (inl z)) (λ z. inr (inr z)) (f p)
    go false f = ⊎_elim (λ z. inl z) (λ z. inr (inr z)) (f q)

at_ahead : (x p : ℕ) (l : List (List ℕ)) → At x p l → p ≤ x
unfolding At
at_ahead x p [] h = absurd h
at_ahead x p (r ∷ l) (inl e) = omega arith
at_ahead x p (r ∷ l) (inr h) = omega (arith, at_ahead x (p + size (mark r)) l h)

-- a CH without fault is what the code looks for
interval-of : (s : List ℕ) → fault (first_of s) ≡ 0 → mark s ≡ CH → is_interval s ≡ true
unfolding is_interval
interval-of s f m =
    go (ltb (length s) 2) (ltb (length s) (size CH)) refl (ranges_hold CH s)
    (sym (ap (λ (k : ℕ). cond (ltb (length s) 2) 2 (cond (eqb k 0) 1 (cond (ltb (length s) (size k)) 2 (cond (ranges_hold k s) 0 3)))) m)
    ∙ sym (fault-first s) ∙ f)
  where
    go : (a b : Bool) → ltb (length s) (size CH) ≡ b → (c : Bool) → ◌≡◌ {A = ℕ} (cond a 2 (cond b 2 (cond c 0 3))) 0
        → leb (size CH) (length s) && eqb (mark s) CH && c ≡ true
    go true b e c z = absurd (omega (arith, z))
    go false true e c z = absurd (omega (arith, z))
    go false false e false z = absurd (omega (arith, z))
    go false false e true z = rw (le-leb (size CH) (length s) (ltb-false (length s) (size CH) e), eq-eqb (mark s) CH m) refl

ch-key : (r : List ℕ) → mark r ≡ CH → key_of r ≡ number 6 2 r
unfolding key_of key_width key_in row_of table fields_at
ch-key r e = ap (λ (k : ℕ). number (fields_at k) (key_width k) r) e

-- ---- what a slot tells

module _ {d ix : List ℕ} (ok : readable d ≡ Accepted) (h : WholeIndex d ix) (roomy : narrow ≤ length ix) where
  abbrev v : ℕ → ℕ
  v n = get_or ix (slot CH n) 0

  module _ (n : ℕ) (a : 1 ≤ n) (b : n ≤ 2016) where
    fits : slot CH n < length ix
    fits = omega (arith, roomy, slot-narrow CH n (interval-key n a b) refl)

    -- an empty one that there is neither price nor energy
    pub price-none : v n ≡ 0 → week_price d n ≡ pos 0
    unfolding unbiased biased
    price-none e =
        price-told d ok n ∙ ap unbiased (charge_price-at (records d) n ∙ ap (λ (r : List ℕ). biased (number 8 4 r)) (slot-empty h n a b fits e)
        ∙ ap biased (number-nil 8 4))

    pub energy-none : v n ≡ 0 → week_energy d n ≡ 0
    energy-none e = sym (energy-of-week d ok n) ∙ charge_energy-at (records d) n ∙ ap (number 12 4) (slot-empty h n a b fits e) ∙ number-nil 12 4

    -- the start of the interval's record
    named : 0 < v n → v n - 1 ≡ start_of CH n (records d)
    unfolding record_part current_part
    named z =
        let c = slot-there h n a b fits (λ e. omega arith) in
        let e : part (v n - 1) (size (mark (drop (v n - 1) d))) ≡ current_part CH n (records d) =
        rw (ne_eqb (v n) 0 (λ w. omega arith), le-ltb (length d) (v n) (omega (arith, c.0))) at
        (place-current d ix h CH n (interval-key n a b) fits refl) in
        ap (λ (q : Part). q.start) e

    -- which is one of the dossier's
    starts : 0 < v n → At (v n - 1) 0 (records d)
    unfolding At start_of
    starts z =
        let c = slot-there h n a b fits (λ e. omega arith) in
        ⊎_elim
        (λ e. rw (records-step d (omega (arith, c.0))) (inl (named z ∙ e)))
        (λ e. rw (named z) e)
        (start-at CH n 0 0 [] (records-whole d (scan-each 0 (records d) h.clean)))

    -- a slot that names place p tells what stands there
    module _ (p : ℕ) (e : v n ≡ p + 1) where
      there : take 16 (drop p d) ≡ current CH n (records d)
      there =
          let q : v n - 1 ≡ p = omega arith in
          ap (λ (x : ℕ). take 16 (drop x d)) (sym q) ∙ (slot-there h n a b fits (λ z. omega arith)).1

      pub tells : (mark (drop p d) ≡ CH) × (number 6 2 (drop p d) ≡ n)
      unfolding datable among table
      tells = go (current-found CH n (records d))
        where
          go : CurrentOf CH n (records d) (current CH n (records d)) → (mark (drop p d) ≡ CH) × (number 6 2 (drop p d) ≡ n)
          go (absent z _) =
              absurd (true≢false (sym (slot-tells d ix h CH n (interval-key n a b) fits ∙ ap not (ne_eqb (v n) 0 (λ w. omega arith)))
              ∙ ap (λ (l : List ℕ). ltb 0 (length l)) z))
          go (standing q) =
              let m : mark (take 16 (drop p d)) ≡ CH = ap mark there ∙ other-mark (current CH n (records d)) refl q.marked in (
                sym (mark-take 16 (drop p d) (omega arith)) ∙ m,
                sym (number-take 16 6 2 (drop p d) (omega arith)) ∙ sym (ch-key _ m) ∙ ap key_of there ∙ q.keyed,
              )

      pub price-there : unbiased (biased (number 8 4 (drop p d))) ≡ week_price d n
      price-there =
          ap (λ (x : ℕ). unbiased (biased x)) (sym (number-take 16 8 4 (drop p d) (omega arith)) ∙ ap (number 8 4) there)
          ∙ sym (price-told d ok n ∙ ap unbiased (charge_price-at (records d) n))

      pub energy-there : number 12 4 (drop p d) ≡ week_energy d n
      energy-there =
          sym (number-take 16 12 4 (drop p d) (omega arith)) ∙ ap (number 12 4) there ∙ sym (charge_energy-at (records d) n) ∙ energy-of-week d ok n

  -- ---- from place to place

  module _ {A : Type 0} (none : A) (f : ℕ → A) where
    -- at the start all are ahead that have anything
    first_read : (n : ℕ) → (v n ≡ 0 → f n ≡ none) → none ≡ read_to ix 0 none f n
    first_read n e = go (v n) refl
      where
        go : (x : ℕ) → v n ≡ x → none ≡ cond (leb x 0) (f n) none
        go zero z = sym (e z)
        go (suc x) z = rw (lt-leb (suc x) 0 (omega arith)) refl

  pub reading_begins : {ps ps' : List ℤ} {es es' : List ℕ} → Stands (pos 0) (λ n. pos 0) ps ps' → Stands 0 (λ n. 0) es es' → Filled d ix ps es 0 ps' es'
  reading_begins {ps} {ps'} {es} {es'} s t =
      record {
        priced = stands_same (pos 0) ps s (read_to ix 0 (pos 0) (week_price d)) (λ n a b. first_read (pos 0) (week_price d) n (price-none n a b));
        charged = stands_same 0 es t (read_to ix 0 0 (week_energy d)) (λ n a b. first_read 0 (week_energy d) n (energy-none n a b));
        rest = scan-each 0 (records d) h.clean;
        ahead = λ n a b z. starts n a b z;
      }

  -- at the end none is ahead
  module _ {ps ps' : List ℤ} {es es' : List ℕ} {p : ℕ} (w : Filled d ix ps es p ps' es') (past : length d ≤ p) where
    none_ahead : (n : ℕ) → 1 ≤ n → n ≤ 2016 → v n ≤ p
    unfolding records records_in At
    none_ahead n a b =
        split (leb (v n) p)
        (λ t. leb-true (v n) p t)
        (λ f. absurd (rw (drop_of_length-le d {i = p} past) at (w.ahead n a b (leb-false (v n) p f))))

    all_read : {A : Type 0} (none : A) (f : ℕ → A) (n : ℕ) → 1 ≤ n → n ≤ 2016 → read_to ix p none f n ≡ f n
    all_read none f n a b = rw (le-leb (v n) p (none_ahead n a b)) refl

    pub prices-read : Stands (pos 0) (week_price d) ps ps'
    prices-read = stands_same (pos 0) ps w.priced (week_price d) (all_read (pos 0) (week_price d))

    pub energies-read : Stands 0 (week_energy d) es es'
    energies-read = stands_same 0 es w.charged (week_energy d) (all_read 0 (week_energy d))

  -- past one record
  module _ {ps ps' : List ℤ} {es es' : List ℕ} {p : ℕ} (w : Filled d ix ps es p ps' es') (within : p < length d) where
    abbrev next : ℕ
    next = p + size (mark (drop p d))

    -- a record that is ahead is this one, or is still ahead
    parts : (n : ℕ) → 1 ≤ n → n ≤ 2016 → p < v n → (v n ≡ p + 1) ⊎ At (v n - 1) next (records (drop next d))
    unfolding At rest_of
    parts n a b z =
        ⊎_elim (λ q. inl (omega arith)) (λ q. inr (rw (first-mark (drop p d), drop-drop (size (mark (drop p d))) p d) at q))
        (subst (At (v n - 1) p) (records-step (drop p d) (omega (arith, length-drop p d))) (w.ahead n a b z))

    onward : (n : ℕ) → 1 ≤ n → n ≤ 2016 → next < v n → At (v n - 1) next (records (drop next d))
    onward n a b z = ⊎_elim (λ q. absurd (omega (arith, size-ge (mark (drop p d))))) (λ q. q) (parts n a b (omega arith))

    still : {A : Type 0} (none : A) (f : ℕ → A) (n : ℕ) → 1 ≤ n → n ≤ 2016 → (v n ≡ p + 1 → ⊥) → read_to ix p none f n ≡ read_to ix next none f n
    still none f n a b other = ap (λ (t : Bool). cond t (f n) none) (split (leb (v n) p) now later)
      where
        now : leb (v n) p ≡ true → leb (v n) p ≡ leb (v n) next
        now t = t ∙ sym (le-leb (v n) next (omega (arith, leb-true (v n) p t)))

        later : leb (v n) p ≡ false → leb (v n) p ≡ leb (v n) next
        later t =
            t ∙ sym (⊎_elim (λ q. absurd (other q))
            (λ q. lt-leb (v n) next (omega (arith, at_ahead (v n - 1) next (records (drop next d)) q, leb-false (v n) p t)))
            (parts n a b (leb-false (v n) p t)))

    -- what is left is a record without fault, and the rest
    split_rest : (fault (first_of (drop p d)) ≡ 0) × Each (λ r. fault r ≡ 0) (records (drop next d))
    unfolding rest_of
    split_rest = go (subst (Each (λ r. fault r ≡ 0)) (records-step (drop p d) (omega (arith, length-drop p d))) w.rest)
      where
        go : Each (λ r. fault r ≡ 0) (first_of (drop p d) ∷ records (drop (size (mark (drop p d))) (drop p d))) → (fault (first_of (drop p d)) ≡ 0)
            × Each (λ r. fault r ≡ 0) (records (drop next d))
        go (also f l) = (f, rw (drop-drop (size (mark (drop p d))) p d) at l)

    -- that no slot names
    passes : ((n : ℕ) → 1 ≤ n → n ≤ 2016 → v n ≡ p + 1 → ⊥) → Filled d ix ps es next ps' es'
    passes none =
        record {
          priced = stands_same (pos 0) ps w.priced (read_to ix next (pos 0) (week_price d)) (λ n a b. still (pos 0) (week_price d) n a b (none n a b));
          charged = stands_same 0 es w.charged (read_to ix next 0 (week_energy d)) (λ n a b. still 0 (week_energy d) n a b (none n a b));
          rest = split_rest.1;
          ahead = onward;
        }

    -- which is no CH
    pub reading-other : is_interval (drop p d) ≡ false → Filled d ix ps es next ps' es'
    reading-other e = passes (λ n a b q. false≢true (sym e ∙ interval-of (drop p d) split_rest.0 (tells n a b p q).0))

    -- or a CH whose slot names another place
    pub reading-elsewhere : (v (number 6 2 (drop p d)) ≡ p + 1 → ⊥) → Filled d ix ps es next ps' es'
    reading-elsewhere other = passes (λ n a b q. other (ap (λ (x : ℕ). v x) (tells n a b p q).1 ∙ q))

    -- that the slot of interval m names
    module _ (m : ℕ) (a₀ : 1 ≤ m) (b₀ : m ≤ 2016) (q : v m ≡ p + 1) where
      others : {A : Type 0} (none : A) (f : ℕ → A) (n : ℕ) → 1 ≤ n → n ≤ 2016 → (n ≡ m → ⊥) → read_to ix p none f n ≡ read_to ix next none f n
      others none f n a b z = still none f n a b (λ o. z (sym (tells n a b p o).1 ∙ (tells m a₀ b₀ p q).1))

      own : {A : Type 0} (none : A) (f : ℕ → A) → f m ≡ read_to ix next none f m
      own none f = rw (le-leb (v m) next (omega (arith, size-ge (mark (drop p d))))) refl

      pub reading-puts : intervals ≤ length ps → intervals ≤ length es
          → Filled d ix ps es next (set ps' (m - 1) (unbiased (biased (number 8 4 (drop p d))))) (set es' (m - 1) (number 12 4 (drop p d)))
      reading-puts x y =
          record {
            priced = stands_set (pos 0) ps w.priced (read_to ix next (pos 0) (week_price d)) m (unbiased (biased (number 8 4 (drop p d)))) x a₀ b₀
                (others (pos 0) (week_price d)) (price-there m a₀ b₀ p q ∙ own (pos 0) (week_price d));
            charged = stands_set 0 es w.charged (read_to ix next 0 (week_energy d)) m (number 12 4 (drop p d)) y a₀ b₀
                (others 0 (week_energy d)) (energy-there m a₀ b₀ p q ∙ own 0 (week_energy d));
            rest = split_rest.1;
            ahead = onward;
          }

    -- a CH goes into the lists if its slot names its place
    pub reading-interval : is_interval (drop p d) ≡ true → intervals ≤ length ps → intervals ≤ length es → {qs : List ℤ} {fs : List ℕ} {n price energy : ℕ}
        → n ≡ number 6 2 (drop p d) → price ≡ biased (number 8 4 (drop p d)) → energy ≡ number 12 4 (drop p d)
        → qs ≡ cond (eqb (v n) (p + 1)) (set ps' (n - 1) (unbiased price)) ps' → fs ≡ cond (eqb (v n) (p + 1)) (set es' (n - 1) energy) es'
        → Filled d ix ps es (p + 16) qs fs
    reading-interval there x y {qs} {fs} {n} {price} {energy} en ep ee eq ef =
        let f = fair (drop p d) there in
        let e : next ≡ p + 16 = ap (λ (k : ℕ). p + size k) f.marked ∙ ap (λ (k : ℕ). p + k) ch-size in
        subst (λ (k : ℕ). Filled d ix ps es k qs fs) e (rw (eq, ef) (go (eqb (v n) (p + 1)) refl))
      where
        go : (t : Bool) → eqb (v n) (p + 1) ≡ t
            → Filled d ix ps es next (cond t (set ps' (n - 1) (unbiased price)) ps') (cond t (set es' (n - 1) energy) es')
        go true z =
            let f = fair (drop p d) there in
            rw (ep, ee) (reading-puts n (omega (arith, en, f.first)) (omega (arith, en, f.last)) (eqb-true (v n) (p + 1) z) x y)
        go false z = reading-elsewhere (λ o. eqb-false (v n) (p + 1) z (ap (λ (k : ℕ). v k) en ∙ o))
