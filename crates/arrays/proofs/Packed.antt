-- Lines in arrays: how a loop fills them, what they hold, and that nothing is lost.
use mathlib.Core.Path.{◌≡◌, refl, ap, ap₂, sym, ◌∙◌}
use mathlib.Core.Bool.{Bool, true, false, cond}
use mathlib.Core.List.{List, [], ◌∷◌, ◌++◌, map, append_assoc}
use Prim.Native.Nat.{ℕ, zero, suc, ◌+◌, ◌-◌, ◌≤◌, ◌<◌}
use native.Mathlib.Nat.{le_refl}
use native.Mathlib.Numerals.{add-one}
use native.Mathlib.Omega.{arith}
use lib.Dec.{eqb, lit≤}
use lib.ListN.{length, get_or, take, set, replicate}
use lib.Seq.{take_all}
use Rattle.lists.specs.Tests.{count_to, among}
use Rattle.lists.proofs.Tests.{split}
use Rattle.records.specs.Table.{HP}
use Rattle.station.specs.Parameters.{Parameters, Amounts, technology, capacity}
use Rattle.rules.specs.Fit.{energy, start, no_load, reserve, levels_of, holds}
use Rattle.rules.specs.Curve.{points}
use Rattle.arrays.specs.declared.HourLevels.{HourLevels}
use Rattle.arrays.specs.declared.SingleLevels.{SingleLevels}
use Rattle.formulas.specs.Exact.{Sum, quotient, micro_dollars, cents}
use Rattle.formulas.specs.Levels.{lines_of, Line, amount, adders, start_cost, no_load_cost, nuclear_energy}
use Rattle.formulas.specs.Levels.{storage_energy, hydro_energy, lamination}
use Rattle.formulas.specs.Levels.{laminations, one_lamination, single, lines_of, Shown, shown_as, shown}
use Rattle.arrays.specs.Packed.{Arrays, arrays_of, laminations_from, single_of, unpacked, energy_lines, amount_of, padded, hour_levels, single_levels, hour_of}
use Rattle.arrays.specs.Packed.{packed}

-- ---- an array filled from the front

padded-set : (k i : ℕ) (l : List ℕ) → i < k → i < length l → set (padded k (take i l)) i (get_or l i 0) ≡ padded k (take (suc i) l)
unfolding padded
padded-set zero i l h g = absurd (omega arith)
padded-set (suc k) i [] h g = absurd (omega arith)
padded-set (suc k) zero (x ∷ l) h g = refl
padded-set (suc k) (suc i) (x ∷ l) h g = ap (λ (r : List ℕ). x ∷ r) (padded-set k i l (omega arith) (omega arith))

-- an empty array's first place filled
pub first-set : {a : List ℕ} {x y : ℕ} → a ≡ replicate 20 0 → x ≡ y → set a 0 x ≡ padded 20 (y ∷ [])
unfolding padded
first-set e f = rw (e, f) refl

-- one more place
pub row_more : (l a : List ℕ) (i x : ℕ) → i < 20 → i < length l → a ≡ padded 20 (take i l) → x ≡ get_or l i 0 → set a i x ≡ padded 20 (take (i + 1) l)
row_more l a i x h g e f = rw (e, f, add-one i) (padded-set 20 i l h g)

-- all places
pub row_ends : (l a : List ℕ) (i : ℕ) → length l ≤ i → a ≡ padded 20 (take i l) → a ≡ padded 20 l
row_ends l a i h e = e ∙ ap (padded 20) (take_all i l h)

-- ---- the laminations one by one

lines-length : (s : Parameters) (m : Amounts) (p k n : ℕ) → length (laminations s m p k n []) ≡ n
unfolding laminations
lines-length s m p k zero = refl
lines-length s m p k (suc n) = ap suc (lines-length s m p (k + 1) n)

module _ (s : Parameters) (m : Amounts) (p : ℕ) (g : Line → ℕ) where
  pub laminations-length : (k n : ℕ) → length (map g (laminations s m p k n [])) ≡ n
  unfolding laminations
  laminations-length k zero = refl
  laminations-length k (suc n) = ap suc (laminations-length (k + 1) n)

  pub lamination-at : (k n i j : ℕ) → i < n → j ≡ k + i → g (lamination s m p j) ≡ get_or (map g (laminations s m p k n [])) i 0
  unfolding laminations
  lamination-at k zero i j h e = absurd (omega arith)
  lamination-at k (suc n) zero j h e = ap (λ (z : ℕ). g (lamination s m p z)) (omega arith)
  lamination-at k (suc n) (suc i) j h e = lamination-at (k + 1) n i j (omega arith) (omega arith)

-- ---- the lines, packed

energy-laminations : (s : Parameters) (m : Amounts) (p k n : ℕ) (l : List Line)
    → energy_lines (laminations s m p k n l) ≡ laminations s m p k n (energy_lines l)
unfolding energy_lines laminations
energy-laminations s m p k zero l = refl
energy-laminations s m p k (suc n) l = ap (λ (r : List Line). lamination s m p k ∷ r) (energy-laminations s m p (k + 1) n l)

pub amount-laminations : (s : Parameters) (m : Amounts) (p k n v : ℕ) (l : List Line) → eqb energy v ≡ false
    → amount_of v (laminations s m p k n l) ≡ amount_of v l
unfolding amount_of laminations
amount-laminations s m p k zero v l e = refl
amount-laminations s m p k (suc n) v l e = rw e (amount-laminations s m p (k + 1) n v l e)

abbrev pub others : Sum → Sum → Sum → List Line
others a b c = single start a ∷ single no_load b ∷ single reserve c ∷ []

-- n laminations in the arrays, with three other levels
abbrev filled : Parameters → Amounts → ℕ → ℕ → ℕ → Sum → Sum → Sum → HourLevels
filled s m t p n a b c =
    hour_levels t p n
    (padded 20 (map (λ x. x.from) (laminations s m p 1 n [])))
    (padded 20 (map (λ x. x.to) (laminations s m p 1 n [])))
    (padded 20 (map (λ x. amount x) (laminations s m p 1 n [])))
    (cents (micro_dollars a)) (cents (micro_dollars b)) (cents (micro_dollars c))

packed-laminations : (s : Parameters) (m : Amounts) (t p n : ℕ) (a b c : Sum) → packed t p (laminations s m p 1 n (others a b c)) ≡ filled s m t p n a b c
unfolding packed energy_lines single amount_of
packed-laminations s m t p n a b c =
    rw (
      energy-laminations s m p 1 n (others a b c),
      amount-laminations s m p 1 n 2 (others a b c) refl,
      amount-laminations s m p 1 n 3 (others a b c) refl,
      amount-laminations s m p 1 n 4 (others a b c) refl,
      lines-length s m p 1 n,
    ) refl

-- ---- by technology

module _ (s : Parameters) (m : Amounts) (p : ℕ) where
  pub thermal-packed : technology s ≡ 1 → {t n x y z : ℕ} {a b c : List ℕ} → t ≡ 1 → n ≡ points s - 1
      → a ≡ padded 20 (map (λ l. l.from) (laminations s m p 1 n [])) → b ≡ padded 20 (map (λ l. l.to) (laminations s m p 1 n []))
      → c ≡ padded 20 (map (λ l. amount l) (laminations s m p 1 n []))
      → x ≡ cents (micro_dollars (start_cost s m p)) → y ≡ cents (micro_dollars (no_load_cost s m p)) → z ≡ cents (micro_dollars (adders m p reserve))
      → hour_levels t p n a b c x y z ≡ packed (technology s) p (lines_of s m p)
  unfolding lines_of
  thermal-packed e r n a b c x y z =
      rw (e, r, a, b, c, x, y, z, n) (sym (packed-laminations s m 1 p (points s - 1) (start_cost s m p) (no_load_cost s m p) (adders m p reserve)))

  -- one lamination in the arrays, of energy y, with reserve z
  abbrev one : ℕ → ℕ → ℕ → HourLevels
  one t y z = hour_levels t p 1 (replicate 20 0) (padded 20 (capacity s ∷ [])) (padded 20 (cents y ∷ [])) 0 0 (cents z)

  pub nuclear-packed : technology s ≡ 2 → {y : ℕ} → y ≡ micro_dollars (nuclear_energy s m p) → one 2 y 0 ≡ packed (technology s) p (lines_of s m p)
  unfolding lines_of packed energy_lines amount_of one_lamination padded cents quotient
  nuclear-packed e y = rw (e, y) refl

  pub storage-packed : technology s ≡ 3 → {y z : ℕ} → y ≡ micro_dollars (storage_energy s m p) → z ≡ micro_dollars (adders m p reserve)
      → one 3 y z ≡ packed (technology s) p (lines_of s m p)
  unfolding lines_of packed energy_lines amount_of one_lamination single padded
  storage-packed e y z = rw (e, y, z) refl

  pub hydro-packed : technology s ≡ 4 → {y z : ℕ} → y ≡ micro_dollars (hydro_energy s m p) → z ≡ micro_dollars (adders m p reserve)
      → one 4 y z ≡ packed (technology s) p (lines_of s m p)
  unfolding lines_of packed energy_lines amount_of one_lamination single padded
  hydro-packed e y z = rw (e, y, z) refl

-- what `one_lamination` hands over, given the levels that it is to be
pub one-handed :
    {t p z : ℕ} {r : SingleLevels} {a b x b' x' : List ℕ} {h : HourLevels}
    → r ≡ single_levels t p 1 0 0 z → a ≡ replicate 20 0 → b ≡ b' → x ≡ x'
    → hour_levels t p 1 (replicate 20 0) b' x' 0 0 z ≡ h → hour_of r a b x ≡ h
one-handed r a b x e = rw (r, a, b, x) e

-- ---- and unpacked again

padded-at : (k i : ℕ) (l : List ℕ) → i < k → get_or (padded k l) i 0 ≡ get_or l i 0
unfolding padded
padded-at zero i l h = absurd (omega arith)
padded-at (suc k) zero [] h = refl
padded-at (suc k) (suc i) [] h = padded-at k i [] (omega arith)
padded-at (suc k) zero (x ∷ l) h = refl
padded-at (suc k) (suc i) (x ∷ l) h = padded-at k i l (omega arith)

module _ (s : Parameters) (m : Amounts) (p n : ℕ) (fits : n ≤ 20) where
  -- one column of the arrays, read at place i
  at : (g : Line → ℕ) (i : ℕ) → i < n → {a : List ℕ} → a ≡ padded 20 (map g (laminations s m p 1 n [])) → get_or a i 0 ≡ g (lamination s m p (suc i))
  at g i h e =
      ap (λ (l : List ℕ). get_or l i 0) e
      ∙ padded-at 20 i (map g (laminations s m p 1 n [])) (omega arith)
      ∙ sym (lamination-at s m p g 1 n i (suc i) h (omega arith))

  rows : (r : Arrays) → r.from ≡ padded 20 (map (λ x. x.from) (laminations s m p 1 n [])) → r.to ≡ padded 20 (map (λ x. x.to) (laminations s m p 1 n []))
      → r.cents ≡ padded 20 (map (λ x. amount x) (laminations s m p 1 n []))
      → (i k : ℕ) → i + k ≤ n → laminations_from r i k ≡ map shown (laminations s m p (suc i) k [])
  unfolding laminations_from laminations
  rows r a b c i zero h = refl
  rows r a b c i (suc k) h =
      let x = at (λ l. l.from) i (omega arith) a in
      let y = at (λ l. l.to) i (omega arith) b in
      let z = at (λ l. amount l) i (omega arith) c in
      ap₂ (λ (u : Shown) (l : List Shown). u ∷ l) (λ j. shown_as energy (suc i) (x j) (y j) (z j))
      (rw (add-one (suc i)) (rows r a b c (suc i) k (omega arith)))

shown-others : (s : Parameters) (m : Amounts) (p k n : ℕ) (l : List Line) → map shown (laminations s m p k n l) ≡ map shown (laminations s m p k n [])
    ++ map shown l
unfolding laminations
shown-others s m p k zero l = refl
shown-others s m p k (suc n) l = ap (λ (r : List Shown). shown (lamination s m p k) ∷ r) (shown-others s m p (k + 1) n l)

count_to-high : (n : ℕ) (f : ℕ → Bool) → count_to n f ≤ n
unfolding count_to
count_to-high zero f = le_refl 0
count_to-high (suc n) f = go (f (suc n)) (count_to-high n f)
  where
    go : (b : Bool) → count_to n f ≤ n → count_to n f + cond b 1 0 ≤ suc n
    go true h = omega arith
    go false h = omega arith

points-high : (s : Parameters) → points s - 1 ≤ 20
unfolding points
points-high s = omega (arith, count_to-high 21 (s.has HP))

module _ (s : Parameters) (m : Amounts) (p : ℕ) where
  thermal-lines : eqb (technology s) 1 ≡ true → lines_of s m p ≡ laminations s m p 1 (points s - 1)
      (others (start_cost s m p) (no_load_cost s m p) (adders m p reserve))
  unfolding lines_of
  thermal-lines e = rw e refl

  thermal-unpacked : eqb (technology s) 1 ≡ true → unpacked (packed (technology s) p (lines_of s m p)) ≡ map shown (lines_of s m p)
  unfolding unpacked single_of holds levels_of among single
  thermal-unpacked e =
      let n : ℕ = points s - 1 in
      let x : Sum = start_cost s m p in
      let y : Sum = no_load_cost s m p in
      let z : Sum = adders m p reserve in
      rw (
        thermal-lines e,
        packed-laminations s m (technology s) p n x y z,
        e,
        rows s m p n (points-high s) (arrays_of (filled s m (technology s) p n x y z)) refl refl refl 0 n (omega arith),
        shown-others s m p 1 n (others x y z),
      )
      (simp append_assoc)

  nuclear-unpacked : eqb (technology s) 1 ≡ false → eqb (technology s) 2 ≡ true
      → unpacked (packed (technology s) p (lines_of s m p)) ≡ map shown (lines_of s m p)
  unfolding lines_of unpacked laminations_from single_of holds levels_of among packed energy_lines amount_of padded one_lamination
  nuclear-unpacked e f = rw (e, f) refl

  storage-unpacked : eqb (technology s) 1 ≡ false → eqb (technology s) 2 ≡ false → eqb (technology s) 3 ≡ true
      → unpacked (packed (technology s) p (lines_of s m p)) ≡ map shown (lines_of s m p)
  unfolding lines_of unpacked laminations_from single_of holds levels_of among packed energy_lines amount_of padded one_lamination single
  storage-unpacked e f g = rw (e, f, g) refl

  hydro-unpacked : eqb (technology s) 1 ≡ false → eqb (technology s) 2 ≡ false → eqb (technology s) 3 ≡ false → eqb (technology s) 4 ≡ true
      → unpacked (packed (technology s) p (lines_of s m p)) ≡ map shown (lines_of s m p)
  unfolding lines_of unpacked laminations_from single_of holds levels_of among packed energy_lines amount_of padded one_lamination single
  hydro-unpacked e f g i = rw (e, f, g, i) refl

  none-unpacked : eqb (technology s) 1 ≡ false → eqb (technology s) 2 ≡ false → eqb (technology s) 3 ≡ false → eqb (technology s) 4 ≡ false
      → unpacked (packed (technology s) p (lines_of s m p)) ≡ map shown (lines_of s m p)
  unfolding lines_of unpacked laminations_from single_of holds levels_of among packed energy_lines
  none-unpacked e f g i = rw (e, f, g, i) refl

  -- the arrays show each line, and no other
  pub unpacked-levels : unpacked (packed (technology s) p (lines_of s m p)) ≡ map shown (lines_of s m p)
  unpacked-levels =
      split (eqb (technology s) 1) thermal-unpacked
      (λ e. split (eqb (technology s) 2) (nuclear-unpacked e)
      (λ f. split (eqb (technology s) 3) (storage-unpacked e f) (λ g. split (eqb (technology s) 4) (hydro-unpacked e f g) (none-unpacked e f g))))

  -- no more laminations than places
  pub count-levels : (t : ℕ) → (packed t p (lines_of s m p)).count ≤ 20
  unfolding lines_of packed energy_lines one_lamination single
  count-levels t = go (eqb (technology s) 1) (eqb (technology s) 2) (eqb (technology s) 3) (eqb (technology s) 4)
    where
      go : (a b c d : Bool)
          → length (energy_lines (cond a (laminations s m p 1 (points s - 1) (others (start_cost s m p) (no_load_cost s m p) (adders m p reserve)))
          (cond b (one_lamination s (nuclear_energy s m p) ∷ []) (cond c (one_lamination s (storage_energy s m p) ∷ single reserve (adders m p reserve) ∷ [])
          (cond d (one_lamination s (hydro_energy s m p) ∷ single reserve (adders m p reserve) ∷ []) []))))) ≤ 20
      go true b c d =
          rw (
            energy-laminations s m p 1 (points s - 1) (others (start_cost s m p) (no_load_cost s m p) (adders m p reserve)),
            lines-length s m p 1 (points s - 1),
          ) (points-high s)
      go false true c d = lit≤ tt
      go false false true d = lit≤ tt
      go false false false true = lit≤ tt
      go false false false false = lit≤ tt
