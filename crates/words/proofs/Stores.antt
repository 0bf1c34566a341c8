-- The words of an hour's levels, stored from the front on.
use mathlib.Core.Path.{◌≡◌, refl, ap, sym, ◌∙◌}
use mathlib.Core.List.{List, [], ◌∷◌, ◌++◌, append_assoc}
use Prim.Native.Nat.{ℕ, zero, suc, ◌+◌, ◌*◌, ◌-◌, ◌<◌, ◌≤◌}
use native.Mathlib.Numerals.{add-one}
use native.Mathlib.Omega.{arith}
use lib.ListN.{length, get_or, take, drop, set, replicate, length-append, length-set, length-replicate, get_or-replicate}
use lib.Seq.{drop-cons, get_or-take, length-take-le}
use Rattle.std.proofs.lemmas.List.{take_at}
use Rattle.arrays.specs.declared.HourLevels.{HourLevels}
use Rattle.text.specs.Text.{over}
use Rattle.text.proofs.Over.{Wrote, byte}
use Rattle.arrays.specs.Packed.{Arrays, arrays_of}
use Rattle.words.specs.Words.{held_bits, lamination_words, Blank, words_to, words_of}

-- ---- how many there are

pub words_to-length : (q : ℕ) (r : Arrays) (n : ℕ) → length (words_to q r n) ≡ 3 * n + 2
unfolding words_to
words_to-length q r zero = refl
words_to-length q r (suc n) = simp length-append (omega (arith, words_to-length q r n))

-- always 66
pub words_of-length : (r : HourLevels) → length (words_of r) ≡ 66
unfolding words_of
words_of-length r = simp length-append (omega (arith, words_to-length r.profile (arrays_of r) 20))

-- ---- stores

-- a list whose first n words were overwritten by as many zeros, f
pub cleared : (n : ℕ) (e : List ℕ) {f : List ℕ} → n ≤ length e → f ≡ replicate (length (take n e)) 0 → f ++ drop n e ≡ replicate n 0 ++ drop n e
cleared n e h p = let l : length (take n e) ≡ n = length-take-le n e h in rw (p, l)

-- begins with them
pub cleared-front : (n : ℕ) (e : List ℕ) {w : List ℕ} → w ≡ replicate n 0 ++ e → take n w ≡ replicate n 0
cleared-front n e p = rw p (take_at (replicate n 0) e n (length-replicate n 0))

-- three words past those that stand
three : (x e : List ℕ) (a b c : ℕ) {at : ℕ} {w : List ℕ} → at + 2 < length e → Wrote x e at w
    → Wrote (x ++ (a ∷ b ∷ c ∷ [])) e (at + 3) (set (set (set w at a) (at + 1) b) (at + 2) c)
three x e a b c {at} {w} h p =
    let q : Wrote (x ++ (a ∷ [])) e (at + 1) (set w at a) = byte x e a (omega arith) p in
    let r : Wrote (x ++ (a ∷ []) ++ (b ∷ [])) e (at + 1 + 1) (set (set w at a) (at + 1) b) = byte (x ++ (a ∷ [])) e b (omega arith) q in
    let s = byte (x ++ (a ∷ []) ++ (b ∷ [])) e c (omega arith) r in
    let j : x ++ (a ∷ []) ++ (b ∷ []) ++ (c ∷ []) ≡ x ++ (a ∷ b ∷ c ∷ []) = simp append_assoc in
    let k : at + 2 ≡ at + 1 + 1 = omega arith in
    let l : at + 3 ≡ at + 1 + 1 + 1 = omega arith in
    rw (← j, k, l) s

add-two : (n : ℕ) → n + 2 ≡ suc (suc n)
add-two n = omega arith

-- the first two, which the loop over the places starts from
abbrev begun : ℕ → Arrays → List ℕ → List ℕ
begun q r e = set (set e 0 q) 1 r.count

pub first-words : (q : ℕ) (r : Arrays) (e : List ℕ) → 62 ≤ length e → Wrote (words_to q r 0) (begun q r e) 2 (begun q r e)
unfolding words_to
first-words q r [] h = absurd (omega arith)
first-words q r (x ∷ []) h = absurd (omega arith)
first-words q r (x ∷ y ∷ e) h = (refl, refl)

begun-rest : (q : ℕ) (r : Arrays) (e : List ℕ) (n : ℕ) → drop (n + 2) (begun q r e) ≡ drop (n + 2) e
begun-rest q r e n = rw (add-two n) (go e)
  where
    go : (e : List ℕ) → drop (suc (suc n)) (begun q r e) ≡ drop (suc (suc n)) e
    go [] = refl
    go (x ∷ []) = refl
    go (x ∷ y ∷ e) = refl

-- the places behind the laminations have nothing, as the words that were there
module _ (q : ℕ) (r : Arrays) (h : Blank r) (e : List ℕ) (k : 62 ≤ length e) (z : take 62 e ≡ replicate 62 0) where
  nothing : (j : ℕ) → j < 62 → get_or e j 0 ≡ 0
  nothing j g = sym (get_or-take 62 e j 0 g) ∙ ap (λ (l : List ℕ). get_or l j 0) z ∙ get_or-replicate 62 j 0 0 g

  three-left : (i : ℕ) → i < 20 → drop (3 * i + 2) e ≡ 0 ∷ 0 ∷ 0 ∷ drop (3 * (i + 1) + 2) e
  three-left i g =
      let a : suc (suc (suc (3 * i + 2))) ≡ 3 * (i + 1) + 2 = omega arith in
      rw (
        drop-cons e (3 * i + 2) 0 (omega arith),
        drop-cons e (suc (3 * i + 2)) 0 (omega arith),
        drop-cons e (suc (suc (3 * i + 2))) 0 (omega arith),
        nothing (3 * i + 2) (omega arith),
        nothing (suc (3 * i + 2)) (omega arith),
        nothing (suc (suc (3 * i + 2))) (omega arith),
        a,
      ) refl

  blank-places : (m i : ℕ) → i + m ≡ 20 → r.count ≤ i → words_to q r i ++ drop (3 * i + 2) e ≡ words_to q r 20 ++ drop 62 e
  unfolding words_to
  blank-places zero i f g = let a : i ≡ 20 = omega arith in rw a refl
  blank-places (suc m) i f g =
      ap (λ (l : List ℕ). words_to q r i ++ l) (three-left i (omega arith))
      ∙ sym (append_assoc (words_to q r i) (0 ∷ 0 ∷ 0 ∷ []) (drop (3 * (i + 1) + 2) e))
      ∙ ap (λ (l : List ℕ). words_to q r i ++ l ++ drop (3 * (i + 1) + 2) e) (sym (h.none i g))
      ∙ one_more (blank-places m (i + 1) (omega arith) (omega arith))
    where
      one_more : words_to q r (i + 1) ++ drop (3 * (i + 1) + 2) e ≡ words_to q r 20 ++ drop 62 e → words_to q r i ++ lamination_words r i
          ++ drop (3 * (i + 1) + 2) e ≡ words_to q r 20 ++ drop 62 e
      one_more u = ap (λ (n : ℕ). words_to q r n ++ drop (3 * (i + 1) + 2) e) (sym (add-one i)) ∙ u

  -- and what it ends with
  pub all-places : {i : ℕ} {w : List ℕ} → i ≡ r.count → Wrote (words_to q r i) (begun q r e) (3 * i + 2) w → w ≡ words_to q r 20 ++ drop 62 e
  all-places {i} f (p, u) =
      u ∙ rw (words_to-length q r i, begun-rest q r e (3 * i)) (blank-places (20 - i) i (omega (arith, h.few)) (omega arith))

-- those of one place more
pub next-words : (q : ℕ) (r : Arrays) (e : List ℕ) (i : ℕ) {w : List ℕ} → i < 20 → 62 ≤ length e → Wrote (words_to q r i) (begun q r e) (3 * i + 2) w
    → Wrote (words_to q r (i + 1)) (begun q r e) (3 * (i + 1) + 2)
    (set (set (set w (3 * i + 2) (get_or r.from i 0)) (3 * i + 2 + 1) (get_or r.to i 0)) (3 * i + 2 + 2) (get_or r.cents i 0))
unfolding words_to
next-words q r e i h k p =
    let l : 3 * (i + 1) + 2 ≡ 3 * i + 2 + 3 = omega arith in
    let b : 3 * i + 2 + 2 < length (begun q r e) = rw (length-set, length-set) (omega arith) in
    rw (l, add-one i) (three (words_to q r i) (begun q r e) (get_or r.from i 0) (get_or r.to i 0) (get_or r.cents i 0) b p)

-- so after the words are cleared and the laminations put
pub placed : (r : HourLevels) (e : List ℕ) {l w : List ℕ} → l ≡ replicate 62 0 ++ drop 62 e
    → w ≡ words_to r.profile (arrays_of r) 20 ++ drop 62 l → w ≡ words_to r.profile (arrays_of r) 20 ++ drop 62 e
placed r e p q = q ∙ rw p refl

-- the last four
pub last-words : (r : HourLevels) (e : List ℕ) {b : ℕ} {w : List ℕ} → 66 ≤ length e → b ≡ held_bits r.technology → w ≡ words_to r.profile (arrays_of r) 20
    ++ drop 62 e
    → set (set (set (set w 62 b) 63 r.start) 64 r.noload) 65 r.reserve ≡ words_of r ++ drop 66 e
unfolding words_of
last-words r e {b} {w} h f q =
    let x : List ℕ = words_to r.profile (arrays_of r) 20 in
    let p : Wrote x e 62 w = rw (words_to-length r.profile (arrays_of r) 20) (refl, q) in
    let s = byte (x ++ (b ∷ []) ++ (r.start ∷ []) ++ (r.noload ∷ [])) e r.reserve (omega arith)
    (byte (x ++ (b ∷ []) ++ (r.start ∷ [])) e r.noload (omega arith)
    (byte (x ++ (b ∷ [])) e r.start (omega arith)
    (byte x e b (omega arith) p))) in
    let j : x ++ (b ∷ []) ++ (r.start ∷ []) ++ (r.noload ∷ []) ++ (r.reserve ∷ []) ≡ words_of r = rw f (simp append_assoc) in
    s.1 ∙ ap (λ (l : List ℕ). over l e) j ∙ ap (λ (n : ℕ). words_of r ++ drop n e) (words_of-length r)
