-- Laws of a dossier's records: they are the dossier, back to back, and whole records are those of the dossier that they make.
use mathlib.Core.Path.{◌≡◌, refl, ap, sym, ◌∙◌}
use mathlib.Core.List.{List, [], ◌∷◌, ◌++◌}
use Prim.Native.Nat.{ℕ, zero, suc, ◌+◌, ◌≤◌, ◌<◌}
use native.Mathlib.Nat.{le_refl}
use native.Mathlib.Omega.{arith}
use lib.ListN.{length, length-take, length-drop, length-append, take-append-drop, get_or-append}
use lib.Seq.{take_at, drop_at}
use Rattle.lists.specs.Lists.{Each, done, also, joined}
use Rattle.records.specs.Answers.{Answer, Accepted}
use Rattle.records.specs.Record.{mark, size, fault}
use Rattle.records.specs.Dossier.{first_of, rest_of, records_in, records, first_drawn, scan}
use Rattle.records.proofs.Answers.{or_else-parts, parts-or_else, drawn-none, none-drawn}
use Rattle.records.proofs.Record.{size-ge, mark-take, mark-alike, faultless}

-- ---- the first record and the rest

pub rest-shorter : (s : List ℕ) → 0 < length s → length (rest_of s) < length s
unfolding rest_of
rest-shorter s h = omega (arith, length-drop (size (mark s)) s, size-ge (mark s))

pub first_rest : (s : List ℕ) → first_of s ++ rest_of s ≡ s
unfolding first_of rest_of
first_rest s = take-append-drop (size (mark s)) s

pub first-mark : (s : List ℕ) → mark (first_of s) ≡ mark s
unfolding first_of
first-mark s = mark-take (size (mark s)) s (omega (arith, size-ge (mark s)))

-- a first record without fault is as long as its mark says
pub first-length : (s : List ℕ) → fault (first_of s) ≡ 0 → length (first_of s) ≡ size (mark s)
unfolding first_of
first-length s h =
    let w : size (mark s) ≤ length (first_of s) = rw (first-mark s) at (faultless (first_of s) h).whole in
    omega (arith, w, length-take (size (mark s)) s)

-- ---- the list of records

fuel-enough : (f g : ℕ) (d : List ℕ) → length d ≤ f → length d ≤ g → records_in f d ≡ records_in g d
unfolding records_in
fuel-enough zero zero d p q = refl
fuel-enough zero (suc g) [] p q = refl
fuel-enough zero (suc g) (b ∷ d) p q = absurd (omega arith)
fuel-enough (suc f) zero [] p q = refl
fuel-enough (suc f) zero (b ∷ d) p q = absurd (omega arith)
fuel-enough (suc f) (suc g) [] p q = refl
fuel-enough (suc f) (suc g) (b ∷ d) p q =
    ap (λ (l : List (List ℕ)). first_of (b ∷ d) ∷ l)
    (fuel-enough f g (rest_of (b ∷ d)) (omega (arith, rest-shorter (b ∷ d) (omega arith))) (omega (arith, rest-shorter (b ∷ d) (omega arith))))

pub records-step : (d : List ℕ) → 0 < length d → records d ≡ first_of d ∷ records (rest_of d)
unfolding records records_in
records-step [] h = absurd (omega arith)
records-step (b ∷ d) h =
    ap (λ (l : List (List ℕ)). first_of (b ∷ d) ∷ l)
    (fuel-enough (length d) (length (rest_of (b ∷ d))) (rest_of (b ∷ d)) (omega (arith, rest-shorter (b ∷ d) (omega arith))) (le_refl _))

-- back to back the records are the dossier
joined_in : (f : ℕ) (d : List ℕ) → length d ≤ f → joined (records_in f d) ≡ d
unfolding joined records_in
joined_in zero [] h = refl
joined_in zero (b ∷ d) h = absurd (omega arith)
joined_in (suc f) [] h = refl
joined_in (suc f) (b ∷ d) h =
    rw (joined_in f (rest_of (b ∷ d)) (omega (arith, rest-shorter (b ∷ d) (omega arith)))) (first_rest (b ∷ d))

pub joined-records : (d : List ℕ) → joined (records d) ≡ d
unfolding records
joined-records d = joined_in (length d) d (le_refl _)

-- whole records, back to back, are the records of the dossier that they make
abbrev pub Whole : List ℕ → Type 0
Whole r = length r ≡ size (mark r)

front : (r s : List ℕ) → Whole r → mark (r ++ s) ≡ mark r
front r s h =
    mark-alike (r ++ s) r
    (get_or-append r s 0 0 (omega (arith, h, size-ge (mark r))))
    (get_or-append r s 0 1 (omega (arith, h, size-ge (mark r))))

pub records-joined : {l : List (List ℕ)} → Each Whole l → records (joined l) ≡ l
unfolding joined first_of rest_of
records-joined done = unfold records records_in in refl
records-joined (also {a = r} {l = l} h e) =
    records-step (r ++ joined l) (omega (arith, length-append r (joined l), h, size-ge (mark r)))
    ∙ rw (front r (joined l) h, take_at r (joined l) (size (mark r)) h, drop_at r (joined l) (size (mark r)) h, records-joined e) refl

-- every record of a clean dossier is whole
whole_in : (f : ℕ) (d : List ℕ) → Each (λ r. fault r ≡ 0) (records_in f d) → Each Whole (records_in f d)
unfolding records_in
whole_in zero d e = done
whole_in (suc f) [] e = done
whole_in (suc f) (b ∷ d) (also h e) = also (first-length (b ∷ d) h ∙ ap size (sym (first-mark (b ∷ d)))) (whole_in f (rest_of (b ∷ d)) e)

pub records-whole : (d : List ℕ) → Each (λ r. fault r ≡ 0) (records d) → Each Whole (records d)
unfolding records
records-whole d e = whole_in (length d) d e

-- ---- the first record that draws something

module _ {P : List ℕ → Type 0} {test : ℕ → List ℕ → Answer} where
  pub first-each : ((q : ℕ) (r : List ℕ) → test q r ≡ Accepted → P r) → (p : ℕ) (l : List (List ℕ)) → first_drawn test p l ≡ Accepted → Each P l
  unfolding first_drawn
  first-each f p [] h = done
  first-each f p (r ∷ l) h =
      let z = or_else-parts (test p r) (first_drawn test (p + length r) l) h in
      also (f p r z.0) (first-each f (p + length r) l z.1)

  pub each_first : ((q : ℕ) (r : List ℕ) → P r → test q r ≡ Accepted) → (p : ℕ) {l : List (List ℕ)} → Each P l → first_drawn test p l ≡ Accepted
  unfolding first_drawn
  each_first f p done = refl
  each_first f p (also {a = r} {l = l} h e) = parts-or_else (test p r) (first_drawn test (p + length r) l) (f p r h) (each_first f (p + length r) e)

-- ---- the scan

pub scan-each : (p : ℕ) (l : List (List ℕ)) → scan p l ≡ Accepted → Each (λ r. fault r ≡ 0) l
unfolding scan
scan-each p l h = first-each (λ q r. drawn-none (fault r) q) p l h

pub each-scan : (p : ℕ) {l : List (List ℕ)} → Each (λ r. fault r ≡ 0) l → scan p l ≡ Accepted
unfolding scan
each-scan p e = each_first (λ q r. none-drawn (fault r) q) p e
