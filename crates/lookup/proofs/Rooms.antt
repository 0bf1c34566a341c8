-- How long an index a dossier is read with, and whether a short one has a slot for every record.
use mathlib.Core.Path.{◌≡◌, refl, ap, sym, subst, ◌∙◌}
use mathlib.Core.Bool.{Bool, true, false, ◌&&◌, ◌||◌, not, true≢false}
use mathlib.Core.List.{List, [], ◌∷◌}
use Prim.Native.Nat.{ℕ, ◌+◌, ◌-◌, ◌≤◌, ◌<◌}
use native.Mathlib.Omega.{arith}
use lib.Dec.{eqb, ltb, lit≤}
use borrow.Author.Tests.{eqb-true, eqb-false, ltb-true}
use lib.ListN.{length, take, drop, length-drop, drop_of_length-le}
use lib.Seq.{drop-drop}
use Rattle.std.specs.Prelude.{Result, Err}
use Rattle.records.specs.declared.Refusal.{Refusal}
use Rattle.records.specs.Answers.{Accepted, Refused, refuse_if, refusal_of}
use Rattle.lists.specs.Lists.{Each, done, also}
use Rattle.lists.specs.Tests.{among, every_of}
use Rattle.lists.proofs.Lists.{each_map}
use Rattle.lists.proofs.Tests.{split, and_left, and_right}
use Rattle.records.specs.Table.{table, CH, FP, LC, marks}
use Rattle.records.specs.Record.{mark, datable, size}
use Rattle.records.specs.Marks.{row}
use Rattle.records.specs.declared.marks.Mark.{Mark}
use mathlib.Core.Logic.{◌⊎◌, inl, inr}
use Rattle.records.specs.Dossier.{rest_of, records_in, records}
use Rattle.records.proofs.Record.{no_size}
use Rattle.records.proofs.Dated.{other-mark}
use Rattle.records.proofs.EveryMark.{size-most}
use Rattle.records.proofs.Dossier.{first-mark, records-step}
use Rattle.station.specs.Current.{longest, matches, current}
use Rattle.station.proofs.Current.{matches-kind}
use Rattle.index.proofs.Turn.{tail}
use Rattle.lookup.specs.Parts.{fits_short, too_long}
use Rattle.lookup.proofs.Parts.{none-current}

-- what is refused before a dossier is read: one that is too long
pub overlong-room : {A : Type 0} {w : Result A Refusal} {r : Refusal} (d : List ℕ) → refusal_of w ≡ too_long d → w ≡ Err r
    → (longest < length d) × (r ≡ record { number = 13; place = 0 })
unfolding refusal_of refuse_if
overlong-room {r = r} d e f =
    let said : Err r ≡ too_long d = rw f at e in
    split (ltb longest (length d))
    (λ t. (ltb-true longest (length d) t, let at : Err r ≡ Refused 13 0 = rw t at said in cc))
    (λ z. absurd (let at : Err r ≡ Accepted = rw z at said in cc))

-- ---- the records by their marks, one after the other

-- a mark whose slots come last
abbrev Late : ℕ → Bool
Late k = eqb k CH || eqb k FP || eqb k LC

-- no record is longer than 31 bytes
pub size-le : (k : ℕ) → k < marks → size k ≤ 31
size-le k h = split (eqb k 0) (λ z. rw (eqb-true k 0 z, no_size) (lit≤ tt)) (λ z. size-most k (eqb-false k 0 z) h)

-- what is left from place p on tells
abbrev pub Left : List ℕ → ℕ → Type 0
Left d p = every_of (λ r. not (Late (mark r))) (records (drop p d)) ≡ fits_short d

pub all_left : (d : List ℕ) → Left d 0
unfolding fits_short
all_left d = refl

pub none_left : (d : List ℕ) (p : ℕ) → length d ≤ p → Left d p → true ≡ fits_short d
unfolding records records_in every_of
none_left d p h left = rw (drop_of_length-le d {i = p} h) at left

module _ (d : List ℕ) (p : ℕ) (h : p < length d) (left : Left d p) {k : ℕ} (q : k ≡ mark (take (length d - p) (drop p d))) where
  step : not (Late k) && every_of (λ r. not (Late (mark r))) (records (rest_of (drop p d))) ≡ fits_short d
  unfolding every_of
  step =
      rw (q, tail d p, ← first-mark (drop p d)) (subst (λ (l : List (List ℕ)). every_of (λ r. not (Late (mark r))) l ≡ fits_short d)
      (records-step (drop p d) (omega (arith, length-drop p d))) left)

  pub at-late : Late k ≡ true → false ≡ fits_short d
  at-late e = rw e at step

  pub at_next : Late k ≡ false → {n : ℕ} → n ≡ size k → Left d (p + n)
  unfolding rest_of
  at_next e s = rw (s, q, tail d p, ← drop-drop (size (mark (drop p d))) p d) (rw e at step)

every-each : {A : Type 0} (f : A → Bool) (l : List A) → every_of f l ≡ true → Each (λ a. f a ≡ true) l
unfolding every_of
every-each f [] e = done
every-each f (a ∷ l) e = also (and_left (f a) (every_of f l) e) (every-each f l (and_right (f a) (every_of f l) e))

-- such a mark has no first hour
late-undated : (k : ℕ) → Late k ≡ true → datable k ≡ false
unfolding datable among table
late-undated k e =
    split (eqb k CH)
    (λ a. rw (eqb-true k CH a) refl)
    (λ a. split (eqb k FP)
    (λ b. rw (eqb-true k FP b) refl)
    (λ b. split (eqb k LC)
    (λ c. rw (eqb-true k LC c) refl)
    (λ c. absurd (true≢false (sym e ∙ rw (a, b, c) refl)))))

-- a dossier without such a record has none of them
pub short_none : (d : List ℕ) → true ≡ fits_short d → (k n : ℕ) → Late k ≡ true → current k n (records d) ≡ []
unfolding fits_short current
short_none d e k n late =
    none-current k n []
    (each_map
    (λ r z. split (matches k n r) (λ m. absurd (true≢false (sym late ∙ ap Late (sym (other-mark r (late-undated k late) (matches-kind k n r m)))
    ∙ not_late r z))) (λ m. m))
    (every-each (λ r. not (Late (mark r))) (records d) (sym e)))
  where
    not_late : (r : List ℕ) → not (Late (mark r)) ≡ true → Late (mark r) ≡ false
    not_late r z = go (Late (mark r)) z
      where
        go : (b : Bool) → not b ≡ true → b ≡ false
        go true e = sym e
        go false e = refl

-- ---- by a mark's name

pub late_is : (m : Mark) → (m ≡ Mark.CH) ⊎ (m ≡ Mark.FP) ⊎ (m ≡ Mark.LC) → Late (row m) ≡ true
late_is m (inl e) = rw e refl
late_is m (inr (inl e)) = rw e refl
late_is m (inr (inr e)) = rw e refl

pub late_not : (m : Mark) → (m ≡ Mark.CH → ⊥) → (m ≡ Mark.FP → ⊥) → (m ≡ Mark.LC → ⊥) → Late (row m) ≡ false
late_not Mark.CH a b c = absurd (a refl)
late_not Mark.FP a b c = absurd (b refl)
late_not Mark.LC a b c = absurd (c refl)
late_not _ a b c = refl
