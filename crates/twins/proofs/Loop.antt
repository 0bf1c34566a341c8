-- The turns of `search`.
use mathlib.Core.Path.{◌≡◌, refl, ap, sym, ◌∙◌}
use mathlib.Core.Bool.{Bool, true, false, false≢true}
use mathlib.Core.List.{List, [], ◌∷◌}
use Prim.Native.Nat.{ℕ, ◌+◌, ◌*◌, ◌-◌, ◌≤◌, ◌<◌}
use native.Mathlib.Omega.{arith}
use lib.ListN.{length, take, drop}
use lib.Dec.{ltb}
use borrow.Author.Tests.{ltb-true, ltb-false}
use Rattle.lists.proofs.Tests.{split as either}
use Rattle.fields.specs.Numbers.{number}
use Rattle.records.specs.Record.{mark, size, issue, fault}
use Rattle.records.specs.MarkShapes.{shortest}
use Rattle.records.specs.Answers.{Accepted, Answer, or_else, refuse_if, Refused}
use Rattle.records.specs.Dossier.{records, scan}
use Rattle.records.specs.Walk.{Record, found}
use Rattle.records.proofs.Dossier.{scan-each}
use Rattle.records.proofs.Over.{tail, Over, begins, ends, its-fault, its-length, its-found, within, answers, goes_on}
use Rattle.station.specs.Current.{any_twin, twins}
use Rattle.index.specs.Slots.{slot_at, wide}
use Rattle.index.proofs.Turn.{its-issue, its-slot, long, below}
use Rattle.twins.specs.Tree.{Shape, Fresh, Entered, seen, new}
use Rattle.twins.proofs.Tree.{shaped, bare}
use Rattle.twins.proofs.Seen.{id, Seen, yes-twin, no-twin, grown, unseen}

-- 4 from a place on, where some records were before
abbrev sought : List (List ℕ) → ℕ → List (List ℕ) → Answer
sought s p l = twins p s l

abbrev Clean : List ℕ → Type 0
Clean r = fault r ≡ 0

-- what is known at place p: the records before it have no twins, those after it no faults
pub record Known (n : ℕ) (d l ids : List ℕ) (p count : ℕ) : Type 0 where
  pub before : List (List ℕ)
  pub over : Over Clean sought [] d p before
  pub shape : Shape n l ids count
  pub tree : Seen n before l ids count

-- at the start
pub start : (n : ℕ) (d l ids : List ℕ) → Fresh n l (length ids) (length d) → scan 0 (records d) ≡ Accepted → Known n d l ids 0 0
start n d l ids f h = record { before = []; over = begins (scan-each 0 (records d) h); shape = bare ids f; tree = unseen n l ids }

-- ---- the record at place p, of n bytes by its mark

module _ (d : List ℕ) (p : ℕ) {n roots count : ℕ} {l ids : List ℕ} (h : p < length d) (kn : Known roots d l ids p count)
    (en : n ≡ size (mark (take (length d - p) (drop p d)))) where
  abbrev r : List ℕ
  r = take n (drop p d)

  here : found (drop p d) ≡ Record (mark (drop p d)) n
  here = its-found (λ r e. e) h kn.over en

  clean : fault r ≡ 0
  clean = its-fault (λ r e. e) h kn.over en

  -- it is not short, and lies within the dossier
  pub spans : (shortest ≤ n) × (n ≤ length d - p)
  spans = (long (drop p d) _ _ here, (within (λ r e. e) h kn.over en).1)

  -- the definition with it: a twin, or on to the next
  twins-yes : any_twin r kn.before ≡ true → Refused 4 p ≡ twins 0 [] (records d)
  unfolding twins or_else refuse_if
  twins-yes a = answers (λ r e. e) h kn.over en (rw a refl)

  twins-no : any_twin r kn.before ≡ false → Over Clean sought [] d (p + n) (r ∷ kn.before)
  unfolding twins or_else refuse_if
  twins-no a = goes_on (λ r e. e) h kn.over en (rw (a, its-length (λ r e. e) h kn.over en) refl)

  module _ {j : ℕ} (ej : j ≡ slot_at (mark (take (length d - p) (drop p d))) (take (length d - p) (drop p d))) where
    slot_is : j ≡ slot_at (mark (drop p d)) (take (length d - p) (drop p d))
    slot_is = ej ∙ ap (λ (s : List ℕ). slot_at (mark s) (take (length d - p) (drop p d))) (tail d p)

    pub slot-fits : j < wide
    slot-fits = below d p _ _ here slot_is

    module _ {w : ℕ} {l' ids' : List ℕ} {b : Bool} (ew : w ≡ number 2 4 (take (length d - p) (drop p d))) (low : w < 4294967296)
        (ent : Entered roots l ids count (j * 4294967296 + w) b l' ids') where
      w-is : w ≡ issue r
      w-is = ew ∙ ap (number 2 4) (tail d p) ∙ sym (its-issue (drop p d) _ n here)

      entered : Entered roots l ids count (id r) b l' ids'
      entered = rw (slot_is ∙ ap (slot_at (mark (drop p d))) (tail d p) ∙ sym (its-slot (drop p d) _ n here), w-is) at ent

      low-is : issue r < 4294967296
      low-is = rw w-is at low

      -- its id was seen: refused here
      pub twin-there : b ≡ true → Refused 4 p ≡ twins 0 [] (records d)
      twin-there t = go entered
        where
          go : Entered roots l ids count (id r) b l' ids' → Refused 4 p ≡ twins 0 [] (records d)
          go (seen _ m a q) = twins-yes (yes-twin kn.tree kn.shape r clean low-is m a q)
          go (new f m a q u v) = absurd (false≢true (sym f ∙ t))

      -- it was not: on to the next
      pub none-there : b ≡ false → count + 2 < length ids → Known roots d l' ids' (p + n) (count + 1)
      none-there t room = go entered
        where
          go : Entered roots l ids count (id r) b l' ids' → Known roots d l' ids' (p + n) (count + 1)
          go (seen f m a q) = absurd (false≢true (sym t ∙ f))
          go (new f m o z u v) =
              rw (u, v)
              (record {
                before = r ∷ kn.before;
                over = twins-no (no-twin kn.tree r m o z);
                shape = shaped roots l ids count kn.shape (id r) m room;
                tree = grown kn.tree kn.shape r clean low-is m o z;
              })

-- less than the shortest record is left at the end only
pub finish : (d : List ℕ) (p : ℕ) {roots count : ℕ} {l ids : List ℕ} → length d - p < shortest → Known roots d l ids p count
    → Accepted ≡ twins 0 [] (records d)
unfolding twins
finish d p h kn =
    either (ltb p (length d))
    (λ t. absurd (omega (arith, h, spans d p (ltb-true p (length d) t) kn refl)))
    (λ t. ends (ltb-false p (length d) t) kn.over)
