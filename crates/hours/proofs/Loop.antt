-- The loop that fills the slots again, over the records of a dossier without faults.
use mathlib.Core.Path.{◌≡◌, refl, ap, ap₂, sym, ◌∙◌}
use mathlib.Core.Bool.{Bool, true, false, cond, ◌&&◌}
use mathlib.Core.List.{List}
use Prim.Native.Nat.{ℕ, ◌+◌, ◌-◌, ◌≤◌, ◌<◌}
use native.Mathlib.Omega.{arith}
use lib.Dec.{leb, lit<}
use lib.ListN.{length, get_or, set, take, drop, length-drop}
use Rattle.lists.proofs.Tests.{split}
use Rattle.fields.specs.Numbers.{number}
use Rattle.records.specs.Answers.{Accepted}
use Rattle.records.specs.Record.{mark, kind_of, kind, datable, since, size, key_of, fault}
use Rattle.records.specs.MarkShapes.{shortest}
use Rattle.records.specs.Dossier.{records, scan}
use Rattle.records.specs.Walk.{Record, found, folded}
use Rattle.records.proofs.Record.{faultless}
use Rattle.records.proofs.Read.{number-take}
use Rattle.records.proofs.Over.{tail, Over, begins, ends, its-fault, its-mark, its-length, its-found, within, goes_on}
use Rattle.index.specs.Slots.{slot_at, short, held_issue, newer, put}
use Rattle.index.proofs.KeyBounds.{in-key}
use Rattle.index.proofs.Holds.{Good, good-records}
use Rattle.index.proofs.Turn.{long, its-issue, its-slot}
use Rattle.hours.specs.Filling.{dated_slot, hour_at, hour_step, filled_at}
use Rattle.hours.proofs.Emptied.{dated-slot}

-- what is sought: the index after the last record
abbrev sought : ℕ → List ℕ → List ℕ → ℕ → List (List ℕ) → List ℕ
sought h d ix p l = folded (hour_step h d) p ix l

-- at place p of the loop
abbrev pub Left : ℕ → List ℕ → List ℕ → ℕ → List ℕ → Type 0
Left h d ix₀ p ix = Over Good (sought h d) ix₀ d p ix

sane : (r : List ℕ) → Good r → fault r ≡ 0
sane r g = g.0

pub begin : (h : ℕ) (d ix : List ℕ) → scan 0 (records d) ≡ Accepted → Left h d ix 0 ix
begin h d ix e = begins (good-records d e)

pub finish : (h : ℕ) (d ix₀ ix : List ℕ) (p : ℕ) → length d ≤ p → Left h d ix₀ p ix → ix ≡ filled_at h d ix₀
unfolding folded filled_at
finish h d ix₀ ix p e left = ends e left

-- at a record
module _ (h : ℕ) (d ix₀ ix : List ℕ) (p : ℕ) (inside : p < length d) (left : Left h d ix₀ p ix) where
  abbrev s : List ℕ
  s = drop p d

  -- the rest as code has it
  abbrev rest : List ℕ
  rest = take (length d - p) (drop p d)

  abbrev k : ℕ
  k = mark s

  abbrev r : List ℕ
  r = take (size k) s

  en : size k ≡ size (mark rest)
  en = ap (λ (x : List ℕ). size (mark x)) (sym (tail d p))

  clean : fault r ≡ 0
  clean = its-fault sane inside left en

  k-record : mark r ≡ k
  k-record = its-mark sane inside left en

  here : found s ≡ Record k (size k)
  here = its-found sane inside left en

  above : 1 ≤ k
  above = go k (λ e. (faultless r clean).known (k-record ∙ e))
    where
      go : (m : ℕ) → (m ≡ 0 → ⊥) → 1 ≤ m
      go m f = omega (arith, f)

  pub known : 1 ≤ mark rest
  known = rw (tail d p) above

  within-k : (1 ≤ size k) × (size k ≤ length d - p)
  within-k = within sane inside left en

  pub its-size : (1 ≤ size (mark rest)) × (size (mark rest) ≤ length d - p)
  its-size = rw (tail d p) within-k

  -- as long as the shortest record
  pub its-least : length rest < shortest → ⊥
  its-least l = omega (arith, l, ap length (tail d p), length-drop p d, long s k (size k) here, within-k)

  its-kind : kind r ≡ kind_of k
  unfolding kind
  its-kind = ap kind_of k-record

  its-since : since r ≡ since s
  unfolding since
  its-since = rw (k-record, number-take (size k) 6 4 s (omega (arith, long s k (size k) here))) refl

  -- its slot is one of theirs, or RS's
  slot-k : dated_slot k s < short
  unfolding dated_slot
  slot-k =
      split (datable (kind_of k))
      (λ e. rw e (let z = dated-slot (kind r) (key_of r) (in-key r clean) (ap datable its-kind ∙ e) in omega (arith, z, its-slot s k (size k) here)))
      (λ e. rw e (lit< tt))

  pub slot-in : dated_slot (mark rest) rest < short
  slot-in = rw (tail d p) slot-k

  step_is : hour_step h d ix p r ≡ hour_at h d ix p s
  unfolding hour_step hour_at put dated_slot
  step_is = rw (its-slot s k (size k) here, its-issue s k (size k) here, its-kind, its-since) (go (datable (kind_of k)) (leb (since s) h))
    where
      at : ℕ → List ℕ
      at j = set ix j (newer (held_issue d (get_or ix j 0)) (number 2 4 s + 1) (get_or ix j 0) (p + 1))

      go : (a b : Bool) → cond (a && b) (at (slot_at k s)) ix ≡ cond (a && b) (at (cond a (slot_at k s) 0)) ix
      go true b = refl
      go false b = refl

  pub turns : {n : ℕ} {x : List ℕ} → n ≡ size (mark rest) → x ≡ hour_at h d ix p rest → Left h d ix₀ (p + n) x
  unfolding folded
  turns eq e =
      rw (eq ∙ sym en) (goes_on sane inside left en (ap₂ (λ (q : ℕ) (x : List ℕ). folded (hour_step h d) q x (records (drop (p + size k) d)))
      (ap (λ (m : ℕ). p + m) (its-length sane inside left en)) (step_is ∙ ap (hour_at h d ix p) (sym (tail d p)) ∙ sym e)))
