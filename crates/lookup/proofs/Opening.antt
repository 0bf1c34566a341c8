-- From the pass to the answer.
use mathlib.Core.Path.{◌≡◌, refl, ap, sym, ◌∙◌}
use mathlib.Core.Bool.{Bool, true, false}
use mathlib.Core.List.{List, [], ◌∷◌}
use Prim.Native.Nat.{ℕ, ◌+◌, ◌≤◌, ◌<◌}
use native.Mathlib.Omega.{arith}
use lib.Dec.{ltb}
use lib.ListN.{length, replicate, length-replicate}
use borrow.Author.Tests.{lt-ltb, le-ltb, ltb-true, ltb-false}
use Rattle.std.specs.Prelude.{Ok, Err}
use Rattle.lists.specs.Lists.{Each, done, also}
use Rattle.lists.proofs.Lists.{each_map}
use Rattle.lists.proofs.Tests.{split, or-false-left, or-false-right}
use Rattle.records.specs.Record.{mark, is_dated}
use Rattle.records.specs.Answers.{Accepted, Answer, or_else, refuse_if, Refused, refusal_of}
use Rattle.records.specs.Dossier.{records, scan}
use Rattle.records.specs.Walk.{folded, walk}
use Rattle.records.proofs.Answers.{or_else-parts, not-refuse_if}
use Rattle.records.proofs.Walk.{walk-is-fold, outcome}
use Rattle.station.specs.Current.{readable, twins}
use Rattle.station.proofs.Current.{too_long}
use Rattle.index.specs.declared.Summary.{Summary}
use Rattle.index.specs.Passed.{Passed, Ended, Stopped}
use Rattle.index.specs.Slots.{short, wide, Kept, kept, fresh, keep_step, pass_of, slots_of}
use Rattle.index.proofs.Holds.{rising-twins, top-slots, folded-length}
use Rattle.lookup.specs.Parts.{scanned, index_of, Whole, Complete, UpTo}
use Rattle.station.specs.InForce.{Undated}

after : (d : List ℕ) → length d ≤ 60000 → readable d ≡ or_else (scan 0 (records d)) (twins 0 [] (records d))
unfolding readable refuse_if or_else
after d h = rw (le-ltb 60000 (length d) h) refl

clean-answer : (d : List ℕ) → length d ≤ 60000 → scan 0 (records d) ≡ Accepted → readable d ≡ twins 0 [] (records d)
unfolding or_else
clean-answer d h e = after d h ∙ rw e refl

-- ---- what the scan says

-- where none was noted, no record has a first hour
still-none : (d : List ℕ) (p : ℕ) (x : Kept) (l : List (List ℕ)) → (folded (keep_step d) p x l).dated ≡ false → x.dated ≡ false
unfolding folded keep_step
still-none d p x [] e = e
still-none d p x (r ∷ l) e = or-false-left x.dated (is_dated (mark r)) (still-none d (p + length r) (keep_step d x p r) l e)

pub none-dated : (d : List ℕ) (p : ℕ) (x : Kept) (l : List (List ℕ)) → (folded (keep_step d) p x l).dated ≡ false → Each (λ r. is_dated (mark r) ≡ false) l
unfolding folded keep_step
none-dated d p x [] e = done
none-dated d p x (r ∷ l) e =
    also (or-false-right x.dated (is_dated (mark r)) (still-none d (p + length r) (keep_step d x p r) l e))
    (none-dated d (p + length r) (keep_step d x p r) l e)

module _ (d : List ℕ) (w : ℕ) where
  pub scan-long : 60000 < length d → Stopped 13 0 ≡ scanned w d
  unfolding scanned
  scan-long h = rw (lt-ltb 60000 (length d) h) refl

  scan-pass : length d ≤ 60000 → scanned w d ≡ pass_of (walk (keep_step d) (fresh w) d)
  unfolding scanned
  scan-pass h = rw (le-ltb 60000 (length d) h) refl

  pub scan-short : {ix : List ℕ} {r : Passed} → ix ≡ replicate w 0 → length d ≤ 60000 → r ≡ pass_of (walk (keep_step d) (kept ix true 0 false) d)
      → r ≡ scanned w d
  scan-short z h e = e ∙ rw z (sym (scan-pass h))

  fold : Kept
  fold = folded (keep_step d) 0 (fresh w) (records d)

  way : (a : Answer) → scan 0 (records d) ≡ a → walk (keep_step d) (fresh w) d ≡ outcome a fold
  unfolding fold
  way a e = walk-is-fold (keep_step d) (fresh w) d ∙ ap (λ (x : Answer). outcome x (folded (keep_step d) 0 (fresh w) (records d))) e

  -- the pass ended: nothing was drawn
  pass-ended : {b : Bool} {c : ℕ} {f : Bool} → Ended b c f ≡ pass_of (walk (keep_step d) (fresh w) d) → (scan 0 (records d) ≡ Accepted)
      × (b ≡ fold.rising) × (c ≡ fold.top) × (f ≡ fold.dated)
  unfolding pass_of outcome
  pass-ended {b} {c} {f} e = go (scan 0 (records d)) refl
    where
      go : (a : Answer) → scan 0 (records d) ≡ a → (scan 0 (records d) ≡ Accepted) × (b ≡ fold.rising) × (c ≡ fold.top) × (f ≡ fold.dated)
      go (Ok x) s =
          let z : Ended b c f ≡ Ended fold.rising fold.top fold.dated = e ∙ ap pass_of (way Accepted s) in
          let y : ◌≡◌ {A = Summary} (record { rising = b; top = c; dated = f }) (record { rising = fold.rising; top = fold.top; dated = fold.dated }) = cc in
          (s, ap (λ (x : Summary). x.rising) y, ap (λ (x : Summary). x.top) y, ap (λ (x : Summary). x.dated) y)
      go (Err r) s = absurd (let z : Ended b c f ≡ Err r = e ∙ ap pass_of (way (Err r) s) in cc)

  -- the pass stopped: at what is drawn first
  pass-stopped : (n p : ℕ) → length d ≤ 60000 → Stopped n p ≡ pass_of (walk (keep_step d) (fresh w) d) → Refused n p ≡ readable d
  unfolding pass_of outcome or_else refusal_of
  pass-stopped n p h e = go (scan 0 (records d)) refl
    where
      go : (a : Answer) → scan 0 (records d) ≡ a → Refused n p ≡ readable d
      go (Ok x) s = absurd (let z : Stopped n p ≡ Ended fold.rising fold.top fold.dated = e ∙ ap pass_of (way Accepted s) in cc)
      go (Err r) s = ap refusal_of (e ∙ ap pass_of (way (Err r) s)) ∙ sym (after d h ∙ rw s refl)

  -- the index that the pass leaves, where nothing is drawn
  pub pass-filled : {ix x : List ℕ} → ix ≡ replicate w 0 → short ≤ w → length d ≤ 60000 → scan 0 (records d) ≡ Accepted
      → x ≡ slots_of x (walk (keep_step d) (kept ix true 0 false) d) → (Whole d x) × (length x ≡ w)
  unfolding slots_of outcome index_of fold
  pass-filled {x = x} z r h s i =
      let f : x ≡ fold.slots = (rw z at i) ∙ ap (slots_of x) (way Accepted s) in
      let n : length x ≡ w = ap length f ∙ folded-length d 0 (fresh w) (records d) ∙ length-replicate {A = ℕ} w 0 in
      (record { short = h; clean = s; roomy = omega (arith, r, n); here = f ∙ ap (λ (v : ℕ). (folded (keep_step d) 0 (fresh v) (records d)).slots) (sym n) }, n)

  -- and what it says of the slots
  pub pass-indexed : {ix x : List ℕ} {b : Bool} {c : ℕ} {f : Bool} → ix ≡ replicate w 0 → short ≤ w → length d ≤ 60000
      → Ended b c f ≡ pass_of (walk (keep_step d) (kept ix true 0 false) d) → x ≡ slots_of x (walk (keep_step d) (kept ix true 0 false) d)
      → Whole d x × UpTo d c × (f ≡ false → Undated d)
  unfolding fold
  pass-indexed {c = c} z r h e i =
      let p = pass-ended (rw z at e) in
      let g = pass-filled z r h p.0 i in
      (g.0, rw p.2 (top-slots d 0 (fresh w) (records d)), λ u. none-dated d 0 (fresh w) (records d) (sym p.3 ∙ u))

  -- ---- from the scan to the answer

  pub scan-stopped : {n p : ℕ} → Stopped n p ≡ scanned w d → Refused n p ≡ readable d
  unfolding scanned refusal_of
  scan-stopped {n} {p} e =
      split (ltb 60000 (length d))
      (λ t.
      let z : Stopped n p ≡ Stopped 13 0 = e ∙ rw t refl in
      ap refusal_of z
      ∙ too_long d (ltb-true 60000 (length d) t))
      (λ f. pass-stopped n p (ltb-false 60000 (length d) f) (e ∙ rw f refl))

  pub scan-rising : {m : ℕ} {f : Bool} → Ended true m f ≡ scanned w d → m < w → {x : List ℕ} → Whole d x → Accepted ≡ readable d
  unfolding fold
  scan-rising e z h =
      let p = pass-ended (e ∙ scan-pass h.short) in
      sym (clean-answer d h.short h.clean ∙ rising-twins d (replicate w 0) h.clean (rw (length-replicate {A = ℕ} w 0, ← p.2) z) (sym p.1))

pub scan-twins : (d : List ℕ) {x : List ℕ} → Whole d x → readable d ≡ twins 0 [] (records d)
scan-twins d h = clean-answer d h.short h.clean

-- a dossier that draws none of 13 and 1 to 4 has its index
pub accepted-indexed : (d : List ℕ) → Accepted ≡ readable d → Whole d (index_of wide d) × (wide ≤ length (index_of wide d))
unfolding readable index_of
accepted-indexed d e =
    let a = or_else-parts (refuse_if (ltb 60000 (length d)) 13 0) (or_else (scan 0 (records d)) (twins 0 [] (records d))) (sym e) in
    let n : length (folded (keep_step d) 0 (fresh wide) (records d)).slots ≡ wide = folded-length d 0 (fresh wide) (records d)
    ∙ length-replicate {A = ℕ} wide 0 in (
      record {
        short = ltb-false 60000 (length d) (not-refuse_if (ltb 60000 (length d)) 13 0 a.0);
        clean = (or_else-parts (scan 0 (records d)) (twins 0 [] (records d)) a.1).0;
        roomy = omega (arith, n);
        here = ap (λ (v : ℕ). (folded (keep_step d) 0 (fresh v) (records d)).slots) (sym n);
      },
      omega (arith, n),
    )

-- an index with more slots than the highest is complete
pub up-to-complete : {d x : List ℕ} {m : ℕ} → Whole d x → UpTo d m → m < length x → Complete d x
up-to-complete i u h = each_map (λ r g. omega (arith, g, h)) u
