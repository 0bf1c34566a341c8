use native.Mathlib.Omega.{arith}
use mathlib.Core.Path.{◌≡◌, refl, ap, sym, ◌∙◌}
use mathlib.Core.List.{List}
use Prim.Native.Nat.{ℕ, ◌+◌, ◌≤◌}
use lib.ListN.{length, drop}
use Rattle.fields.specs.Numbers.{number}
use Rattle.records.specs.Record.{mark, fault}
use Rattle.records.specs.Dossier.{first_of}
use Rattle.index.specs.declared.Entry.{Entry}
use Rattle.index.specs.Entries.{entry_as}
use Rattle.index.proofs.Turn.{max-higher, tail, bounds, long, first_found, step-held, step-beyond}
use Rattle.index.proofs.keep.Goals as goal
use Rattle.index.proofs.keep.Goals.{then-j-index, else-j-index}

-- the record is long enough for its issue, and lies within the dossier
within : (d : List ℕ) (at : ℕ) {x : Entry} → fault (first_of (drop at d)) ≡ 0 → x ≡ entry_as (mark (drop at d)) (drop at d)
    → (6 ≤ x.len) × (at + x.len ≤ length d)
within d at z e =
    let f = first_found (drop at d) z in
    let l = ap (λ (y : Entry). y.len) e in
    let b = bounds d at _ _ f in
    (omega (arith, l, long _ _ _ f), omega (arith, l, b.0, b.1))

pub slice_bounds-rest-count : goal.slice_bounds-rest-count
slice_bounds-rest-count c = omega (arith, within c.args.d.now c.args.before.end c.requires.1 c.requires.2)

pub slice_bounds-rest-start : goal.slice_bounds-rest-start
slice_bounds-rest-start c = omega (arith, within c.args.d.now c.args.before.end c.requires.1 c.requires.2)

pub returns-then-rest-lt6 : goal.returns-then-rest-lt6
returns-then-rest-lt6 c = absurd (omega (arith, within c.args.d.now c.args.before.end c.requires.1 c.requires.2, c.if-rest-lt6.true))

pub overflow_add-result : goal.overflow_add-result
overflow_add-result c = omega (arith, within c.args.d.now c.args.before.end c.requires.1 c.requires.2, c.requires.0)

pub returns : goal.returns
unfolding first_of
returns c =
    let a = c.args in
    let d = a.d.now in
    let at = a.before.end in
    let s = drop at d in
    let e = first_found s c.requires.1 in
    let slot = ap (λ (y : Entry). y.slot) c.requires.2 in (
      refl,
      λ f.
          elim c.if-j-index.branch [
            | then-j-index w ↦
                let issue = ap (λ (y : ℕ). y + 1) (w.u32_at.ensures ∙ ap (number 2 4) (tail d at)) in
                rw (w.index-is, w.rising-is) (sym (step-held s _ _ e d a.index.now a.before.rising a.before.top f at slot (c.max.ensures ∙ max-higher _ _) issue
                w.issue_held-held.ensures w.newer_of.ensures))
            | else-j-index w ↦ rw (w.index-is, w.rising-is) (sym (step-beyond s _ _ e d a.index.now a.before.rising a.before.top f at slot
                (c.max.ensures ∙ max-higher _ _) w.if-j-index.false))
          ],
    )
