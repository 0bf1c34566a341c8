use mathlib.Core.Path.{◌≡◌, ap, ap₂, sym, ◌∙◌}
use mathlib.Core.List.{List}
use Prim.Native.Nat.{ℕ, ◌+◌, ◌-◌, ◌*◌, ◌≤◌}
use native.Mathlib.Nat.{mul-le-mul}
use native.Mathlib.Omega.{arith}
use lib.ListN.{take, drop}
use Rattle.fields.specs.Numbers.{number, biased}
use Rattle.records.proofs.Read.{number-take}
use Rattle.index.specs.Intervals.{held_price, held_energy}
use Rattle.index.proofs.Intervals.{price-held, energy-held}
use Rattle.index.proofs.charging.instead.Goals as goal

-- the numbers of the record that a slot of value v holds, read where it lies
module _ (d : List ℕ) (v : ℕ) (h : 1 ≤ v) where
  part_says : (o : ℕ) → o ≤ 12 → number o 4 (take (v + 15 - (v - 1)) (drop (v - 1) d)) ≡ number o 4 (drop (v - 1) d)
  part_says o z = number-take (v + 15 - (v - 1)) o 4 (drop (v - 1) d) (omega arith)

  back : v - 1 + 1 ≡ v
  back = omega arith

  price-says : {x y : ℕ} → y ≡ biased x → x ≡ number 8 4 (take (v + 15 - (v - 1)) (drop (v - 1) d)) → y ≡ held_price d v
  price-says p q = p ∙ ap biased (q ∙ part_says 8 (omega arith)) ∙ sym (price-held d (v - 1)) ∙ ap (held_price d) back

  energy-says : {x : ℕ} → x ≡ number 12 4 (take (v + 15 - (v - 1)) (drop (v - 1) d)) → x ≡ held_energy d v
  energy-says p = p ∙ part_says 12 (omega arith) ∙ sym (energy-held d (v - 1)) ∙ ap (held_energy d) back

  cost-says : {x y z : ℕ} → y ≡ biased x → x ≡ number 8 4 (take (v + 15 - (v - 1)) (drop (v - 1) d))
      → z ≡ number 12 4 (take (v + 15 - (v - 1)) (drop (v - 1) d)) → y * z ≡ held_price d v * held_energy d v
  cost-says p q r = ap₂ (λ (x y : ℕ). x * y) (price-says p q) (energy-says r)

pub overflow_mul-result : goal.overflow_mul-result
overflow_mul-result c =
    let p = c.requires in
    let e = cost-says c.args.d.now c.args.v p.1 c.biased-price.ensures c.u32_at.ensures c.u32_at-energy.ensures in
    record { fits = omega (arith, e, mul-le-mul p.5 p.6) }

pub overflow_sub-result : goal.overflow_sub-result
overflow_sub-result c =
    let e = cost-says c.args.d.now c.args.v c.requires.1 c.biased-price.ensures c.u32_at.ensures c.u32_at-energy.ensures in
    omega (arith, e, c.requires.7, c.with-more.ensures.0)

pub overflow_sub-result-2 : goal.overflow_sub-result-2
overflow_sub-result-2 c =
    omega (arith, energy-says c.args.d.now c.args.v c.requires.1 c.u32_at-energy.ensures, c.requires.8, c.with-more.ensures.1)

pub returns : goal.returns
returns c =
    let d = c.args.d.now in
    let v = c.args.v in
    let w = c.with-more.ensures in
    let cost = cost-says d v c.requires.1 c.biased-price.ensures c.u32_at.ensures c.u32_at-energy.ensures in
    (ap₂ (λ (x y : ℕ). x - y) w.0 cost, ap₂ (λ (x y : ℕ). x - y) w.1 (energy-says d v c.requires.1 c.u32_at-energy.ensures))
