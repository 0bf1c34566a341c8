-- Digits in mixed radix as one number: below the product of the spans, and no two lists of digits share one.
use mathlib.Core.Path.{◌≡◌, refl, ap, ap₂, sym, ◌∙◌}
use mathlib.Core.List.{List, [], ◌∷◌}
use Prim.Native.Nat.{ℕ, ◌+◌, ◌*◌, ◌/◌, ◌≤◌, ◌<◌}
use native.Mathlib.Nat.{add-mul, mul-le-mul_right, mul-add-div_right, div-eq_of_lt}
use native.Mathlib.Omega.{arith}

-- the product of some spans
unfoldable pub product : List ℕ → ℕ
product [] = 1
product (s ∷ l) = s * product l

-- digits, the first the highest
unfoldable pub rank : List ℕ → List ℕ → ℕ
rank [] ds = 0
rank (s ∷ l) [] = 0
rank (s ∷ l) (d ∷ ds) = d * product l + rank l ds

-- a digit below each span
pub data Under : List ℕ → List ℕ → Type 0 where
  none : Under [] []
  more : {s d : ℕ} {l ds : List ℕ} → d < s → Under l ds → Under (s ∷ l) (d ∷ ds)

pub rank_lt : {l ds : List ℕ} → Under l ds → rank l ds < product l
unfolding rank product
rank_lt none = omega arith
rank_lt (more {s = s} {d = d} {l = l} h u) =
    let b : d + 1 ≤ s = omega arith in
    let c : (d + 1) * product l ≤ s * product l = mul-le-mul_right (product l) b in
    omega (arith, rank_lt u, c, add-mul d 1 (product l))

first : (p a b x y : ℕ) → x < p → y < p → a * p + x ≡ b * p + y → a ≡ b
first p a b x y g h e =
    let z : 0 < p = omega arith in
    let u : (a * p + x) / p ≡ a = mul-add-div_right z a x ∙ rw (div-eq_of_lt g) (omega arith) in
    let v : (b * p + y) / p ≡ b = mul-add-div_right z b y ∙ rw (div-eq_of_lt h) (omega arith) in
    sym u ∙ ap (λ (n : ℕ). n / p) e ∙ v

pub rank_same : {l ds es : List ℕ} → Under l ds → Under l es → rank l ds ≡ rank l es → ds ≡ es
unfolding rank
rank_same none none e = refl
rank_same (more {d = d} {l = l} {ds = ds} g u) (more {d = c} {ds = es} h v) e =
    let a : d ≡ c = first (product l) d c (rank l ds) (rank l es) (rank_lt u) (rank_lt v) e in
    let b : rank l ds ≡ rank l es = omega (arith, e, ap (λ (n : ℕ). n * product l) a) in
    ap₂ (λ (x : ℕ) (m : List ℕ). x ∷ m) a (rank_same u v b)
