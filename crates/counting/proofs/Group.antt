-- Kind and key in one number: it tells both.
use mathlib.Core.Path.{◌≡◌, refl, ap, sym, subst, ◌∙◌}
use mathlib.Core.Bool.{Bool, cond, ◌||◌}
use mathlib.Core.List.{List}
use Prim.Native.Nat.{ℕ, ◌+◌, ◌*◌, ◌/◌, ◌<◌, ◌≤◌}
use native.Mathlib.Omega.{arith}
use lib.Dec.{leb, ltb, eqb}
use lib.ListN.{take}
use borrow.Author.Tests.{eqb-true, lt-ltb, leb-true}
use Rattle.lists.specs.Tests.{all_below}
use Rattle.lists.proofs.Tests.{below_at}
use Rattle.records.specs.Table.{table, row_of, marks, RS, HP, FU, AD, MM, RQ, HR, CH, TH, FP, LC, AO}
use Rattle.records.specs.Record.{mark, is_dated, kind_of, kind, fields_at, key_in, key_width, key_of, size}
use Rattle.records.specs.MarkShapes.{shape, shape_of}
use Rattle.records.proofs.Record.{key-ends}
use Rattle.records.proofs.Read.{number-take}
use Rattle.index.specs.Slots.{slot}
use Rattle.index.proofs.KeyBounds.{Spans, InKey, at-kind}
use Rattle.index.proofs.Slots.{slot_apart, owner-slot}
use Rattle.counting.specs.Sweep.{group, group_at}

-- ---- no two kinds and keys share a number

Small : ℕ → ℕ → Type 0
Small n k = InKey k n → group k n < 65536

pub group-lt : (k n : ℕ) → InKey k n → group k n < 65536
unfolding Small Spans shape_of shape row_of table group
group-lt k n p =
    at-kind (Small n) k n p
    (λ q. omega (arith, q.spans)) (λ q. omega (arith, q.spans)) (λ q. omega (arith, q.spans)) (λ q. omega (arith, q.spans))
    (λ q. omega (arith, q.spans)) (λ q. omega (arith, q.spans)) (λ q. omega (arith, q.spans)) (λ q. omega (arith, q.spans))
    (λ q. omega (arith, q.spans)) (λ q. omega (arith, q.spans)) (λ q. omega (arith, q.spans)) (λ q. omega (arith, q.spans))
    p

-- the kind that its four bits tell
abbrev kind_in : ℕ → ℕ
kind_in t = cond (ltb LC t) AD (cond (eqb t AD) AO t)

Told : ℕ → ℕ → Type 0
Told n k = InKey k n → kind_in (group k n / 4096) ≡ k

tells : (k n : ℕ) → InKey k n → kind_in (group k n / 4096) ≡ k
unfolding Told Spans shape_of shape row_of table group
tells k n p =
    at-kind (Told n) k n p
    (λ q. by RS 1 (omega (arith, q.spans))) (λ q. by HP 2 (omega (arith, q.spans))) (λ q. by FU 3 (omega (arith, q.spans)))
    (λ q. adder (omega (arith, q.spans))) (λ q. by MM 5 (omega (arith, q.spans))) (λ q. by RQ 6 (omega (arith, q.spans)))
    (λ q. by HR 7 (omega (arith, q.spans))) (λ q. by CH 8 (omega (arith, q.spans))) (λ q. by TH 9 (omega (arith, q.spans)))
    (λ q. by FP 10 (omega (arith, q.spans))) (λ q. by LC 11 (omega (arith, q.spans))) (λ q. by AO 4 (omega (arith, q.spans)))
    p
  where
    by : (j t : ℕ) → group j n / 4096 ≡ t → kind_in (group j n / 4096) ≡ kind_in t
    by j t e = ap kind_in e

    adder : LC < group AD n / 4096 → kind_in (group AD n / 4096) ≡ AD
    adder h = rw (lt-ltb LC (group AD n / 4096) h) refl

-- AO's mixed radix is that of its slots
own-slot : (n : ℕ) → group AO n + 229 ≡ AD * 4096 + slot AO n
unfolding group slot
own-slot n = omega arith

Same : ℕ → ℕ → ℕ → Type 0
Same n m k = InKey k n → InKey k m → group k n ≡ group k m → n ≡ m

same_key : (k n m : ℕ) → InKey k n → InKey k m → group k n ≡ group k m → n ≡ m
unfolding Same Spans shape_of shape row_of table group
same_key k n m p q e =
    at-kind (Same n m) k n p
    (λ a b c. omega (arith, a.spans, b.spans, c)) (λ a b c. omega (arith, a.spans, b.spans, c)) (λ a b c. omega (arith, a.spans, b.spans, c))
    (λ a b c. omega (arith, a.spans, b.spans, c)) (λ a b c. omega (arith, a.spans, b.spans, c)) (λ a b c. omega (arith, a.spans, b.spans, c))
    (λ a b c. omega (arith, a.spans, b.spans, c)) (λ a b c. omega (arith, a.spans, b.spans, c)) (λ a b c. omega (arith, a.spans, b.spans, c))
    (λ a b c. omega (arith, a.spans, b.spans, c)) (λ a b c. omega (arith, a.spans, b.spans, c)) (λ a b c. (slot_apart AO n AO m a b (slots c)).1)
    p q e
  where
    slots : group AO n ≡ group AO m → slot AO n ≡ slot AO m
    slots c = omega (arith, c, own-slot n, own-slot m)

pub group-apart : (k n j m : ℕ) → InKey k n → InKey j m → group k n ≡ group j m → (k ≡ j) × (n ≡ m)
group-apart k n j m p q e =
    let w : k ≡ j = sym (tells k n p) ∙ ap (λ (g : ℕ). kind_in (g / 4096)) e ∙ tells j m q in
    (w, same_key k n m p (subst (λ (i : ℕ). InKey i m) (sym w) q) (e ∙ ap (λ (i : ℕ). group i m) (sym w)))

-- ---- where code reads it

-- of a record cut from the rest
pub its-group : (s : List ℕ) (n : ℕ) → n ≡ size (mark s) → mark (take n s) ≡ mark s → group (kind (take n s)) (key_of (take n s)) ≡ group_at (mark s) s
unfolding group_at kind key_of
its-group s n e q =
    rw q (ap (group (kind_of (mark s))) (rw e (number-take (size (mark s)) (fields_at (mark s)) (key_width (mark s)) s (key-ends (mark s)))))

low_test : ℕ → Bool
low_test k = leb (fields_at k) 10

pub fields-low : (k : ℕ) → k < marks → fields_at k ≤ 10
unfolding low_test
fields-low k h = leb-true (fields_at k) 10 (below_at marks low_test (unfold low_test all_below fields_at row_of table in refl) k h)

-- the bytes of the key, by kind
abbrev pub width_by : ℕ → ℕ
width_by j =
    cond (eqb j AD) 3
    (cond (eqb j 0 || eqb j RS || eqb j LC) 0
    (cond (eqb j AO) 4
    (cond (eqb j HP || eqb j FU || eqb j RQ || eqb j HR) 1 2)))

width_test : ℕ → Bool
width_test k = eqb (key_width k) (width_by (kind_of k))

pub width-by : (k : ℕ) → k < marks → key_width k ≡ width_by (kind_of k)
unfolding width_test
width-by k h =
    eqb-true (key_width k) (width_by (kind_of k)) (below_at marks width_test (unfold width_test all_below key_width key_in kind_of is_dated row_of table in refl) k h)

pub own-group : (a b c d : ℕ) → b < 256 → c < 256 → d < 256 → AD * 4096 + a * 80 + b * 20 + c * 4 + d ≡ group AO (a * 16777216 + b * 65536 + c * 256 + d)
own-group a b c d l m u = omega (arith, owner-slot a b c d l m u, own-slot (a * 16777216 + b * 65536 + c * 256 + d))
