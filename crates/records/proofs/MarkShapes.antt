-- The code's table is the table of marks.
use mathlib.Core.Path.{◌≡◌, refl, ap}
use mathlib.Core.List.{List, [], ◌∷◌, map}
use Prim.Native.Nat.{ℕ, zero, suc, ◌<◌}
use native.Mathlib.Omega.{arith}
use lib.ListN.{length, get_or}
use Rattle.records.specs.declared.MarkShape.{MarkShape}
use Rattle.records.specs.declared.marks.Mark.{Mark}
use Rattle.records.specs.declared.marks.Mark.TheVariants.{Unknown, RS, HP, FU, AD, MM, RQ, HR, CH, TH, FP, LC, AO, FV, AV, MV}
use Rattle.records.specs.Table.{table, no_row, row_of, marks}
use Rattle.records.specs.Record.{fields_at, size, key_width}
use Rattle.records.specs.MarkShapes.{shape, shapes, shape_of}

get_d_map : {A B : Type 0} (f : A → B) (l : List A) (x : A) (y : B) (k : ℕ) → k < length l → get_or (map f l) k y ≡ f (get_or l k x)
get_d_map f [] x y k h = absurd (omega arith)
get_d_map f (a ∷ l) x y zero h = refl
get_d_map f (a ∷ l) x y (suc k) h = get_d_map f l x y k (omega arith)

-- row k of the list of shapes is the shape of mark k
pub shape_at : (k : ℕ) (z : MarkShape) → k < marks → get_or shapes k z ≡ shape_of k
unfolding shapes shape_of row_of table
shape_at k z h = get_d_map shape (no_row ∷ table) no_row z k h

-- its length and key width are the mark's
pub shape_size : (k : ℕ) {m : MarkShape} → m ≡ shape_of k → m.length ≡ size k
unfolding shape_of shape size fields_at
shape_size k e = ap (λ (m : MarkShape). m.length) e

pub shape-width : (k : ℕ) {m : MarkShape} → m ≡ shape_of k → m.width ≡ key_width k
unfolding shape_of shape key_width
shape-width k e = ap (λ (m : MarkShape). m.width) e

-- what follows whichever mark of the code it is
pub which : {A : Type 0} (m : Mark) → (m ≡ Unknown → A) → (m ≡ RS → A) → (m ≡ HP → A) → (m ≡ FU → A) → (m ≡ AD → A) → (m ≡ MM → A) → (m ≡ RQ → A)
    → (m ≡ HR → A) → (m ≡ CH → A) → (m ≡ TH → A) → (m ≡ FP → A) → (m ≡ LC → A) → (m ≡ AO → A) → (m ≡ FV → A) → (m ≡ AV → A) → (m ≡ MV → A) → A
which Unknown a b c d e f g h i j k l n o p q = a refl
which RS a b c d e f g h i j k l n o p q = b refl
which HP a b c d e f g h i j k l n o p q = c refl
which FU a b c d e f g h i j k l n o p q = d refl
which AD a b c d e f g h i j k l n o p q = e refl
which MM a b c d e f g h i j k l n o p q = f refl
which RQ a b c d e f g h i j k l n o p q = g refl
which HR a b c d e f g h i j k l n o p q = h refl
which CH a b c d e f g h i j k l n o p q = i refl
which TH a b c d e f g h i j k l n o p q = j refl
which FP a b c d e f g h i j k l n o p q = k refl
which LC a b c d e f g h i j k l n o p q = l refl
which AO a b c d e f g h i j k l n o p q = n refl
which FV a b c d e f g h i j k l n o p q = o refl
which AV a b c d e f g h i j k l n o p q = p refl
which MV a b c d e f g h i j k l n o p q = q refl
