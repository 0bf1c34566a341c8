-- The current record among those that pass a test.
use mathlib.Core.Path.{◌≡◌, refl, ap, sym, ◌∙◌}
use mathlib.Core.Bool.{Bool, true, false, cond, ◌&&◌}
use mathlib.Core.List.{List, [], ◌∷◌}
use Prim.Native.Nat.{ℕ, ◌<◌}
use native.Mathlib.Omega.{arith}
use lib.Dec.{leb}
use lib.ListN.{length}
use borrow.Author.Tests.{le-leb}
use Rattle.lists.specs.Lists.{Each, done, also, Member, here, there, those}
use Rattle.lists.proofs.Tests.{same_true, same_self}
use Rattle.fields.proofs.Numbers.{number-nil}
use Rattle.records.specs.Record.{issue}
use Rattle.station.specs.Current.{matches, better, current_from}
use Rattle.lists.specs.Tests.{same}

module _ (k n : ℕ) (f : List ℕ → Bool) where
  step : (b r w : List ℕ) (l : List (List ℕ)) {x : List ℕ} → better k n b r ≡ w → current_from k n w l ≡ x → current_from k n b (r ∷ l) ≡ x
  unfolding current_from
  step b r w l e h = ap (λ (z : List ℕ). current_from k n z l) e ∙ h

  past : (b r : List ℕ) → matches k n r ≡ false → better k n b r ≡ b
  unfolding better
  past b r q = rw q refl

  taken : (b r : List ℕ) → matches k n r ≡ true → leb (issue b) (issue r) ≡ true → better k n b r ≡ r
  unfolding better
  taken b r q p = rw (q, p) refl

  -- where one that matches passes if it is c
  module _ (c : List ℕ) where
    abbrev pub Tells : List ℕ → Type 0
    Tells r = (0 < length r) × (matches k n r ≡ true → f r ≡ same r c)

    either : (b : Bool) {r : List ℕ} → r ≡ c → cond b r c ≡ c
    either true e = e
    either false e = refl

    first : (r : List ℕ) → leb (issue []) (issue r) ≡ true
    unfolding issue
    first r = rw (number-nil 2 4) (le-leb 0 (issue r) (omega arith))

    stays : {l : List (List ℕ)} → Each Tells l → current_from k n c (those f l) ≡ c
    unfolding current_from those better
    stays done = refl
    stays (also {a = r} {l = l} t e) = go (f r) refl (matches k n r) refl (stays e)
      where
        go : (x : Bool) → f r ≡ x → (m : Bool) → matches k n r ≡ m → current_from k n c (those f l) ≡ c
            → current_from k n c (cond x (r ∷ those f l) (those f l)) ≡ c
        go false p m q s = s
        go true p false q s = step c r c (those f l) (past c r q) s
        go true p true q s = step c r c (those f l) (either (matches k n r && leb (issue c) (issue r)) (same_true r c (sym (t.1 q) ∙ p))) s

    pub found : {l : List (List ℕ)} → Member c l → matches k n c ≡ true → Each Tells l → current_from k n [] (those f l) ≡ c
    unfolding current_from those better
    found here m (also {l = l} t e) = rw (t.1 m, same_self c) (step [] c c (those f l) (taken [] c m (first c)) (stays e))
    found (there o) m (also {a = r} {l = l} t e) = go (f r) refl (matches k n r) refl (found o m e) (stays e)
      where
        go : (x : Bool) → f r ≡ x → (y : Bool) → matches k n r ≡ y → current_from k n [] (those f l) ≡ c → current_from k n c (those f l) ≡ c
            → current_from k n [] (cond x (r ∷ those f l) (those f l)) ≡ c
        go false p y q s w = s
        go true p false q s w = step [] r [] (those f l) (past [] r q) s
        go true p true q s w = step [] r c (those f l) (taken [] r q (first r) ∙ same_true r c (sym (t.1 q) ∙ p)) w

    pub nothing : c ≡ [] → {l : List (List ℕ)} → Each Tells l → current_from k n [] (those f l) ≡ c
    unfolding current_from those better
    nothing z done = sym z
    nothing z (also {a = r} {l = l} t e) = go (f r) refl (matches k n r) refl (nothing z e)
      where
        go : (x : Bool) → f r ≡ x → (y : Bool) → matches k n r ≡ y → current_from k n [] (those f l) ≡ c
            → current_from k n [] (cond x (r ∷ those f l) (those f l)) ≡ c
        go false p y q s = s
        go true p false q s = step [] r [] (those f l) (past [] r q) s
        go true p true q s = absurd (omega (arith, t.0, ap length (same_true r c (sym (t.1 q) ∙ p) ∙ z)))
