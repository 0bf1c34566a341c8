-- What one read after another takes of known bytes.
use Rattle.std.proofs.Common.{◌≡◌, ℕ, ◌+◌, List, [], ◌++◌, None, Some, refl, sym, ap, subst, ◌∙◌, append_assoc, take, drop}
use Rattle.std.proofs.Math.Seq.{take-add}
use Rattle.std.specs.declared.option.Option.{Option}
use Rattle.std.specs.Io.KnownBytes.{Consumes}

pub nothing-taken : (a : Option (List ℕ)) → Consumes a a []
nothing-taken None = tt
nothing-taken (Some x) = refl

taken-then : (a b c : Option (List ℕ)) (bs cs : List ℕ) → Consumes a b bs → Consumes b c cs → Consumes a c (bs ++ cs)
taken-then None b c bs cs p q = tt
taken-then (Some x) None c bs cs p q = absurd p
taken-then (Some x) (Some y) None bs cs p q = absurd q
taken-then (Some x) (Some y) (Some z) bs cs p q = p ∙ ap (λ l. bs ++ l) q ∙ sym (append_assoc bs cs z)

-- f bytes stood at the front of xs, and ys has these and n more behind them
pub more-taken : (a b c : Option (List ℕ)) (xs ys : List ℕ) (f n : ℕ) → take f ys ≡ take f xs → Consumes a b (take f xs) → Consumes b c (take n (drop f ys))
    → Consumes a c (take (f + n) ys)
more-taken a b c xs ys f n front before read =
    subst (Consumes a c) (sym (take-add f n ys ∙ ap (λ l. l ++ take n (drop f ys)) front)) (taken-then a b c _ _ before read)
