use mathlib.Core.Path.{◌≡◌, ap, sym, ◌∙◌}
use Prim.Native.Nat.{ℕ, ◌+◌, ◌-◌}
use native.Mathlib.Omega.{arith}
use lib.ListN.{replicate, drop, length-drop, length-replicate}
use lib.Seq.{length-take-le}
use Rattle.std.proofs.lemmas.Slice.{put_mid-paste}
use Rattle.hours.proofs.Emptied.{cleared-paste}
use Rattle.hours.proofs.clear.Goals as goal

pub returns : goal.returns
returns c =
    let a = c.args in
    let long = length-take-le (a.j + a.n - a.j) (drop a.j a.index.now) (omega (arith, length-drop a.j a.index.now)) in
    let zeros : c.fill.new.self ≡ replicate a.n 0 = c.fill.ensures.after (λ y h. h) ∙ ap (λ (m : ℕ). replicate m 0) (long ∙ omega arith) in
    put_mid-paste a.j _ a.index.now c.fill.new.self (replicate a.n 0) a.n zeros (omega arith) (sym (length-replicate a.n 0))
    ∙ cleared-paste a.index.now a.j a.n c.requires
