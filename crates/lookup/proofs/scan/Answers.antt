use mathlib.Core.Path.{◌≡◌, refl, ap, sym, ◌∙◌}
use mathlib.Core.Bool.{false}
use mathlib.Core.List.{List}
use Prim.Native.Nat.{ℕ}
use lib.ListN.{length}
use Rattle.std.specs.Prelude.{IfOk, Ok, Err}
use Rattle.index.proofs.HeldSums.{held-empty}
use Rattle.index.specs.Passed.{Passed}
use Rattle.index.specs.Intervals.{HeldIn}
use Rattle.lookup.specs.Parts.{Whole, UpTo}
use Rattle.station.specs.InForce.{Undated}
use Rattle.lookup.proofs.Opening.{scan-long, scan-short, pass-indexed}
use Rattle.lookup.proofs.scan.Goals as goal

pub returns-then-d-gt-LONGEST-clause-pass : goal.returns-then-d-gt-LONGEST-clause-pass
returns-then-d-gt-LONGEST-clause-pass c = scan-long _ _ c.if-d-gt-LONGEST.true

pub pass-requires : goal.pass-requires
pass-requires c =
    let p = c.requires in
    (c.if-d-gt-LONGEST.false, ap (λ (l : List ℕ). length l) p.1, held-empty _ _ _ p.0.1 p.1)

pub returns-clause-pass : goal.returns-clause-pass
returns-clause-pass c = scan-short _ _ c.requires.0.1 c.if-d-gt-LONGEST.false c.pass.ensures.0

pub returns-clause-read : goal.returns-clause-read
returns-clause-read c = go c.pass.result refl
  where
    go : (r : Passed) → c.pass.result ≡ r → IfOk r (λ s. Whole c.args.d.now c.pass.new.index × UpTo c.args.d.now s.top
        × HeldIn c.args.d.now c.pass.new.index c.pass.new.sums × (s.dated ≡ false → Undated c.args.d.now))
    go (Ok s) e =
        let p = c.requires in
        let g = pass-indexed _ _ p.0.1 p.0.0 c.if-d-gt-LONGEST.false (sym e ∙ c.pass.ensures.0) c.pass.ensures.1 in
        (g.0, g.1, c.pass.ensures.2, g.2)
    go (Err r) e = tt
