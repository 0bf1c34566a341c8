use mathlib.Core.Path.{sym, subst}
use mathlib.Core.List.{List, ◌++◌}
use Prim.Native.Nat.{ℕ, ◌≤◌}
use native.Mathlib.Omega.{arith}
use lib.ListN.{length, take, drop, length-append}
use lib.Seq.{take-append-le}
use Rattle.lists.proofs.Lists.{each_map}
use Rattle.counting.specs.Sweep.{Thinned}
use Rattle.counting.proofs.Searched.{part-inside, refused, accepted}
use Rattle.counting.proofs.search.Goals.{After-fill-m, After-thinned-n}
use Rattle.counting.proofs.search.Goals as goal

pub thinned-n-requires : goal.thinned-n-requires
thinned-n-requires c = each_map (λ x q. q.inside) c.fill-m.ensures.3

-- ---- where they are thinned out

-- the numbers before
abbrev ids-of : After-thinned-n → List ℕ
ids-of c = take c.fill-m.result c.fill-m.new.ids

-- and the list after it
abbrev list_of : After-thinned-n → List ℕ
list_of c = c.thinned-n.new.ids ++ drop c.fill-m.result c.fill-m.new.ids

front : (c : After-thinned-n) → c.thinned-n.result ≤ length c.thinned-n.new.ids
front c = omega (arith, c.thinned-n.ensures.0, c.thinned-n.auto)

room-there : (c : After-thinned-n) → c.thinned-n.result ≤ length (list_of c)
room-there c = omega (arith, front c, length-append c.thinned-n.new.ids (drop c.fill-m.result c.fill-m.new.ids))

fewer : (c : After-thinned-n) → Thinned c.args.d.now (ids-of c) (take c.thinned-n.result (list_of c))
fewer c =
    subst (λ (l : List ℕ). Thinned c.args.d.now (ids-of c) l)
    (sym (take-append-le c.thinned-n.result c.thinned-n.new.ids (drop c.fill-m.result c.fill-m.new.ids) (front c)))
    c.thinned-n.ensures.1

-- ---- where they are sorted

pub sweep-place-requires : goal.sweep-place-requires
sweep-place-requires c =
    let v = (goal.at.sweep-place-requires c).After-thinned-n in (
      part-inside c.args.t c.args.all c.args.d.now c.args.index.now (ids-of v) (list_of v) c.sort.new.a c.thinned-n.result c.requires.2
          c.requires.3 (room-there v) c.fill-m.ensures.2 c.fill-m.ensures.3 (fewer v) c.sort.ensures,
      c.requires.4,
    )

pub returns-then-place-lt-NOWHERE : goal.returns-then-place-lt-NOWHERE
returns-then-place-lt-NOWHERE c =
    let v = (goal.at.returns-then-place-lt-NOWHERE c).After-thinned-n in
    refused c.args.t c.args.all c.args.d.now c.args.index.now (ids-of v) (list_of v) c.sort.new.a c.thinned-n.result c.requires.2
    c.requires.3 (room-there v) c.fill-m.ensures.2 c.fill-m.ensures.3 (fewer v) c.sort.ensures
    c.sweep-place.ensures.0 c.sweep-place.ensures.1 c.if-place-lt-NOWHERE.true

pub returns : goal.returns
returns c =
    let v = (goal.at.returns c).After-thinned-n in
    accepted c.args.t c.args.all c.args.d.now c.args.index.now (ids-of v) (list_of v) c.sort.new.a c.thinned-n.result c.requires.2
    c.requires.3 (room-there v) c.fill-m.ensures.2 c.fill-m.ensures.3 (fewer v) c.sort.ensures
    c.sweep-place.ensures.0 c.sweep-place.ensures.1 c.if-place-lt-NOWHERE.false
