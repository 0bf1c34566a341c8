use mathlib.Core.Path.{sym, ◌∙◌}
use Rattle.limits.proofs.Laminations.{least-passes, lamination-stop, lamination-next, lamination-end}
use Rattle.limits.proofs.failing_lamination.Goals as goal

pub returns-then-not-fails : goal.returns-then-not-fails
returns-then-not-fails c =
    let a = c.args in
    least-passes a.t a.pair a.from.now a.to.now a.cents.now a.least (sym c.fails.ensures ∙ c.if-not-fails.true)
    a.count c.requires.1

pub returns-then-fails_in : goal.returns-then-fails_in
returns-then-fails_in c =
    let i = c.loop-i in
    let a = c.args in
    lamination-stop a.t a.pair a.from.now a.to.now a.cents.now a.count i.i
    c.loop-i-test.true (sym c.fails_in.ensures ∙ c.if-fails_in.true)
    ∙ i.invariant

pub loop-i-preserved : goal.loop-i-preserved
loop-i-preserved c =
    let i = c.loop-i in
    let a = c.args in
    lamination-next a.t a.pair a.from.now a.to.now a.cents.now a.count i.i
    c.loop-i-test.true (sym c.fails_in.ensures ∙ c.if-fails_in.false)
    ∙ i.invariant

pub returns : goal.returns
returns c =
    let i = c.loop-i in
    let a = c.args in
    lamination-end a.t a.pair a.from.now a.to.now a.cents.now a.count i.i c.loop-i-test.false ∙ i.invariant
