use mathlib.Core.Path.{ap, ◌∙◌}
use native.Mathlib.Omega.{arith}
use lib.ListN.{length}
use Rattle.text.specs.Text.{over, refusal_line}
use Rattle.report.proofs.Program.{prints-fits, prints-short, after-hour, print-report, print-refusal, told_text, told-scant}
use Rattle.report.proofs.print.Goals as goal

-- `report::print` meets its contract.

pub returns-then-out-lt-LONGEST : goal.returns-then-out-lt-LONGEST
returns-then-out-lt-LONGEST c =
    let told = told-scant c.args.input.now c.args.out.now c.if-out-lt-LONGEST.true in
    record { answer = told.0; buffer = told.1 }

-- the buffer is long enough for all that is printed
pub put_refusal-requires : goal.put_refusal-requires
put_refusal-requires c =
    let i = c.args.input.now in
    omega (arith, prints-fits i, ap length (prints-short i c.if-input-lt4.true), c.if-out-lt-LONGEST.false)

pub returns-then-input-lt4 : goal.returns-then-input-lt4
returns-then-input-lt4 c =
    let i = c.args.input.now in
    let told = told_text i c.args.out.now c.if-out-lt-LONGEST.false (rw (prints-short i c.if-input-lt4.true) c.put_refusal.ensures) in
    record { answer = told.0; buffer = told.1 }

-- what the report told is of the input after the hour, and a refusal that it told is all that is printed
pub put_refusal-requires-in-Err : goal.put_refusal-requires-in-Err
put_refusal-requires-in-Err c =
    let i = c.args.input.now in
    let e = c.args.out.now in
    let told = after-hour i e c.u32_at.ensures (c.in-Err.ensures.answer, c.in-Err.ensures.buffer) in
    let refused = print-refusal i e c.if-out-lt-LONGEST.false c.if-input-lt4.false c.in-Err.refusal told in
    omega (arith, prints-fits i, ap length refused.0)

pub returns-in-Ok : goal.returns-in-Ok
returns-in-Ok c =
    let i = c.args.input.now in
    let e = c.args.out.now in
    let told = after-hour i e c.u32_at.ensures (c.in-Ok.ensures.answer, c.in-Ok.ensures.buffer) in
    let t = told_text i e c.if-out-lt-LONGEST.false (print-report i e c.if-out-lt-LONGEST.false c.if-input-lt4.false _ told) in
    record { answer = t.0; buffer = t.1 }

pub returns-in-Err : goal.returns-in-Err
returns-in-Err c =
    let i = c.args.input.now in
    let e = c.args.out.now in
    let r = c.in-Err.refusal in
    let told = after-hour i e c.u32_at.ensures (c.in-Err.ensures.answer, c.in-Err.ensures.buffer) in
    let refused = print-refusal i e c.if-out-lt-LONGEST.false c.if-input-lt4.false r told in
    let put = c.put_refusal-in-Err.ensures in
    let t = told_text i e c.if-out-lt-LONGEST.false (rw refused.0 (put.0, put.1 ∙ ap (over (refusal_line r.number r.place)) refused.1)) in
    record { answer = t.0; buffer = t.1 }
