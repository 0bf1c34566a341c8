use native.Mathlib.Omega.{arith}
use Rattle.arrays.specs.Packed.{hour_of}
use Rattle.lines.proofs.Levels.{report-length, report-within}
use Rattle.lines.proofs.report_len.Goals as goal

-- `lines::report_len` meets its contract: how long the parts are, together no longer than any report.

pub overflow_add-result : goal.overflow_add-result
overflow_add-result c =
    let r = hour_of c.args.lv c.args.from.now c.args.to.now c.args.cents.now in
    omega (arith, report-length r c.args.retired, report-within r c.args.retired (omega arith))

pub overflow_add-result-2 : goal.overflow_add-result-2
overflow_add-result-2 c =
    let r = hour_of c.args.lv c.args.from.now c.args.to.now c.args.cents.now in
    omega (arith, report-length r c.args.retired, report-within r c.args.retired (omega arith))

pub overflow_add-result-3 : goal.overflow_add-result-3
overflow_add-result-3 c =
    let r = hour_of c.args.lv c.args.from.now c.args.to.now c.args.cents.now in
    omega (arith, report-length r c.args.retired, report-within r c.args.retired (omega arith))
