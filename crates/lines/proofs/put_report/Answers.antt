use mathlib.Core.List.{◌++◌}
use Prim.Native.Nat.{◌≤◌}
use native.Mathlib.Omega.{arith}
use lib.ListN.{length}
use Rattle.text.proofs.Over.{then}
use Rattle.arrays.specs.Packed.{arrays_of, hour_of}
use Rattle.layout.specs.Report.{profile_line, retired_line}
use Rattle.lines.specs.Parts.{packed_report, lamination_lines, other_lines}
use Rattle.lines.proofs.Fits.{put-none, put_whole}
use Rattle.lines.proofs.Levels.{report-is, report-length, report-within}
use Rattle.lines.proofs.put_report.Goals as goal
use Rattle.lines.proofs.put_report.Goals.{then-buf-lt-LONGEST+else-buf-report_len, else-buf-lt-LONGEST}

-- `lines::put_report` meets its contract: the profile line, the energy lines, the others and the last, each behind the one before.

-- a buffer too short keeps every byte
pub returns-then-buf-report_len : goal.returns-then-buf-report_len
returns-then-buf-report_len c =
    let r = hour_of c.args.lv c.args.from.now c.args.to.now c.args.cents.now in
    let put = put-none (packed_report r c.args.retired) c.args.buf.now (omega arith) in
    record { answer = put.0; buffer = put.1 }

-- past the test there is room for every part: the report was found to fit, or any would
pub put_laminations-requires : goal.put_laminations-requires
put_laminations-requires c =
    let r = hour_of c.args.lv c.args.from.now c.args.to.now c.args.cents.now in
    elim c.if-buf-lt-LONGEST.branch [
      | then-buf-lt-LONGEST+else-buf-report_len w ↦ (omega arith, omega (arith, report-length r c.args.retired))
      | else-buf-lt-LONGEST w ↦ (omega arith, omega (arith, report-length r c.args.retired, report-within r c.args.retired (omega arith)))
    ]

pub put_others-requires : goal.put_others-requires
put_others-requires c =
    let r = hour_of c.args.lv c.args.from.now c.args.to.now c.args.cents.now in
    elim c.if-buf-lt-LONGEST.branch [
      | then-buf-lt-LONGEST+else-buf-report_len w ↦ omega (arith, report-length r c.args.retired)
      | else-buf-lt-LONGEST w ↦ omega (arith, report-length r c.args.retired, report-within r c.args.retired (omega arith))
    ]

pub put_number_line-requires : goal.put_number_line-requires
put_number_line-requires c =
    let r = hour_of c.args.lv c.args.from.now c.args.to.now c.args.cents.now in
    elim c.if-buf-lt-LONGEST.branch [
      | then-buf-lt-LONGEST+else-buf-report_len w ↦ omega (arith, report-length r c.args.retired)
      | else-buf-lt-LONGEST w ↦ omega (arith, report-length r c.args.retired, report-within r c.args.retired (omega arith))
    ]

-- each part behind the ones before it
pub returns : goal.returns
returns c =
    let r = hour_of c.args.lv c.args.from.now c.args.to.now c.args.cents.now in
    let e = c.args.buf.now in
    let p = profile_line c.args.lv.profile in
    let l = lamination_lines (arrays_of r) c.args.lv.count in
    let o = other_lines c.args.lv.technology c.args.lv.start c.args.lv.noload c.args.lv.reserve in
    let two = then p l e c.put_number_line-a.ensures c.put_laminations.ensures in
    let three = then (p ++ l) o e two c.put_others.ensures in
    let all = then (p ++ l ++ o) (retired_line c.args.retired) e three c.put_number_line.ensures in
    let room : length (packed_report r c.args.retired) ≤ length e = elim c.if-buf-lt-LONGEST.branch [
      | then-buf-lt-LONGEST+else-buf-report_len w ↦ omega arith
      | else-buf-lt-LONGEST w ↦ omega (arith, report-within r c.args.retired (omega arith))
    ] in
    let put = put_whole (packed_report r c.args.retired) e room (rw (report-is r c.args.retired) all) in
    record { answer = put.0; buffer = put.1 }
