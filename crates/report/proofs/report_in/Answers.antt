use mathlib.Core.Path.{refl}
use borrow.Author.Rules.{rules}
use Rattle.std.proofs.lemmas.Result.{err_from_is_err_and}
use Rattle.station.specs.InForce.{query}
use Rattle.query.proofs.Asking.{ready, asked-refused}
use Rattle.reference.proofs.Handed.{handed-count}
use Rattle.report.proofs.Buffer.{packed-is, told-levels, told-refusal}
use Rattle.report.proofs.report_in.Goals as goal

-- `report::report_in` meets its contract.

pub profile_levels-lv-requires : goal.profile_levels-lv-requires
profile_levels-lv-requires g c =
    let j = c.in_ok-profile.ensures in
    let r = ready _ _ j.0 j.1 refl in
    (r.accepted, r.indexed, r.low, r.high, search rules, (j.1 r.drawn).1, refl, refl, refl)

pub retired-retired-requires : goal.retired-retired-requires
retired-retired-requires g c =
    let j = c.in_ok-profile.ensures in
    let r = ready _ _ j.0 j.1 refl in
    (r.indexed, r.low, r.high)

pub put_report-requires : goal.put_report-requires
put_report-requires g c = handed-count _ _ _ c.profile_levels-lv.ensures

pub returns : goal.returns
returns g c =
    let args = c.args in
    let j = c.in_ok-profile.ensures in
    let r = ready _ _ j.0 j.1 refl in
    let same = packed-is r c.profile_levels-lv.ensures c.retired-retired.ensures in
    let put = c.put_report.ensures in
    let told = told-levels args.d.now (query args.hour args.owner) args.buf.now _ _ r.drawn same (put.answer, put.buffer) in
    record { answer = told.0; buffer = told.1 }

pub returns-in_err-profile : goal.returns-in_err-profile
returns-in_err-profile g c =
    let args = c.args in
    let told = told-refusal args.d.now (query args.hour args.owner) args.buf.now _ (asked-refused _ _ c.in_err-profile.ensures.0 refl) in
    let p = err_from_is_err_and c.from_residual.result c.from_residual.ensures.1 in
    rw (p.1, p.2) (record { answer = told.0; buffer = told.1 })
