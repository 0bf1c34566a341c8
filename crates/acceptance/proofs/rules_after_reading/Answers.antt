use mathlib.Core.Path.{◌≡◌, ap, sym, subst, ◌∙◌}
use Prim.Native.Nat.{ℕ}
use Rattle.std.proofs.lemmas.Result.{err_from_is_err_and}
use Rattle.fields.specs.Numbers.{number}
use Rattle.records.specs.Dossier.{records}
use Rattle.records.specs.Table.{RS}
use Rattle.station.specs.Parameters.{parameters, technology}
use Rattle.station.proofs.Fields.{technology-at}
use Rattle.lookup.proofs.Held.{whole-indexed}
use Rattle.parameters.proofs.Points.{none-there, one-there}
use Rattle.parameters.proofs.Station.{technology-known}
use Rattle.rules.specs.Fit.{Known, unfit}
use Rattle.rules.proofs.Draws.{no-station, draws-6, the_rest}
use Rattle.acceptance.proofs.rules_after_reading.Goals as goal
use Rattle.acceptance.proofs.rules_after_reading.Goals.{After-u8_at}

pub rs-rs-requires : goal.rs-rs-requires
rs-rs-requires c = whole-indexed c.requires.0

pub returns-then-rs-eq0 : goal.returns-then-rs-eq0
returns-then-rs-eq0 c =
    no-station c.args.d.now c.requires.3 (none-there (records c.args.d.now) RS 0 c.rs-rs.ensures c.if-rs-eq0.true)

-- the byte is the station's technology
its-technology : (c : After-u8_at) → c.u8_at.result ≡ technology (parameters (records c.args.d.now))
its-technology c = c.u8_at.ensures ∙ ap (number 6 1) c.rs-rs.ensures ∙ sym (technology-at (records c.args.d.now))

pub unfit_in-requires : goal.unfit_in-requires
unfit_in-requires c = (
  c.requires.0,
  c.requires.1,
  c.requires.4,
  c.requires.3,
  subst Known (sym (its-technology c)) (technology-known _ _ (whole-indexed c.requires.0)
      (one-there (records c.args.d.now) RS 0 c.rs-rs.ensures c.if-rs-eq0.false)),
  c.rs-rs.ensures,
  c.requires.2,
)

pub returns-in_err-unfit_in : goal.returns-in_err-unfit_in
returns-in_err-unfit_in c =
    let l = records c.args.d.now in
    let p = err_from_is_err_and c.from_residual.result c.from_residual.ensures.1 in
    rw (p.1, p.2)
    (draws-6 c.args.d.now c.requires.3 (one-there l RS 0 c.rs-rs.ensures c.if-rs-eq0.false) _ _
    (c.in_err-unfit_in.ensures ∙ ap (λ (t : ℕ). unfit t l) (its-technology (goal.at.returns-in_err-unfit_in c).After-u8_at)))

pub returns : goal.returns
returns c =
    let l = records c.args.d.now in
    the_rest c.args.d.now c.requires.3 (one-there l RS 0 c.rs-rs.ensures c.if-rs-eq0.false)
    (c.in_ok-unfit_in.ensures ∙ ap (λ (t : ℕ). unfit t l) (its-technology (goal.at.returns c).After-u8_at)) c.unsupported_of.ensures
