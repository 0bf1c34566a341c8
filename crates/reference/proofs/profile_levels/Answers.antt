use mathlib.Core.Path.{◌≡◌, refl, sym, ◌∙◌}
use mathlib.Core.List.{List}
use Prim.Native.Nat.{ℕ}
use native.Mathlib.Omega.{arith}
use Rattle.lists.specs.Tests.{among}
use Rattle.records.specs.Answers.{Accepted}
use Rattle.records.specs.Table.{table, RS}
use Rattle.records.specs.Record.{datable}
use Rattle.records.specs.Dossier.{records}
use Rattle.station.specs.Parameters.{technology}
use Rattle.rules.specs.Answer.{answer}
use Rattle.rules.specs.Sound.{Sound}
use Rattle.rules.proofs.Sound.{accepted-sound}
use Rattle.lookup.specs.Parts.{parameters_held}
use Rattle.lookup.proofs.Held.{says-always}
use Rattle.parameters.proofs.Always.{full-hours-always}
use Rattle.parameters.proofs.Station.{storage-window}
use Rattle.formulas.specs.Levels.{parameters_in}
use Rattle.arrays.proofs.Packed.{nuclear-packed, storage-packed, hydro-packed, one-handed}
use Rattle.reference.proofs.Accepted.{technology-low, hours-fit, places-fit}
use Rattle.reference.proofs.profile_levels.Goals as goal
use Rattle.reference.proofs.profile_levels.Goals.{Else-technology-eq3}

pub returns-then-technology-eq2 : goal.returns-then-technology-eq2
returns-then-technology-eq2 c =
    let r = c.one_lamination.ensures in
    one-handed r.0 c.requires.6 r.1 r.2
    (nuclear-packed _ _ _ (sym c.technology-technology.ensures.0 ∙ c.if-technology-eq2.true) c.nuclear_energy-energy.ensures)

-- an accepted dossier is sound
sound : (d : List ℕ) → answer d ≡ Accepted → Sound (records d)
sound d e = (accepted-sound d (record { clean = e })).1

pub storage_energy-energy-requires : goal.storage_energy-energy-requires
unfolding datable among table
storage_energy-energy-requires c =
    let a = c.requires in
    let i = a.1 in
    let e : technology (parameters_in c.args.d.now) ≡ 3 = sym (c.technology-technology.ensures.0 ∙ says-always i RS 0 refl 0) ∙ c.if-technology-eq3.true in
    let w = says-always i RS 0 refl 8 in (
      i,
      a.4,
      a.5,
      a.2,
      a.3,
      omega (arith, hours-fit (sound _ a.0) e, full-hours-always i, w),
      omega (arith, storage-window _ _ i e, w),
    )

pub returns-then-technology-eq3 : goal.returns-then-technology-eq3
returns-then-technology-eq3 c =
    let r = c.one_lamination-then-technology-eq3.ensures in
    one-handed r.0 c.requires.6 r.1 r.2
    (storage-packed _ _ _ (sym c.technology-technology.ensures.0 ∙ c.if-technology-eq3.true) c.storage_energy-energy.ensures c.adders-reserve.ensures.0)

-- the station is of no other technology
is-hydro : (c : Else-technology-eq3) → technology (parameters_held c.args.d.now c.args.index.now) ≡ 4
unfolding datable among table
is-hydro c =
    let t = c.technology-technology.ensures in
    omega (
      arith,
      technology-low (sound _ c.requires.0),
      says-always c.requires.1 RS 0 refl 0,
      t.0,
      t.1,
      c.if-technology-eq3.false,
      c.if-technology-eq2.false,
      c.if-technology-eq1.false,
    )

pub hydro_energy-energy-requires : goal.hydro_energy-energy-requires
unfolding datable among table
hydro_energy-energy-requires c =
    let a = c.requires in
    let i = a.1 in
    let h = is-hydro (goal.at.hydro_energy-energy-requires c).Else-technology-eq3 in
    (i, a.2, a.3, omega (arith, places-fit (sound _ a.0) (sym (says-always i RS 0 refl 0) ∙ h), says-always i RS 0 refl 8))

pub returns : goal.returns
returns c =
    let r = c.one_lamination-2.ensures in
    one-handed r.0 c.requires.6 r.1 r.2
    (hydro-packed _ _ _ (is-hydro (goal.at.returns c).Else-technology-eq3) c.hydro_energy-energy.ensures c.adders-reserve.ensures.0)
