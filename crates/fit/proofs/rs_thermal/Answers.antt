use Rattle.fit.proofs.Unfit.{rs-thermal}
use Rattle.fit.proofs.rs_thermal.Goals as goal

pub returns : goal.returns
returns c =
    rw (
      c.u16_at-3.ensures,
      c.u16_at-2.ensures,
      c.u32_at-2.ensures,
      c.u32_at.ensures,
      c.u16_at.ensures,
    ) (rs-thermal _)
