use Rattle.rules.proofs.ByMark.{fits-rs}
use Rattle.trials.proofs.rs_fits.Goals as goal

pub returns : goal.returns
returns c =
    simp (
      c.field_fits-7.ensures,
      c.u16_at-3.ensures,
      c.field_fits-6.ensures,
      c.u16_at-2.ensures,
      c.field_fits-5.ensures,
      c.u32_at-4.ensures,
      c.field_fits-4.ensures,
      c.u32_at-3.ensures,
      c.field_fits-3.ensures,
      c.u32_at-2.ensures,
      c.field_fits-2.ensures,
      c.u32_at.ensures,
      c.field_fits.ensures,
      c.u16_at.ensures,
    )
    (fits-rs _ _ c.requires)
