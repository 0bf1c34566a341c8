use native.Mathlib.Omega.{arith}
use Rattle.records.proofs.Read.{two-letters}
use Rattle.records.proofs.is_mark.Goals as goal

pub returns : goal.returns
returns c =
    rw (c.from_le_bytes.ensures, c.from_le_bytes-2.ensures, ← c.byte_at-2.ensures, ← c.byte_at.ensures)
    (two-letters _ _ _ _ c.byte_at.type_inv (omega arith))
