use mathlib.Core.Path.{refl}
use Rattle.records.specs.Table.{table, row_of}
use Rattle.records.specs.Record.{widths, key_in}
use Rattle.records.specs.MarkShapes.{shape, shape_of}
use Rattle.records.proofs.MarkShapes.{which}
use Rattle.records.proofs.mark_shape.Goals as goal

pub returns : goal.returns
unfolding shape shape_of row_of widths key_in table
returns c =
    which c.args.mark
    (λ e. rw e refl) (λ e. rw e refl) (λ e. rw e refl) (λ e. rw e refl) (λ e. rw e refl) (λ e. rw e refl) (λ e. rw e refl) (λ e. rw e refl)
    (λ e. rw e refl) (λ e. rw e refl) (λ e. rw e refl) (λ e. rw e refl) (λ e. rw e refl) (λ e. rw e refl) (λ e. rw e refl) (λ e. rw e refl)
