use mathlib.Core.Path.{refl}
use Rattle.records.specs.MarkShapes.{key_test}
use Rattle.records.proofs.MarkShapes.{which}
use Rattle.records.proofs.in_key.Goals as goal

pub returns : goal.returns
unfolding key_test
returns c =
    rw (c.in_fields.ensures, c.mark_shape.ensures, c.ne.ensures)
    (which c.args.mark
    (λ e. rw e refl) (λ e. rw e refl) (λ e. rw e refl) (λ e. rw e refl) (λ e. rw e refl) (λ e. rw e refl) (λ e. rw e refl) (λ e. rw e refl)
    (λ e. rw e refl) (λ e. rw e refl) (λ e. rw e refl) (λ e. rw e refl) (λ e. rw e refl) (λ e. rw e refl) (λ e. rw e refl) (λ e. rw e refl))
