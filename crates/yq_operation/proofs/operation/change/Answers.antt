use Rattle.yq_semantics.specs.Operations.{operation_of}
use Rattle.yq_edit_laws.proofs.ApplyLaws.{segments_short}
use Rattle.yq_operation.proofs.operation.change.Goals as goal

pub changes-requires : goal.changes-requires
changes-requires c = segments_short (operation_of c.args.op.now) c.args.cut.now c.in_ok-segments.segments c.text-text.ensures.read c.in_ok-segments.ensures
