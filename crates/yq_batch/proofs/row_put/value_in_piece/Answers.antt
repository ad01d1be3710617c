use Rattle.std.{proofs.Common.{◌+◌, ℕ, length, refl, ap, subst, arith}, specs.Str.IsUtf8}
use Rattle.yq_core.specs.Values.{value_node}
use Rattle.yq_documents.specs.Located.{steps_of}
use Rattle.yq_places.specs.PlacementViews.{piece_view}
use Rattle.yq_batch.proofs.LonePutLaws.{lone_fits, lone_puts_there}
use Rattle.yq_batch.proofs.row_put.value_in_piece.Goals as goal

pub len-start-requires : goal.len-start-requires
len-start-requires c =
    omega (arith, lone_fits c.args.cut.now c.args.path.now.doc (steps_of c.args.path.now) (value_node c.args.value.now) (piece_view c.args.lone.now) c.text_reads.ensures c.requires.place)

pub overflow_add-result : goal.overflow_add-result
overflow_add-result c =
    omega (arith, lone_fits c.args.cut.now c.args.path.now.doc (steps_of c.args.path.now) (value_node c.args.value.now) (piece_view c.args.lone.now) c.text_reads.ensures c.requires.place, c.len-start.ensures)

pub returns : goal.returns
returns c =
    let lone = c.args.lone.now in
    lone_puts_there c.args.cut.now c.args.path.now.doc (steps_of c.args.path.now) (value_node c.args.value.now) (piece_view lone) c.text_reads.ensures c.requires.place _ c.requires.operand
    (subst IsUtf8 c.of-run.ensures.whole c.is_text.ensures) c.is_text-2.ensures refl c.in-Some.ensures c.len-start.ensures (ap (λ (n : ℕ). n + length lone.text.now) c.len-start.ensures) c.in_ok-written.ensures
