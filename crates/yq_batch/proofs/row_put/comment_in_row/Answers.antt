use Rattle.std.proofs.Common.{Some, refl, ap, arith}
use Rattle.yq_documents.specs.Located.{steps_of}
use Rattle.yq_batch.proofs.RowCommentLaws.{comment_fits, comment_puts_there}
use Rattle.yq_batch.proofs.row_put.comment_in_row.Goals as goal

pub overflow_add-at : goal.overflow_add-at
overflow_add-at c =
    let fits = comment_fits c.args.cut.now c.args.path.now.doc (steps_of c.args.path.now) c.line_end.result.0.now c.line_end.result.1.now
    c.args.at.now c.text_reads.ensures c.requires.row c.line_end.ensures.white c.line_end.ensures.comment in
    omega (arith, fits)

pub comment_place-start-requires : goal.comment_place-start-requires
comment_place-start-requires c =
    comment_fits c.args.cut.now c.args.path.now.doc (steps_of c.args.path.now) c.line_end.result.0.now c.line_end.result.1.now c.args.at.now c.text_reads.ensures c.requires.row c.line_end.ensures.white c.line_end.ensures.comment

pub returns : goal.returns
returns c =
    comment_puts_there c.args.cut.now c.args.path.now.doc (steps_of c.args.path.now) c.args.text.now c.line_end.result.0.now c.line_end.result.1.now c.args.at.now _ c.text_reads.ensures c.requires.row c.requires.operand
    c.line_end.ensures.white c.line_end.ensures.comment refl refl refl c.comment_place-start.ensures.start c.comment_place-start.ensures.end (ap Some c.in_ok-written.ensures)
