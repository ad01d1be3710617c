use Rattle.std.proofs.Common.{refl, sym, ◌∙◌, arith}
use Rattle.yq_core.specs.Values.{value_node}
use Rattle.yq_documents.specs.Located.{steps_of}
use Rattle.yq_batch.proofs.RowPutLaws.{value_fits, value_puts}
use Rattle.yq_batch.proofs.row_put.value_in_row.Goals as goal

pub overflow_add-result : goal.overflow_add-result
overflow_add-result c =
    let plain = sym c.is_filled.ensures ∙ c.if-is_filled.false in
    let fits = value_fits c.args.cut.now c.args.path.now.doc (steps_of c.args.path.now) (value_node c.args.value.now) c.args.at.now c.text_reads.ensures c.requires.row c.if-not-at.false plain in
    omega (arith, fits)

pub returns : goal.returns
returns c =
    let plain = sym c.is_filled.ensures ∙ c.if-is_filled.false in
    value_puts c.args.cut.now c.args.path.now.doc (steps_of c.args.path.now) (value_node c.args.value.now) c.args.at.now _ c.text_reads.ensures c.requires.row c.if-not-at.false plain c.requires.operand
    refl refl refl refl refl c.in_ok-written.ensures
