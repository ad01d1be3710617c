use Rattle.std.proofs.Common.{refl, sym, ◌∙◌}
use Rattle.yq_core.specs.Values.{value_node}
use Rattle.yq_documents.specs.Located.{steps_of}
use Rattle.yq_batch.proofs.EmptyHeadLaws.{no_bytes, spaced_puts_there}
use Rattle.yq_batch.proofs.empty_heads.value_in_nothing.Goals as goal

pub returns : goal.returns
returns c =
    let plain = sym c.is_filled.ensures ∙ c.if-is_filled.false in
    spaced_puts_there c.args.cut.now c.args.path.now.doc (steps_of c.args.path.now) (value_node c.args.value.now) c.args.at.now c.requires.place.0 _ c.text_reads.ensures c.requires.row
    c.requires.place.1 (no_bytes c.args.at.now.head.now (sym c.is_empty.ensures ∙ c.if-not-is_empty.false)) plain c.requires.operand refl refl refl refl refl c.in_ok-written.ensures
