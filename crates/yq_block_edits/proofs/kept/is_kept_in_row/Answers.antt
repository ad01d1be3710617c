use Rattle.std.proofs.Common.{sym, ◌∙◌}
use Rattle.yq_documents.specs.Located.{steps_of}
use Rattle.yq_block_edits.proofs.RowKeptLaws.{kept_in_row}
use Rattle.yq_core.specs.Values as values
use Rattle.yq_block_edits.proofs.kept.is_kept_in_row.Goals as goal

pub returns : goal.returns
returns c =
    c.is_plain.ensures ∙ kept_in_row c.args.text.now c.args.path.now.doc (steps_of c.args.path.now) (values.value_node c.args.value.now)
    c.args.at.now c.text-text.ensures.read c.requires.row c.requires.inline (sym c.is_short_plain.ensures ∙ c.if-not-is_short_plain.false)
