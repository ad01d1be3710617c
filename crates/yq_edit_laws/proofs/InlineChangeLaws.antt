-- A value on one line in the place of an inline node changes its row alone, and leaves its shape.
use Rattle.std.proofs.Common.{rules, ◌≡◌, [], ◌∷◌, is_some, sym, ap, ◌∙◌}
use Rattle.yq_core.specs.declared.style.Place.TheVariants.{Block as InBlock}
use Rattle.yq_row_table.specs.Rows.{parent_indent}
use Rattle.yq_places.specs.Placements.{held}
use Rattle.yq_edit_rules.{proofs.PlacementRows.rows_located, specs.Layouts.layout_of, specs.RowChanges.InlineValuesChangeRows}
use Rattle.yq_edit_rules.{specs.WrittenValues.value_text, proofs.EditsFitLaws.fits_replace, proofs.ValueTexts.value_for}
use Rattle.yq_edit_laws.{proofs.HeldInline.{content_there, RowMade, node_made}, proofs.HeldCarried.{KnowsHeld, first_alone}}
use Rattle.yq_edit_laws.{proofs.HeldRows.{head_there, headless_there, held_known}, proofs.NodeRowLaws.{rest, mark_node}}

pub inline_values_change_rows : InlineValuesChangeRows
inline_values_change_rows n s ss v c e read at inline plain operand fits size =
    let there = rows_located n s ss c e read at in
    let none : e.under ≡ [] = headless_there n s ss c e there inline.last inline.some in
    let k : KnowsHeld n s ss c e there inline.last = held_known n s ss c e there inline.last read at (ap first_alone none) in
    let f = fits_replace n (s ∷ ss) v c there.part there.old.there operand fits in
    let made : RowMade n c e there.part _ v =
    node_made n s ss c e there inline.last k (layout_of n c).br v f (value_text InBlock (held e).head v) (value_for (held e).head v operand f.deep f.long) inline.some inline.block size in
    let old = head_there (parent_indent e.row) e.row.content (rest n s ss c (mark_node n s ss c e there inline.last)) (content_there n s ss c e there inline.last k inline.some) inline.some in
    let headed = ap is_some made.headed ∙ sym old in
    search (rules, there, there.old.there, made.content, there.rows_are, none, e.row.dashes, e.row.mark, headed, made.read)
