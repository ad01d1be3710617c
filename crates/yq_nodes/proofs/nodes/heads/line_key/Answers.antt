use Rattle.std.proofs.Common.{Some, option_map, ap, ◌∙◌}
use Rattle.yq_row_table.specs.View.{slices}
use Rattle.yq_outline.proofs.WalkMarks.{quoted_agrees}
use Rattle.yq_documents.{specs.Decoded.decoded_key, proofs.WalkedRows.{line_here, located_in, row_in, row_there, is_located}}
use Rattle.yq_documents.proofs.LineWritten.{no_key, own_key}
use Rattle.yq_nodes.proofs.nodes.heads.line_key.Goals as goal

pub returns-then-rank_at-ne2 : goal.returns-then-rank_at-ne2
returns-then-rank_at-ne2 c = λ l e. no_key c.document_rows.ensures c.requires.line l e c.rank_at.result c.rank_at.ensures c.if-rank_at-ne2.true

pub key-requires : goal.key-requires
key-requires c = row_in c.document_rows.ensures c.requires.line

pub decoded_key-requires : goal.decoded_key-requires
decoded_key-requires c = quoted_agrees c.document_rows.result.0.now c.document_rows.result.1 (is_located c.document_rows.ensures) c.args.at (line_here c.document_rows.ensures c.requires.line) c.key.result.now c.key.ensures

pub returns : goal.returns
returns c = λ l e.
    let k = located_in c.document_rows.ensures c.requires.line in
    let agrees = c.decoded.ensures k.row (row_there c.document_rows.ensures c.requires.line) in
    ap Some (c.decoded_key.ensures ∙ (ap (decoded_key (option_map (λ m. m.now) c.decoded.result)) (c.key.ensures (slices k.row) k.pieces) ∙ agrees.key))
    ∙ own_key c.document_rows.ensures c.requires.line l e c.rank_at.result c.rank_at.ensures c.if-rank_at-ne2.false

pub rank_at-requires-clause-within : goal.rank_at-requires-clause-within
rank_at-requires-clause-within c = row_in c.document_rows.ensures c.requires.line

pub rank_at-requires-clause-rows_view : goal.rank_at-requires-clause-rows_view
rank_at-requires-clause-rows_view c = c.document_rows.ensures.small
