use Rattle.std.proofs.Common.{◌≡◌}
use Rattle.yq_outline.specs.Outline.{key_of}
use Rattle.yq_core.specs.Paths.{is_item}
use Rattle.yq_documents.proofs.WalkedRows.{line_here, of_line, is_located}
use Rattle.yq_nodes.proofs.nodes.lines.begins_item.Goals as goal

pub returns : goal.returns
returns c = of_line c.document_rows.ensures c.args.at (λ l. c.is_item_at.result ≡ is_item (key_of l.mark)) c.is_item_at.ensures

pub is_item_at-requires-clause-rows_view : goal.is_item_at-requires-clause-rows_view
is_item_at-requires-clause-rows_view c = c.document_rows.ensures.small

pub is_item_at-requires-clause-document : goal.is_item_at-requires-clause-document
is_item_at-requires-clause-document c = is_located c.document_rows.ensures

pub is_item_at-requires-clause-position : goal.is_item_at-requires-clause-position
is_item_at-requires-clause-position c = line_here c.document_rows.ensures c.requires.line
