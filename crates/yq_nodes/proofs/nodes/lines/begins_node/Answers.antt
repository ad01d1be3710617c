use Rattle.std.proofs.Common.{◌≡◌}
use Rattle.yq_outline.specs.Positions.{has_no_mark}
use Rattle.yq_documents.proofs.WalkedRows.{line_here, of_line, is_located}
use Rattle.yq_nodes.proofs.nodes.lines.begins_node.Goals as goal

pub returns : goal.returns
returns c = of_line c.document_rows.ensures c.args.at (λ l. c.is_bare.result ≡ has_no_mark l.mark) c.is_bare.ensures

pub is_bare-requires-clause-rows_view : goal.is_bare-requires-clause-rows_view
is_bare-requires-clause-rows_view c = c.document_rows.ensures.small

pub is_bare-requires-clause-document : goal.is_bare-requires-clause-document
is_bare-requires-clause-document c = is_located c.document_rows.ensures

pub is_bare-requires-clause-position : goal.is_bare-requires-clause-position
is_bare-requires-clause-position c = line_here c.document_rows.ensures c.requires.line
