use Rattle.std.proofs.Common.{arith}
use Rattle.yq_documents.{proofs.WalkedRows.row_in, proofs.LineWritten.{gap_first, gap_later}}
use Rattle.yq_nodes.proofs.nodes.heads.line_gap.Goals as goal

pub returns-then-at-gt0 : goal.returns-then-at-gt0
returns-then-at-gt0 c = λ l e. gap_later c.document_rows.ensures c.requires.line l e c.if-at-gt0.true

pub gap-requires : goal.gap-requires
gap-requires c = row_in c.document_rows.ensures c.requires.line

pub returns : goal.returns
returns c = λ l e. gap_first c.document_rows.ensures c.requires.line l e c.gap.result.now c.gap.ensures (omega (arith, c.if-at-gt0.false))
