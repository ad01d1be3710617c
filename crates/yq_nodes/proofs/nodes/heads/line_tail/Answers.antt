use Rattle.std.proofs.Common.{◌≤◌, arith}
use Rattle.yq_documents.{proofs.WalkedRows.row_in, proofs.LineWritten.{tail_before, tail_last}}
use Rattle.yq_nodes.proofs.nodes.heads.line_tail.Goals as goal

pub lines_before_mark-requires : goal.lines_before_mark-requires
lines_before_mark-requires c = row_in c.document_rows.ensures c.requires.line

pub returns-then-at-lines_before_mark : goal.returns-then-at-lines_before_mark
returns-then-at-lines_before_mark c = λ l e. tail_before c.document_rows.ensures c.requires.line l e c.lines_before_mark.result c.lines_before_mark.ensures c.if-at-lines_before_mark.true

pub tail-requires : goal.tail-requires
tail-requires c = row_in c.document_rows.ensures c.requires.line

pub returns : goal.returns
returns c = λ l e.
    let past : c.lines_before_mark.result ≤ c.args.at.line = omega (arith, c.if-at-lines_before_mark.false) in
    tail_last c.document_rows.ensures c.requires.line l e c.lines_before_mark.result c.lines_before_mark.ensures past c.tail.result.now c.tail.ensures
