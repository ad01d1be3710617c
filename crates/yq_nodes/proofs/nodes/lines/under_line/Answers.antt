use Rattle.std.{proofs.Common.{◌≡◌, ◌+◌, ap, sym, ◌∙◌, arith}, proofs.lemmas.Option.slice_get_within}
use Rattle.yq_outline.{specs.Ends.part, specs.Outline.level}
use Rattle.yq_documents.specs.Stretches.{document_lines, number_of}
use Rattle.yq_documents.proofs.WalkedRows.{line_here, located_in, own_line, row_in, is_located, agrees_rows}
use Rattle.yq_nodes.proofs.nodes.lines.under_line.Goals as goal

pub next-requires-clause-document : goal.next-requires-clause-document
next-requires-clause-document c = is_located c.document_rows.ensures

pub next-requires-clause-position : goal.next-requires-clause-position
next-requires-clause-position c = line_here c.document_rows.ensures c.requires.line

pub level_at-requires-clause-within : goal.level_at-requires-clause-within
level_at-requires-clause-within c = row_in c.document_rows.ensures c.requires.line

pub level_at-requires-clause-rows_view : goal.level_at-requires-clause-rows_view
level_at-requires-clause-rows_view c = c.document_rows.ensures.small

pub returns-clause-lines : goal.returns-clause-lines
returns-clause-lines c = λ l e.
    let k = located_in c.document_rows.ensures c.requires.line in
    let number = agrees_rows c.document_rows.ensures (λ ls num. num c.next.result ≡ num c.args.at + 1) c.next.ensures.number in
    let deep : c.level_at.result ≡ level l = c.level_at.ensures _ k.pieces ∙ (sym k.level_agrees ∙ ap level (own_line c.document_rows.ensures c.requires.line l e)) in
    λ i. part (document_lines c.args.document c.args.text.now) (number i) (deep i)

pub returns-clause-fewer : goal.returns-clause-fewer
returns-clause-fewer c =
    let ls = document_lines c.args.document c.args.text.now in
    let number : number_of c.args.document c.args.text.now c.next.result ≡ number_of c.args.document c.args.text.now c.args.at + 1 =
    agrees_rows c.document_rows.ensures (λ ls num. num c.next.result ≡ num c.args.at + 1) c.next.ensures.number in
    omega (arith, number, slice_get_within ls (number_of c.args.document c.args.text.now c.args.at) c.requires.line.line c.requires.line.there)
