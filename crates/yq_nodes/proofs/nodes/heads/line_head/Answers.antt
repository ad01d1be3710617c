use Rattle.std.{proofs.Common.{◌≡◌, List, ℕ, false, true, ap, subst, sym, ◌∙◌}, specs.Prelude.{is_some, option_map}}
use Rattle.yq_core.{specs.Scalars.is_quoted, specs.Quoted.IsQuotedText}
use Rattle.yq_row_table.specs.View.{slices}
use Rattle.yq_documents.specs.Decoded.{borrowed_head, decoded_or, decoded_view}
use Rattle.yq_documents.proofs.WalkedRows.{line_here, located_in, of_line, row_in, row_there, is_located}
use Rattle.yq_documents.proofs.LineWritten.{head_none, head_quoted, head_some}
use Rattle.yq_nodes.proofs.nodes.heads.line_head.Goals as goal

pub returns-then-not-has_head : goal.returns-then-not-has_head
returns-then-not-has_head c = λ l e. head_none l.head (of_line c.document_rows.ensures c.args.at (λ m. false ≡ is_some m.head) c.if-not-has_head.ensures l e)

pub returns-in-Some : goal.returns-in-Some
returns-in-Some c = λ l e.
    let k = located_in c.document_rows.ensures c.requires.line in
    let agrees = c.known_head.ensures k.row (row_there c.document_rows.ensures c.requires.line) in
    c.decoded_body.ensures
    ∙ (ap (λ o. decoded_or (option_map decoded_view o) (borrowed_head (slices k.row).head)) (sym c.in-Some.is)
    ∙ (agrees.head ∙ head_some c.document_rows.ensures c.requires.line l e (of_line c.document_rows.ensures c.args.at (λ m. true ≡ is_some m.head) c.if-not-has_head.ensures l e)))

pub head-requires : goal.head-requires
head-requires c = row_in c.document_rows.ensures c.requires.line

pub borrowed_head-requires : goal.borrowed_head-requires
borrowed_head-requires c =
    let k = located_in c.document_rows.ensures c.requires.line in
    subst (λ (y : List ℕ). is_quoted y ≡ true → IsQuotedText y) (sym (c.head.ensures (slices k.row) k.pieces)) (head_quoted c.document_rows.ensures c.requires.line)

pub returns-in-None : goal.returns-in-None
returns-in-None c = λ l e.
    let k = located_in c.document_rows.ensures c.requires.line in
    let agrees = c.known_head.ensures k.row (row_there c.document_rows.ensures c.requires.line) in
    c.borrowed_head.ensures
    ∙ (ap borrowed_head (c.head.ensures (slices k.row) k.pieces)
    ∙ (ap (λ o. decoded_or (option_map decoded_view o) (borrowed_head (slices k.row).head)) (sym c.in-None.is)
    ∙ (agrees.head ∙ head_some c.document_rows.ensures c.requires.line l e (of_line c.document_rows.ensures c.args.at (λ m. true ≡ is_some m.head) c.if-not-has_head.ensures l e))))

pub has_head-requires-clause-document : goal.has_head-requires-clause-document
has_head-requires-clause-document c = is_located c.document_rows.ensures

pub has_head-requires-clause-position : goal.has_head-requires-clause-position
has_head-requires-clause-position c = line_here c.document_rows.ensures c.requires.line
