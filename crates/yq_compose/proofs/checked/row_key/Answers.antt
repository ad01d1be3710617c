use Rattle.std.proofs.Common.{◌≡◌, true, List, ℕ, sym, ap, ◌∙◌, subst}
use Rattle.yq_core.{specs.Quoted.IsQuotedText, specs.Scalars.is_quoted}
use Rattle.yq_outline.proofs.WalkPositions.{has_row}
use Rattle.yq_documents.specs.Decoded.{decoded_key}
use Rattle.yq_compose.{proofs.ReadyLaws.key_agrees, proofs.RowBegins.{key_plain, key_quoted}}
use Rattle.yq_compose.proofs.checked.row_key.Goals as goal

pub decoded_key-requires : goal.decoded_key-requires
decoded_key-requires c =
    let x = c.args.x in
    let r = has_row x.rows.now.rows c.args.row c.requires.within in
    subst (λ (p : List ℕ). is_quoted p ≡ true → IsQuotedText p) (sym (c.key-piece.ensures r.0 r.1)) (key_quoted x.text.now x.rows.now x.decoded.now x.document c.requires.ready c.args.row r.0 r.1)

pub returns-then-is_quoted : goal.returns-then-is_quoted
returns-then-is_quoted c = λ s e.
    let x = c.args.x in
    c.decoded_key.ensures ∙ ((λ i. decoded_key (c.decoded_here.ensures x.decoded.now c.requires.decoded i) (c.key-piece.ensures s e i)) ∙ key_agrees x.text.now x.rows.now x.decoded.now x.document c.requires.ready c.args.row s e)

pub returns : goal.returns
returns c = λ s e.
    let x = c.args.x in
    let key = c.key-piece.ensures s e in
    let plain = ap is_quoted (sym key) ∙ (ap is_quoted (sym c.as_bytes.ensures.value) ∙ (sym c.is_quoted.ensures ∙ c.if-is_quoted.false)) in
    key ∙ key_plain x.text.now x.rows.now x.decoded.now x.document c.requires.ready c.args.row s e plain
