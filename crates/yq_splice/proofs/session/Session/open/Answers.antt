use Rattle.std.{proofs.Common.{rules, ap, sym, ◌∙◌, ◌≡◌, ℕ, List, Some, ◌++◌, append-nil, subst}, proofs.lemmas.Result.err_from_is_err_and}
use Rattle.yq_documents.specs.Reading.{cut_of, read_at}
use Rattle.yq_splice.proofs.SessionLaws.{has_reading, not_opened}
use Rattle.yq_text.specs.TextGapBuffer.{buffer_text}
use Rattle.yq_row_table.{specs.Kept.IsPlaced, specs.Meter.{count_after, line_count}, specs.View.rows_view}
use Rattle.yq_splice.proofs.session.Session.open.Goals as goal

pub returns-in_err-documents-clause-refused : goal.returns-in_err-documents-clause-refused
returns-in_err-documents-clause-refused c =
    let p = err_from_is_err_and c.from_residual.result c.from_residual.ensures.1 in
    rw (p.1, p.2)
    (not_opened c.in_err-documents.field-0.0 c.as_bytes.result.now c.args.text.now c.as_bytes.ensures.value c.utf8.text
    (record { none = c.in_err-documents.ensures.exact; utf8 = c.in_err-documents.ensures.not_utf8 }))

pub returns-clause-text : goal.returns-clause-text
returns-clause-text c =
    (search rules, has_reading c.args.text.now (cut_of c.in_ok-documents.documents) (ap read_at (sym c.as_bytes.ensures.value) ∙ c.in_ok-documents.ensures.exact))

pub invariant_of-result : goal.invariant_of-result
invariant_of-result c =
    let text : buffer_text c.of-text.result ≡ c.args.text.now = (λ i. c.of-text.ensures.front i ++ c.of-text.ensures.back i) ∙ (append-nil _ ∙ c.in_ok-from_str.ensures.ok) in (
      record {
        cut = cut_of c.in_ok-documents.documents;
        read = ap read_at (text ∙ sym c.as_bytes.ensures.value) ∙ c.in_ok-documents.ensures.exact;
        placed = subst (IsPlaced c.into_places-places.result) c.into_rows.ensures c.into_places-places.ensures;
      },
      c.none.ensures (rows_view (cut_of (buffer_text c.of-text.result))),
    )

pub returns-clause-exact : goal.returns-clause-exact
returns-clause-exact c =
    let text : buffer_text c.of-text.result ≡ c.args.text.now = (λ i. c.of-text.ensures.front i ++ c.of-text.ensures.back i) ∙ (append-nil _ ∙ c.in_ok-from_str.ensures.ok) in
    let documents = c.in_ok-documents.ensures.text ∙ (c.as_bytes.ensures.value ∙ sym text) in
    ap read_at (sym c.as_bytes.ensures.value) ∙ (c.in_ok-documents.ensures.exact ∙ ap (λ (t : List ℕ). Some (cut_of t)) documents)

pub returns-clause-scanned : goal.returns-clause-scanned
returns-clause-scanned c = c.count_lines.ensures ∙ ap (count_after (line_count c.args.text.now)) c.new-meter.ensures
