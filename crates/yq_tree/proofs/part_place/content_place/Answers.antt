use Rattle.std.proofs.Common.{option_and_then, sym, ap, ◌∙◌}
use Rattle.yq_core.specs.Entries.{PlacedEntry, content_place}
use Rattle.yq_documents.specs.Reading.{cut_of}
use Rattle.yq_places.{specs.EntryReading.{flow_entry_at, line_content_at}, proofs.EntryPlaceLaws.{TextSpan, or_flow, content_either}}
use Rattle.yq_places.proofs.PieceHolds.{spans_are}
use Rattle.yq_tree.proofs.part_place.content_place.Goals as goal

pub returns-in-Some : goal.returns-in-Some
returns-in-Some c =
    let p = c.args.path.now in
    let cut = cut_of c.args.documents.now in
    ap (λ (o : TextSpan). or_flow o (option_and_then (λ (e : PlacedEntry). content_place e.1) (flow_entry_at p cut))) (c.in-Some.ensures ∙ ap (λ t. line_content_at p (cut_of t)) c.of.ensures)
    ∙ (sym (content_either p cut) ∙ sym (spans_are c.args.documents.now cut p c.rows-rows.ensures.cut c.rows-rows.ensures.sound).0)

pub returns-in_err-entry : goal.returns-in_err-entry
returns-in_err-entry c =
    let p = c.args.path.now in
    let cut = cut_of c.args.documents.now in
    rw c.from_residual.ensures (ap (option_and_then (λ (e : PlacedEntry). content_place e.1)) c.in_err-entry.ensures
    ∙ (ap (λ (o : TextSpan). or_flow o (option_and_then (λ (e : PlacedEntry). content_place e.1) (flow_entry_at p cut))) (c.in_default.ensures ∙ ap (λ t. line_content_at p (cut_of t)) c.of.ensures)
    ∙ (sym (content_either p cut) ∙ sym (spans_are c.args.documents.now cut p c.rows-rows.ensures.cut c.rows-rows.ensures.sound).0)))

pub returns : goal.returns
returns c =
    let p = c.args.path.now in
    let cut = cut_of c.args.documents.now in
    c.content_span.ensures
    ∙ (ap (option_and_then (λ (e : PlacedEntry). content_place e.1)) c.in_ok-entry.ensures
    ∙ (ap (λ (o : TextSpan). or_flow o (option_and_then (λ (e : PlacedEntry). content_place e.1) (flow_entry_at p cut))) (c.in_default.ensures ∙ ap (λ t. line_content_at p (cut_of t)) c.of.ensures)
    ∙ (sym (content_either p cut) ∙ sym (spans_are c.args.documents.now cut p c.rows-rows.ensures.cut c.rows-rows.ensures.sound).0)))
