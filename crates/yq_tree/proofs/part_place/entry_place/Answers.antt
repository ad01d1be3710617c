use Rattle.std.proofs.Common.{Some, option_map, sym, ap, ◌∙◌}
use Rattle.yq_core.specs.Entries.{entry_place}
use Rattle.yq_documents.specs.Reading.{cut_of}
use Rattle.yq_places.{specs.EntryReading.{flow_entry_at, line_entry_at}, proofs.EntryPlaceLaws.{TextSpan, or_flow, entry_either}}
use Rattle.yq_places.proofs.PieceHolds.{spans_are}
use Rattle.yq_tree.proofs.part_place.entry_place.Goals as goal

pub returns-in-Some : goal.returns-in-Some
returns-in-Some c =
    let p = c.args.path.now in
    let cut = cut_of c.args.documents.now in
    ap (λ (o : TextSpan). or_flow o (option_map entry_place (flow_entry_at p cut))) (c.in-Some.ensures ∙ ap (λ t. line_entry_at p (cut_of t)) c.of.ensures)
    ∙ (sym (entry_either p cut) ∙ sym (spans_are c.args.documents.now cut p c.rows-rows.ensures.cut c.rows-rows.ensures.sound).1)

pub returns-in_err-entry : goal.returns-in_err-entry
returns-in_err-entry c =
    let p = c.args.path.now in
    let cut = cut_of c.args.documents.now in
    rw c.from_residual.ensures (ap (option_map entry_place) c.in_err-entry.ensures
    ∙ (ap (λ (o : TextSpan). or_flow o (option_map entry_place (flow_entry_at p cut))) (c.in_default.ensures ∙ ap (λ t. line_entry_at p (cut_of t)) c.of.ensures)
    ∙ (sym (entry_either p cut) ∙ sym (spans_are c.args.documents.now cut p c.rows-rows.ensures.cut c.rows-rows.ensures.sound).1)))

pub returns : goal.returns
returns c =
    let p = c.args.path.now in
    let cut = cut_of c.args.documents.now in
    ap Some c.entry_span.ensures
    ∙ (ap (option_map entry_place) c.in_ok-entry.ensures
    ∙ (ap (λ (o : TextSpan). or_flow o (option_map entry_place (flow_entry_at p cut))) (c.in_default.ensures ∙ ap (λ t. line_entry_at p (cut_of t)) c.of.ensures)
    ∙ (sym (entry_either p cut) ∙ sym (spans_are c.args.documents.now cut p c.rows-rows.ensures.cut c.rows-rows.ensures.sound).1)))
