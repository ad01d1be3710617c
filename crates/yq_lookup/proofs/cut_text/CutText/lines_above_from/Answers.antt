use Rattle.std.{proofs.Common.{option_map, sym, ap, ◌∙◌, subst}, proofs.lemmas.Option.same_Some, specs.Str.IsUtf8}
use Rattle.yq_text.specs.Halves.{whole}
use Rattle.yq_places.{specs.RowLineReading.position_in, specs.PlacementViews.piece_view}
use Rattle.yq_places.proofs.CommentEndLaws.{no_lines_above, other_lines_above, gap_is_there, lines_above_is}
use Rattle.yq_places.proofs.RowLineSpans.{row_within}
use Rattle.yq_documents.{specs.Located.steps_of, specs.Reading.cut_of, specs.LinesInRows.{document_row, row_line_at}}
use Rattle.yq_row_table.specs.View.{Slices}
use Rattle.yq_places.specs.CommentPlaces as spec
use Rattle.yq_lookup.proofs.cut_text.CutText.lines_above_from.Goals as goal

pub returns-in_err-at : goal.returns-in_err-at
returns-in_err-at c = ap (option_map (λ x. (x.0, piece_view x.1))) c.from_residual.ensures ∙ no_lines_above c.args.path.now (cut_of c.args.self.now) (document_row c.args.path.now.doc (cut_of c.args.self.now)) c.in_err-at.ensures

pub returns-then-at-ne0 : goal.returns-then-at-ne0
returns-then-at-ne0 c = other_lines_above c.args.path.now (cut_of c.args.self.now) c.in_ok-at.at c.in_ok-at.ensures c.if-at-ne0.true

pub row_start-start-requires-clause-within : goal.row_start-start-requires-clause-within
row_start-start-requires-clause-within c =
    row_within (whole c.self.inside.text) c.self.inside.rows.now c.args.path.now c.in_ok-at.at c.self.invariant.0
    (c.in_ok-at.ensures ∙ ap (λ t. option_map (position_in (document_row c.args.path.now.doc (cut_of t))) (row_line_at c.args.path.now (cut_of t))) (sym c.self.view_is))

pub row-row-requires : goal.row-row-requires
row-row-requires c =
    row_within (whole c.self.inside.text) c.self.inside.rows.now c.args.path.now c.in_ok-at.at c.self.invariant.0
    (c.in_ok-at.ensures ∙ ap (λ t. option_map (position_in (document_row c.args.path.now.doc (cut_of t))) (row_line_at c.args.path.now (cut_of t))) (sym c.self.view_is))

pub above-requires : goal.above-requires
above-requires c = record {
  gap = (gap_is_there (whole c.self.inside.text) c.self.inside.rows.now c.self.invariant.0 c.args.path.now c.in_ok-at.at
      (c.in_ok-at.ensures ∙ ap (λ t. option_map (position_in (document_row c.args.path.now.doc (cut_of t))) (row_line_at c.args.path.now (cut_of t))) (sym c.self.view_is))
      c.row_start-start.result c.gap-gap.result.now (whole c.whole-whole.result) c.row_start-start.ensures
      (λ (y : Slices) is. c.gap-gap.ensures ∙ ap (λ (s : Slices). s.gap) (same_Some _ _ (sym c.row-row.ensures ∙ is)))
      (c.whole-whole.ensures.text ∙ sym c.self.view_is) (subst IsUtf8 (sym c.self.view_is) c.whole-whole.ensures.utf8)).0;
}

pub returns : goal.returns
returns c =
    lines_above_is (whole c.self.inside.text) c.self.inside.rows.now c.self.invariant.0 c.args.path.now c.in_ok-at.at
    (c.in_ok-at.ensures ∙ ap (λ t. option_map (position_in (document_row c.args.path.now.doc (cut_of t))) (row_line_at c.args.path.now (cut_of t))) (sym c.self.view_is))
    c.row_start-start.result c.gap-gap.result.now (whole c.whole-whole.result) c.column-column.result _ c.row_start-start.ensures
    (λ (y : Slices) is. c.gap-gap.ensures ∙ ap (λ (s : Slices). s.gap) (same_Some _ _ (sym c.row-row.ensures ∙ is)))
    (c.whole-whole.ensures.text ∙ sym c.self.view_is) (subst IsUtf8 (sym c.self.view_is) c.whole-whole.ensures.utf8)
    (λ (y : Slices) is. c.column-column.ensures ∙ ap (λ (s : Slices). s.column) (same_Some _ _ (sym c.row-row.ensures ∙ is)))
    c.if-at-ne0.false c.above.ensures
    ∙ ap (λ t. spec.lines_above c.args.path.now.doc (steps_of c.args.path.now) (cut_of t)) c.self.view_is
