use Rattle.std.proofs.Common.{option_map, sym, ap, ◌∙◌}
use Rattle.yq_text.specs.Halves.{whole}
use Rattle.yq_places.{specs.CommentReading.{head_comment_in, head_comment_span}, specs.PathPieces.path_piece}
use Rattle.yq_places.{specs.RowLineReading.position_in, proofs.CommentPlaceLaws.above_view, proofs.HeldLaws.cut_view}
use Rattle.yq_places.{proofs.CommentSpans.comment_spans, proofs.RowLineSpans.{part_agrees, no_part, row_within}}
use Rattle.yq_documents.{specs.Pieces.piece_span, specs.Reading.cut_of, specs.LinesInRows.{document_row, row_line_at}}
use Rattle.yq_documents.specs.declared.path.Part.TheVariants as parts
use Rattle.yq_lookup.proofs.cut_text.CutText.head_comment_place.Goals as goal

pub returns-in_err-at : goal.returns-in_err-at
returns-in_err-at c = rw c.from_residual.ensures (no_part head_comment_in c.args.self.now c.args.path.now c.in_err-at.ensures ∙ sym (comment_spans c.args.path.now (cut_of c.args.self.now)).head)

pub head_comment_in-requires-clause-within : goal.head_comment_in-requires-clause-within
head_comment_in-requires-clause-within c =
    row_within (whole c.self.inside.text) c.self.inside.rows.now c.args.path.now c.in_ok-at.at c.self.invariant.0
    (c.in_ok-at.ensures ∙ ap (λ t. option_map (position_in (document_row c.args.path.now.doc (cut_of t))) (row_line_at c.args.path.now (cut_of t))) (sym c.self.view_is))

pub head_comment_in-requires-clause-rows_view : goal.head_comment_in-requires-clause-rows_view
head_comment_in-requires-clause-rows_view c = cut_view (whole c.self.inside.text) c.self.inside.rows.now c.self.invariant.0

pub returns : goal.returns
returns c =
    part_agrees head_comment_span head_comment_in above_view (whole c.self.inside.text) c.self.inside.rows.now c.args.path.now c.in_ok-at.at _ c.self.invariant.0
    (c.in_ok-at.ensures ∙ ap (λ t. option_map (position_in (document_row c.args.path.now.doc (cut_of t))) (row_line_at c.args.path.now (cut_of t))) (sym c.self.view_is))
    c.head_comment_in.ensures
    ∙ (sym (comment_spans c.args.path.now (cut_of (whole c.self.inside.text))).head
    ∙ ap (λ t. option_map piece_span (path_piece c.args.path.now parts.HeadComment (cut_of t))) c.self.view_is)
