use Rattle.std.proofs.Common.{rules, ◌≡◌, ℕ, Some, option_map, sym, ap, ◌∙◌, subst}
use Rattle.yq_core.specs.BlockWritten.{break_text}
use Rattle.yq_row_table.specs.Rows.{cut_text}
use Rattle.yq_documents.{specs.Located.steps_of, specs.Pieces.TextPiece, specs.Reading.cut_of}
use Rattle.yq_places.{specs.CommentPlaces.lines_above, specs.FirstBreak.first_break, specs.PlacementViews.piece_view}
use Rattle.yq_edit_rules.{specs.Answers.GivesSegments, specs.CommentEdits.head_comment_segments}
use Rattle.yq_block_edits.proofs.AboveLaws.{head_there}
use Rattle.yq_block_edits.proofs.head_comment.head_comment_at.Goals as goal

pub returns : goal.returns
returns c =
    let n = c.args.path.now.doc in
    let steps = steps_of c.args.path.now in
    let cut = cut_of c.args.cut.now in
    let br = break_text (first_break (cut_text cut)) in
    let above : ℕ × TextPiece = (c.in-Some.column, piece_view c.in-Some.above) in
    let found : Some above ≡ lines_above n steps cut = sym (ap (option_map (λ x. (x.0, piece_view x.1))) c.in-Some.is) ∙ c.lines_above.ensures in
    let same : GivesSegments c.map.result (Some (head_comment_segments br c.args.text.now above)) = search rules in
    subst (GivesSegments c.map.result) (head_there n steps cut br c.args.text.now (Some above) found) same
